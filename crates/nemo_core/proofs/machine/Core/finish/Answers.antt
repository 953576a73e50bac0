use Rattle.nemo_core.proofs.Single.{within_idle}
use Rattle.nemo_core.proofs.machine.Core.finish.Goals as goal

pub invariant_of-self : goal.invariant_of-self
invariant_of-self c =
    within_idle c.self.inside.taken c.self.inside.launches c.self.inside.commits _ c.self.inside.tasks c.end_all.new.tasks c.self.inside.sealed.items c.self.invariant c.end_all.ensures
