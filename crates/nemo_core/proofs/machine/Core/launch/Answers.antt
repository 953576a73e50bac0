use Rattle.std.proofs.Common.{◌∙◌, ap, sym}
use Rattle.nemo_core.specs.State.{Machine}
use Rattle.nemo_core.proofs.Single.{within_launched}
use Rattle.nemo_core.proofs.machine.Core.launch.Goals as goal

pub invariant_of-self : goal.invariant_of-self
invariant_of-self c =
    within_launched c.self.inside.taken c.self.inside.launches c.self.inside.commits _ c.args.attempt c.args.task c.args.slot c.self.inside.tasks c.launch.new.tasks c.self.inside.sealed.items c.self.invariant
    (c.requires.next ∙ sym (ap (λ (m : Machine). m.state.launches) c.self.view_is))
    c.launch.ensures
