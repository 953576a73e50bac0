use Rattle.std.proofs.Common.{refl}
use Rattle.nemo_job.proofs.Releasing.{released_one}
use Rattle.nemo_job.proofs.held.taken.Goals as goal

pub returns-clause-released : goal.returns-clause-released
returns-clause-released c = λ last place at.
    let h = c.index_mut.result.now in
    released_one last place c.args.input c.args.held.now.items h (record { rows = c.replace.new.dest; first = h.first }) c.requires c.index_mut.ensures.value refl at
