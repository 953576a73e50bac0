use Rattle.std.proofs.Common.{◌≡◌, ◌∙◌, sym, ap, map, get_or}
use Rattle.std.specs.Prelude.{slice_get}
use Rattle.std.proofs.lemmas.Result.{IfOk-weaker}
use Rattle.nemo_job.specs.Held.{known}
use Rattle.nemo_job.proofs.Giving.{given_sink}
use Rattle.nemo_job.proofs.held.step.Goals as goal

pub returns-in-Sink-clause-given : goal.returns-in-Sink-clause-given
returns-in-Sink-clause-given c =
    let n = c.args.node.now in
    let held = map known c.args.held.now.items in
    let is : c.as_slice-inputs.result.now ≡ n.inputs = c.as_slice-inputs.ensures in
    IfOk-weaker c.handed.result _ _ (λ h given vals feeds.
    given_sink vals held c.args.place n.transform.now n.inputs c.in-Sink.name (known h) c.in-Sink.is c.requires.ports feeds (sym (ap (λ l. slice_get held (get_or l 0 0)) is) ∙ given))
    c.handed.ensures.given
