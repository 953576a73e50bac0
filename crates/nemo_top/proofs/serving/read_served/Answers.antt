use Rattle.std.proofs.Common.{◌∙◌, ap, sym}
use Rattle.serde_json.specs.View.{view}
use Rattle.nemo_top.specs.Served.{is_served}
use Rattle.nemo_top.proofs.Chains.{served_runnable}
use Rattle.nemo_top.proofs.serving.read_served.Goals as goal

pub returns-then-is_served-clause-runnable : goal.returns-then-is_served-clause-runnable
returns-then-is_served-clause-runnable c =
    let e = c.in-Ok.ensures in
    served_runnable (view c.args.value) c.in-Ok.bundle e.bundle (ap (λ g. is_served g c.in-Ok.bundle) (sym c.of-given.ensures) ∙ sym c.is_served.ensures ∙ c.if-is_served.true) e.filled e.flat e.tasks
