use Rattle.nemo_top.specs.Answers.{Leads}
use Rattle.nemo_top.specs.Reached.{of_parse}
use Rattle.nemo_top.proofs.Leading.{ends_in, no_value}
use Rattle.nemo_top.proofs.reach.serve.Goals as goal

pub returns-in_err-value : goal.returns-in_err-value
returns-in_err-value c =
    let bytes = c.args.bytes.items in
    ends_in c.from_residual.result (Leads c.args.command bytes) (of_parse c.in_err-value.field-0.0) c.from_residual.ensures.1 (no_value c.args.command bytes c.in_err-value.field-0.0 c.in_err-value.ensures.end)
