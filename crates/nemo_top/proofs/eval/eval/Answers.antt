use Rattle.std.proofs.Common.{ap, ◌∙◌, ◌++◌}
use Rattle.std.specs.Cow.{cow_slice_items}
use Rattle.serde_json.specs.View.{view}
use Rattle.nemo_report.specs.Texts.{sinks_lines, text_of}
use Rattle.nemo_top.specs.Answers.{Leads}
use Rattle.nemo_top.specs.Reached.{of_bundle, of_job}
use Rattle.nemo_top.specs.Statuses.{last_lines}
use Rattle.nemo_top.specs.declared.status.Status.TheVariants.{Done}
use Rattle.nemo_top.specs.declared.word.Command.TheVariants.{Eval}
use Rattle.nemo_top.proofs.Leading.{ends_in, fault_leads, no_job_leads, rows_done}
use Rattle.nemo_top.proofs.eval.eval.Goals as goal

pub returns-in_err-job : goal.returns-in_err-job
returns-in_err-job c bytes json =
    let end = c.in_err-job.field-0.0 in
    ends_in c.from_residual.result (Leads Eval bytes) (of_bundle end) c.from_residual.ensures.1 (no_job_leads (view c.args.value) end c.in_err-job.ensures.job bytes json)

pub returns-in_err-sinks : goal.returns-in_err-sinks
returns-in_err-sinks c bytes json =
    let end = c.in_err-sinks.field-0.0 in
    ends_in c.from_residual-in_err-sinks.result (Leads Eval bytes) (of_job end) c.from_residual-in_err-sinks.ensures.1 (fault_leads (view c.args.value) c.in_ok-job.job end c.in_ok-job.ensures.job c.in_err-sinks.ensures.end bytes json)

pub returns : goal.returns
returns c bytes json =
    let text = c.done.ensures.text ∙ c.in_ok-text.ensures ∙ ap (λ sinks. text_of (sinks_lines sinks ++ last_lines Done)) c.in_ok-sinks.ensures.rows in
    rows_done (view c.args.value) c.in_ok-job.job c.done.result.status c.done.result.log (cow_slice_items c.done.result.text) c.done.ensures.status c.done.ensures.log c.in_ok-job.ensures.job c.in_ok-sinks.ensures.faultless text bytes json
