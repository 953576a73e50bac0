use Rattle.serde_json.specs.View.{view}
use Rattle.nemo_top.specs.Answers.{Leads}
use Rattle.nemo_top.specs.Reached.{of_bundle}
use Rattle.nemo_top.specs.declared.word.Command.TheVariants.{Solo}
use Rattle.nemo_top.proofs.Leading.{ends_in, ends_lead, refused_leads}
use Rattle.nemo_top.proofs.solo.solo.Goals as goal

pub returns-in_err-bundle : goal.returns-in_err-bundle
returns-in_err-bundle c bytes json =
    let end = c.in_err-bundle.field-0.0 in
    ends_in c.from_residual.result (Leads Solo bytes) (of_bundle end) c.from_residual.ensures.1 (refused_leads Solo (view c.args.value) end c.in_err-bundle.ensures.bundle bytes json)

pub returns : goal.returns
returns c = ends_lead Solo (view c.args.value) c.in_ok-bundle.bundle c.run_bundle.result c.in_ok-bundle.ensures.bundle c.run_bundle.ensures
