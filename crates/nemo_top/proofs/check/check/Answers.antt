use Rattle.serde_json.specs.View.{view}
use Rattle.nemo_top.specs.Answers.{Leads}
use Rattle.nemo_top.specs.Reached.{of_bundle}
use Rattle.nemo_top.specs.declared.word.Command.TheVariants.{Check}
use Rattle.nemo_top.proofs.Leading.{ends_in, ends_lead, refused_leads}
use Rattle.nemo_top.proofs.check.check.Goals as goal

pub returns-in_err-bundle : goal.returns-in_err-bundle
returns-in_err-bundle c bytes json =
    let end = c.in_err-bundle.field-0.0 in
    ends_in c.from_residual.result (Leads Check bytes) (of_bundle end) c.from_residual.ensures.1 (refused_leads Check (view c.args.value) end c.in_err-bundle.ensures.bundle bytes json)

pub returns : goal.returns
returns c = ends_lead Check (view c.args.value) c.in_ok-bundle.bundle c.check_bundle.result c.in_ok-bundle.ensures.bundle c.check_bundle.ensures
