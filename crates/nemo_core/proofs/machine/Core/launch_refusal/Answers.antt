use Rattle.std.proofs.Common.{◌∷◌, [], ◌==◌, sym, ◌∙◌}
use Rattle.std.specs.Prelude.{◌&&◌}
use Rattle.nemo_base.specs.declared.why.Why.TheVariants.{BadName}
use Rattle.nemo_core.specs.State.{blocks_read}
use Rattle.nemo_core.specs.Step.{launch_conditions, are_holders}
use Rattle.nemo_core.proofs.Failing.{early}
use Rattle.nemo_core.proofs.machine.Core.launch_refusal.Goals as goal

pub returns-in-Some : goal.returns-in-Some
returns-in-Some c =
    let m = c.args.self.now in
    sym (early (launch_conditions m.graph m.settings m.state c.args.task c.args.slot) (((c.args.attempt == m.state.launches) && are_holders (blocks_read m.graph m.state c.args.task) c.args.reads.now, BadName) ∷ []) c.in-Some.why (sym c.ready_refusal.ensures ∙ c.in-Some.is))
