use Rattle.std.proofs.Common.{◌==◌, map, sym, ap, ◌∙◌}
use Rattle.std.specs.Prelude.{◌&&◌}
use Rattle.nemo_base.specs.declared.why.Why.TheVariants.{BadName, Over}
use Rattle.nemo_core.specs.State.{Machine, blocks_read, holder}
use Rattle.nemo_core.specs.Step.{are_holders, is_going, launch_conditions}
use Rattle.nemo_core.proofs.Failing.{between}
use Rattle.nemo_core.proofs.Holders.{right_name}
use Rattle.nemo_core.proofs.machine.Core.launch_refused.Goals as goal

pub returns : goal.returns
returns c =
    let m = c.args.self.now in
    let bs = blocks_read m.graph m.state c.args.task in
    between (is_going m.state.outcome) ((m.state.launches == m.state.launches) && are_holders bs (map holder bs)) (launch_conditions m.graph m.settings m.state c.args.task c.args.slot) Over BadName c.ready_refusal.result (sym (c.is_going.ensures ∙ ap (λ (x : Machine). is_going x.state.outcome) c.self.view_is) ∙ c.if-not-is_going.false) (right_name m.state.launches bs) c.ready_refusal.ensures
