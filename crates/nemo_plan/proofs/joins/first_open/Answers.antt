use Rattle.std.proofs.Common.{◌∙◌, sym}
use Rattle.nemo_plan.specs.Making.{open_at}
use Rattle.nemo_plan.proofs.Walks.{first_past}
use Rattle.nemo_plan.proofs.joins.first_open.Goals as goal

pub loop-port-preserved : goal.loop-port-preserved
loop-port-preserved c =
    first_past (open_at c.args.index.now c.args.stages.now c.args.v c.args.class c.args.closed.now) c.loop-port.port c.args.ports c.loop-port-test.true (sym c.open_at.ensures ∙ c.in_default.is) ∙ c.loop-port.invariant
