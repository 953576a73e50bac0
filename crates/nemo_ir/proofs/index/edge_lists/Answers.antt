use Rattle.nemo_ir.proofs.Tables.{edge_next}
use Rattle.nemo_ir.proofs.index.edge_lists.Goals as goal

pub loop-e-preserved : goal.loop-e-preserved
loop-e-preserved c = edge_next c.args.end _ _ _ _ _ _ _ c.loop-e-test.true c.loop-e.invariant c.end_of.ensures c.in_ok-put.ensures
