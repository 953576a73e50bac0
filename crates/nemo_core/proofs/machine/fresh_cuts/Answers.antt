use Rattle.nemo_core.proofs.Sound.{vertex_bounds}
use Rattle.nemo_core.proofs.machine.fresh_cuts.Goals as goal

pub even-requires-clause-some : goal.even-requires-clause-some
even-requires-clause-some c = (vertex_bounds c.args.graph.now c.as_slice-row-items.result.now c.loop-row.row-index _ c.row-item.result c.requires c.as_slice-row-items.ensures c.loop-row-test.true c.row-item.is).0

pub even-requires-clause-few : goal.even-requires-clause-few
even-requires-clause-few c = (vertex_bounds c.args.graph.now c.as_slice-row-items.result.now c.loop-row.row-index _ c.row-item.result c.requires c.as_slice-row-items.ensures c.loop-row-test.true c.row-item.is).1
