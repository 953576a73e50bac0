use Rattle.std.proofs.Common.{◌≡◌, take, length}
use Rattle.nemo_ir.specs.Index.{edge_lists}
use Rattle.nemo_ir.proofs.index.edge_lists.Given as goal

-- the lists of the edges so far
abbrev pub invariant-loop-e : goal.invariant-loop-e
invariant-loop-e l = l.lists.items ≡ edge_lists l.end (length l.dag.vertices) (take l.e-index l.e-items)
