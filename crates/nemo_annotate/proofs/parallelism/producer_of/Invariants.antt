use Rattle.std.proofs.Common.{◌≡◌, drop}
use Rattle.nemo_ir.specs.Nodes.{edge_at, producer}
use Rattle.nemo_annotate.proofs.parallelism.producer_of.Given as goal

abbrev pub invariant-loop-e : goal.invariant-loop-e
invariant-loop-e l = producer (edge_at (drop l.e-index l.edges) l.v 0) ≡ producer (edge_at l.edges l.v 0)
