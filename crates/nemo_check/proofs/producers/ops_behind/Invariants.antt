use Rattle.std.proofs.Common.{◌≡◌, drop, [], length}
use Rattle.nemo_ir.specs.Along.{along}
use Rattle.nemo_ir.specs.Nodes.{resolve_step}
use Rattle.nemo_check.proofs.producers.ops_behind.Given as goal

-- the Ops so far, and then those of the vertices that are left, are all Ops
abbrev pub invariant-loop-v : goal.invariant-loop-v
invariant-loop-v l = record {
  along : along (resolve_step l.index.edges) l.ops.items (drop l.v l.vertices) ≡ along (resolve_step l.index.edges) [] l.vertices;
  so_far : length l.ops.items ≡ l.v;
}
