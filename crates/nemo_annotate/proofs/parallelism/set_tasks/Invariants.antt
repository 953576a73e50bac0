use Rattle.std.proofs.Common.{◌≡◌, ◌≤◌, ℕ, [], take, drop, length}
use Rattle.nemo_ir.specs.Along.{along}
use Rattle.nemo_ir.specs.Nodes.{edge_at}
use Rattle.nemo_annotate.specs.Passes.{with_tasks}
use Rattle.nemo_annotate.proofs.parallelism.set_tasks.Given as goal

-- the vertices so far, with those that are left after them, are all vertices, and the edges that are left have those into them
abbrev pub invariant-loop-v : goal.invariant-loop-v
invariant-loop-v l = record {
  made : along (with_tasks l.flat l.p l.edges) (take l.v l.vertices) (drop l.v l.vertices) ≡ along (with_tasks l.flat l.p l.edges) [] l.initial.vertices;
  size : length l.vertices ≡ length l.initial.vertices;
  left : (w port : ℕ) → l.v ≤ w → edge_at l.rest w port ≡ edge_at l.edges w port;
}
