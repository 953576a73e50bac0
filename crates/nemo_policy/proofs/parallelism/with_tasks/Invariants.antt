use Rattle.std.proofs.Common.{◌≡◌, [], drop, length}
use Rattle.nemo_ir.specs.Along.{along}
use Rattle.nemo_policy.specs.Passes.{set_tasks}
use Rattle.nemo_policy.proofs.parallelism.with_tasks.Given as goal

-- the vertices so far, with those that are left after them, are all vertices
abbrev pub invariant-loop-u : goal.invariant-loop-u
invariant-loop-u l = record {
  made : along (set_tasks l.flat l.p l.dag.edges) l.all (drop l.u-index l.dag.vertices) ≡ along (set_tasks l.flat l.p l.dag.edges) [] l.dag.vertices;
  count : length l.all ≡ l.u-index;
}
