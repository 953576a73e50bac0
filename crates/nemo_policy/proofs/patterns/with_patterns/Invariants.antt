use Rattle.std.proofs.Common.{◌≡◌, ◌++◌, drop, map}
use Rattle.nemo_policy.specs.Passes.{set_pattern}
use Rattle.nemo_policy.proofs.patterns.with_patterns.Given as goal

-- the edges so far, and then those that are left, are all edges
abbrev pub invariant-loop-e : goal.invariant-loop-e
invariant-loop-e l = l.all ++ map (set_pattern l.flat l.dag.vertices) (drop l.e-index l.dag.edges) ≡ map (set_pattern l.flat l.dag.vertices) l.dag.edges
