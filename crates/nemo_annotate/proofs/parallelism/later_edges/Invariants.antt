use Rattle.std.proofs.Common.{◌≡◌, ◌≤◌, ℕ, drop}
use Rattle.nemo_ir.specs.Nodes.{edge_at}
use Rattle.nemo_annotate.proofs.parallelism.later_edges.Given as goal

-- the edges that were passed lead to vertices before this one
abbrev pub invariant-loop-i : goal.invariant-loop-i
invariant-loop-i l = (w port : ℕ) → l.v ≤ w → edge_at (drop l.i l.edges) w port ≡ edge_at l.edges w port
