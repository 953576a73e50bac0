use Rattle.std.proofs.Common.{◌≡◌, ◌++◌, drop}
use Rattle.nemo_base.specs.Places.{map_at}
use Rattle.nemo_plan.specs.Graph.{vertex_row}
use Rattle.nemo_plan.proofs.graph.vertex_rows.Given as goal

-- the rows so far, and then those of the vertices that are left, are all rows
abbrev pub invariant-loop-v : goal.invariant-loop-v
invariant-loop-v l = l.all ++ map_at (vertex_row l.flat l.index l.stages) l.v (drop l.v l.vertices) ≡ map_at (vertex_row l.flat l.index l.stages) 0 l.vertices
