-- The graph of a line that is one stage: m vertices of n tasks each, of which the last is a sink.
use Rattle.std.specs.Prelude.{ℕ, suc, ◌-◌, ◌==◌, not, Bool, false, [], ◌∷◌, map, if◌then◌else◌}
use Rattle.nemo_base.specs.declared.annotation.Class.TheVariants.{Transient}
use Rattle.nemo_base.specs.declared.graph.Home.TheVariants.{Master, Local}
use Rattle.nemo_base.specs.declared.graph.StageRow.{StageRow}
use Rattle.nemo_base.specs.declared.graph.TaskGraph.{TaskGraph}
use Rattle.nemo_base.specs.declared.graph.VertexRow.{VertexRow}
use Rattle.nemo_ir.specs.Along.{below}

-- only the last vertex has blocks, which the master keeps
abbrev pub vertex_of : Bool → ℕ → VertexRow
vertex_of last n = record {
  stage = 0;
  parallelism = n;
  hashed = false;
  triggers = [];
  home = if last then Master else Local;
  discard = not last;
}

abbrev pub line_vertex : ℕ → ℕ → ℕ → VertexRow
line_vertex m n v = vertex_of (suc v == m) n

abbrev pub line_stage : ℕ → ℕ → StageRow
line_stage m n = record { class = Transient; parallelism = n; rank = 0; blocks = (m - 1) ∷ []; reads = [] }

abbrev pub line_graph : ℕ → ℕ → TaskGraph
line_graph m n = record { stages = line_stage m n ∷ []; vertices = map (line_vertex m n) (below m) }
