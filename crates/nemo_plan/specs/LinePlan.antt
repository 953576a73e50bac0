-- The plan of a line with a uniform DAG.
use Rattle.std.specs.Prelude.{◌≡◌, ◌≤◌, ℕ, zero, suc, List, [], ◌∷◌, length}
use Rattle.nemo_base.specs.Places.{map_at}
use Rattle.nemo_base.specs.declared.annotation.Pattern.TheVariants.{OneToOne}
use Rattle.nemo_ir.specs.Along.{below}
use Rattle.nemo_ir.specs.Flat.{FlatForm, transform_of}
use Rattle.nemo_ir.specs.Nodes.{Feed, Node, deed_or, nodes}
use Rattle.nemo_ir.specs.declared.dag.IrDag.{IrDag}
use Rattle.nemo_ir.specs.declared.flat.FlatVertex.{FlatVertex}
use Rattle.nemo_plan.specs.Graph.{graph_of, vertices_of}
use Rattle.nemo_plan.specs.Line.{line_graph}
use Rattle.nemo_plan.specs.Stages.{count_stages, stages_of}

-- each vertex is fed by the one before it, task by task
abbrev pub line_feeds : ℕ → List Feed
line_feeds zero = []
line_feeds (suc v) = record { from = v; pattern = OneToOne } ∷ []

-- each vertex does what the flat vertex of its number does
abbrev pub line_node : FlatForm → ℕ → ℕ → FlatVertex → Node
line_node flat n v x = record { deed = deed_or (transform_of flat x); parallelism = n; feeds = line_feeds v }

-- there is one stage of m vertices with n tasks, and vertex v of the DAG stands for flat vertex v
pub record IsLinePlan (flat : FlatForm) (dag : IrDag) (m n : ℕ) : Type 0 where
  pub some : 1 ≤ m
  pub tasks : 1 ≤ n
  pub few : n ≤ 64
  pub flat_count : length flat.vertices ≡ m
  pub count : length dag.vertices ≡ m
  pub nodes_are : nodes flat.transforms dag ≡ map_at (line_node flat n) 0 flat.vertices
  pub one_stage : count_stages (stages_of flat dag) ≡ 1
  pub vertices_are : vertices_of (stages_of flat dag) 0 ≡ below m
  pub graph_is : graph_of flat dag ≡ line_graph m n
