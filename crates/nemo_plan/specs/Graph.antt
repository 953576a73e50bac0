-- The graph of tasks of a flat job and its DAG.
use Rattle.std.specs.Prelude.{ℕ, zero, suc, ◌==◌, ◌&&◌, ◌||◌, not, Bool, true, false, nat_le, List, [], ◌∷◌, length, map, filter, slice_get, Option, Some, None, if◌then◌else◌}
use Rattle.std.specs.List.{list_all, list_any, filter_map, flat_map}
use Rattle.nemo_base.specs.declared.annotation.Class.{Class}
use Rattle.nemo_base.specs.declared.annotation.Class.TheVariants.{Transient}
use Rattle.nemo_base.specs.declared.graph.Home.{Home}
use Rattle.nemo_base.specs.declared.graph.Home.TheVariants.{Master, Pushed, Local}
use Rattle.nemo_base.specs.declared.graph.Read.{Read}
use Rattle.nemo_base.specs.declared.graph.StageRow.{StageRow}
use Rattle.nemo_base.specs.declared.graph.TaskGraph.{TaskGraph}
use Rattle.nemo_base.specs.declared.graph.VertexRow.{VertexRow}
use Rattle.nemo_base.specs.Places.{map_at}
use Rattle.nemo_transform.specs.declared.transform.Transform.{Transform}
use Rattle.nemo_ir.specs.Along.{below, passes}
use Rattle.nemo_ir.specs.Flat.{FlatForm, is_sink}
use Rattle.nemo_ir.specs.Nodes.{deed_of, edge_at, transform_in}
use Rattle.nemo_ir.specs.Valid.{is_hash, is_one_to_one, is_trigger, kinds_at}
use Rattle.nemo_ir.specs.declared.dag.IrDag.{IrDag}
use Rattle.nemo_ir.specs.declared.dag.IrEdge.{IrEdge}
use Rattle.nemo_ir.specs.declared.dag.IrVertex.{IrVertex}
use Rattle.nemo_ir.specs.Uniform.{is_kept, is_pull}
use Rattle.nemo_plan.specs.Stages.{count_stages, in_edges, stage_at, stages_of}

-- an edge leaves its producer's stage
abbrev pub leaves : List ℕ → IrEdge → Bool
leaves stages e = passes (λ a. passes (λ b. not (a == b)) (stage_at stages e.to)) (stage_at stages e.from)

-- the out-edges of a vertex that leave its stage
abbrev pub leaving : IrDag → List ℕ → ℕ → List IrEdge
leaving dag stages v = filter (λ e. (e.from == v) && leaves stages e) dag.edges

-- the transform that a vertex does, if it is an Op of one
abbrev pub vertex_transform : FlatForm → IrVertex → Option Transform
vertex_transform flat u = transform_in (deed_of flat.transforms u.kind)

abbrev pub is_sink_vertex : FlatForm → IrVertex → Bool
is_sink_vertex flat u = is_sink (vertex_transform flat u)

abbrev pub is_any : {X : Type 0} → List X → Bool
is_any [] = false
is_any (x ∷ xs) = true

-- a vertex has blocks where it is a sink or an edge leaves its stage
abbrev pub has_blocks : FlatForm → IrDag → List ℕ → ℕ → IrVertex → Bool
has_blocks flat dag stages v u = is_sink_vertex flat u || is_any (leaving dag stages v)

-- the vertices of a stage, in order
abbrev pub vertices_of : List ℕ → ℕ → List ℕ
vertices_of stages s = filter (λ v. passes (λ a. a == s) (stage_at stages v)) (below (length stages))

-- what a task reads along an in-edge, where it comes from another stage
abbrev pub read_along : List ℕ → Option IrEdge → Option Read
read_along stages (Some e) = if leaves stages e then Some (record { vertex = e.from; wide = not (is_one_to_one e.pattern) }) else None
read_along stages None = None

abbrev pub reads_into : FlatForm → IrDag → List ℕ → ℕ → Option IrVertex → List Read
reads_into flat dag stages v (Some u) = filter_map (λ port. read_along stages (edge_at dag.edges v port)) (below (length (kinds_at flat u)))
reads_into flat dag stages v None = []

-- what a stage reads, in the order of its vertices and their ports
abbrev pub reads_of : FlatForm → IrDag → List ℕ → ℕ → List Read
reads_of flat dag stages s = flat_map (λ v. reads_into flat dag stages v (slice_get dag.vertices v)) (vertices_of stages s)

abbrev pub greatest : List ℕ → ℕ
greatest [] = 0
greatest (n ∷ ns) = if nat_le n (greatest ns) then greatest ns else n

abbrev pub of_stage : (ℕ → ℕ) → Option ℕ → ℕ
of_stage rank (Some s) = rank s
of_stage rank None = 0

-- 0 where a stage reads nothing, and one more than the greatest rank that it reads; as many turns as there are stages reach all
abbrev pub rank_in : FlatForm → IrDag → List ℕ → ℕ → ℕ → ℕ
rank_in flat dag stages zero s = 0
rank_in flat dag stages (suc turns) s = greatest (map (λ r. suc (of_stage (rank_in flat dag stages turns) (stage_at stages r.vertex))) (reads_of flat dag stages s))

abbrev pub rank_of : FlatForm → IrDag → List ℕ → ℕ → ℕ
rank_of flat dag stages s = rank_in flat dag stages (count_stages stages) s

abbrev pub class_of : Option IrVertex → Class
class_of (Some u) = u.class
class_of None = Transient

abbrev pub tasks_of : Option IrVertex → ℕ
tasks_of (Some u) = u.parallelism
tasks_of None = 0

-- all vertices of a stage have the class and the parallelism of its first
abbrev pub first_vertex : IrDag → List ℕ → Option IrVertex
first_vertex dag [] = None
first_vertex dag (v ∷ vs) = slice_get dag.vertices v

abbrev pub stage_row : FlatForm → IrDag → List ℕ → ℕ → StageRow
stage_row flat dag stages s = record {
  class = class_of (first_vertex dag (vertices_of stages s));
  parallelism = tasks_of (first_vertex dag (vertices_of stages s));
  rank = rank_of flat dag stages s;
  blocks = filter (λ v. passes (has_blocks flat dag stages v) (slice_get dag.vertices v)) (vertices_of stages s);
  reads = reads_of flat dag stages s;
}

-- the producer of an in-edge, where it is a Trigger
abbrev pub trigger_along : IrDag → Option IrEdge → Option ℕ
trigger_along dag (Some e) = if passes (λ u. is_trigger u.kind) (slice_get dag.vertices e.from) then Some e.from else None
trigger_along dag None = None

abbrev pub keeps_none : List IrEdge → Bool
keeps_none es = list_all (λ e. not (is_kept e.keep)) es

abbrev pub home_of : FlatForm → IrVertex → List IrEdge → Home
home_of flat u out = if is_sink_vertex flat u then Master else (if list_any (λ e. not (is_pull e.flow)) out then Pushed else Local)

abbrev pub vertex_row : FlatForm → IrDag → List ℕ → ℕ → IrVertex → VertexRow
vertex_row flat dag stages v u = record {
  stage = of_stage (λ s. s) (stage_at stages v);
  parallelism = u.parallelism;
  hashed = list_any (λ e. is_hash e.pattern) (in_edges dag v);
  triggers = filter_map (λ port. trigger_along dag (edge_at dag.edges v port)) (below (length (kinds_at flat u)));
  home = home_of flat u (leaving dag stages v);
  discard = not (is_sink_vertex flat u) && keeps_none (leaving dag stages v);
}

-- the graph of tasks
abbrev pub graph_of : FlatForm → IrDag → TaskGraph
graph_of flat dag = record {
  stages = map (stage_row flat dag (stages_of flat dag)) (below (count_stages (stages_of flat dag)));
  vertices = map_at (vertex_row flat dag (stages_of flat dag)) 0 dag.vertices;
}
