-- What the graph of a valid DAG keeps of the DAG.
use Rattle.std.specs.Prelude.{◌≡◌, ◌⊎◌, ◌<◌, ℕ, not, true, List, length, slice_get, Some}
use Rattle.nemo_base.specs.Sound.{is_in, is_sound}
use Rattle.nemo_base.specs.Needed.{blocks_of}
use Rattle.nemo_base.specs.declared.annotation.Flow.TheVariants.{Pull}
use Rattle.nemo_base.specs.declared.annotation.Pattern.{Pattern}
use Rattle.nemo_base.specs.declared.annotation.Pattern.TheVariants.{Hash, OneToOne}
use Rattle.nemo_base.specs.declared.graph.Home.TheVariants.{Master}
use Rattle.nemo_base.specs.declared.graph.Read.{Read}
use Rattle.nemo_base.specs.declared.graph.StageRow.{StageRow}
use Rattle.nemo_base.specs.declared.graph.TaskGraph.{TaskGraph}
use Rattle.nemo_base.specs.declared.graph.VertexRow.{VertexRow}
use Rattle.nemo_value.specs.Members.{In}
use Rattle.nemo_ir.specs.Flat.{IsFlat}
use Rattle.nemo_ir.specs.Nodes.{Feed, Node, nodes}
use Rattle.nemo_ir.specs.Valid.{Valid, is_one_to_one}
use Rattle.nemo_ir.specs.declared.dag.IrDag.{IrDag}
use Rattle.nemo_ir.specs.declared.dag.IrEdge.{IrEdge}
use Rattle.nemo_ir.specs.declared.dag.IrVertex.{IrVertex}
use Rattle.nemo_ir.specs.declared.dag.VertexKind.TheVariants.{Trigger}
use Rattle.nemo_plan.specs.Form.{PlanForm, graph}
use Rattle.nemo_plan.specs.Graph.{is_sink_vertex, rank_of, reads_of}
use Rattle.nemo_plan.specs.Stages.{count_stages, stage_at, stages_of}

-- how a task reads a vertex along an edge of this pattern
abbrev pub read_by : ℕ → Pattern → Read
read_by v pattern = record { vertex = v; wide = not (is_one_to_one pattern) }

-- the stage reads blocks of another by this read
pub record IsReadBy (g : TaskGraph) (stage other : ℕ) (r : Read) : Type 0 where
  pub reader : StageRow
  pub is : slice_get g.stages stage ≡ Some reader
  pub reads : In r reader.reads
  pub differs : other ≡ stage → ⊥
  pub has : is_in r.vertex (blocks_of g other) ≡ true

-- the in-edge of a vertex of the stage along which its tasks read, from another stage
pub record IsReadFrom (dag : IrDag) (stages : List ℕ) (stage : ℕ) (r : Read) : Type 0 where
  pub edge : IrEdge
  pub place : ℕ
  pub there : slice_get dag.edges place ≡ Some edge
  pub is : r ≡ read_by edge.from edge.pattern
  pub before : ℕ
  pub from : stage_at stages edge.from ≡ Some before
  pub to : stage_at stages edge.to ≡ Some stage
  pub differs : before ≡ stage → ⊥

-- the in-edge of a vertex that comes from this Trigger
pub record IsTriggeredBy (dag : IrDag) (v t : ℕ) : Type 0 where
  pub edge : IrEdge
  pub place : ℕ
  pub there : slice_get dag.edges place ≡ Some edge
  pub from : edge.from ≡ t
  pub to : edge.to ≡ v
  pub pattern : edge.pattern ≡ Hash
  pub source : IrVertex
  pub source_at : slice_get dag.vertices t ≡ Some source
  pub kind : source.kind ≡ Trigger

-- what leads along an edge of this pattern from a vertex of one stage into one of another: the stages are one, and then the
-- edge is OneToOne, or the second reads the first
abbrev pub Joins : TaskGraph → ℕ → Pattern → ℕ → ℕ → Type 0
Joins g from pattern before stage = ((before ≡ stage) × (pattern ≡ OneToOne)) ⊎ IsReadBy g stage before (read_by from pattern)

-- the row of a vertex
pub record IsRow (p : PlanForm) (v : ℕ) (u : IrVertex) (row : VertexRow) : Type 0 where
  pub stage : stage_at (stages_of p.flat p.dag) v ≡ Some row.stage
  pub parallelism : row.parallelism ≡ u.parallelism
  pub sink : is_sink_vertex p.flat u ≡ true → (row.home ≡ Master) × (is_in v (blocks_of (graph p) row.stage) ≡ true)
  pub kept : row.home ≡ Master → is_sink_vertex p.flat u ≡ true

-- the row of a stage
pub record IsStageRow (p : PlanForm) (s : ℕ) (row : StageRow) : Type 0 where
  pub blocks : (v : ℕ) → is_in v row.blocks ≡ true → stage_at (stages_of p.flat p.dag) v ≡ Some s
  pub alike : (v : ℕ) (u : IrVertex) → slice_get p.dag.vertices v ≡ Some u → stage_at (stages_of p.flat p.dag) v ≡ Some s → (u.class ≡ row.class) × (u.parallelism ≡ row.parallelism)
  pub some : (v : ℕ) × (stage_at (stages_of p.flat p.dag) v ≡ Some s)
  pub rank : row.rank ≡ rank_of p.flat p.dag (stages_of p.flat p.dag) s
  pub reads : row.reads ≡ reads_of p.flat p.dag (stages_of p.flat p.dag) s

pub record IsWired (p : PlanForm) (g : TaskGraph) : Type 0 where
  pub is : g ≡ graph p
  pub sound : is_sound g ≡ true
  pub staged : length (stages_of p.flat p.dag) ≡ length p.dag.vertices
  pub vertex_count : length g.vertices ≡ length p.dag.vertices
  pub node_count : length (nodes p.flat.transforms p.dag) ≡ length p.dag.vertices
  pub stage_count : length g.stages ≡ count_stages (stages_of p.flat p.dag)
  -- each vertex, each stage
  pub rows : (v : ℕ) (u : IrVertex) (row : VertexRow) → slice_get p.dag.vertices v ≡ Some u → slice_get g.vertices v ≡ Some row → IsRow p v u row
  pub stages : (s : ℕ) (row : StageRow) → slice_get g.stages s ≡ Some row → IsStageRow p s row
  pub known : (v s : ℕ) → stage_at (stages_of p.flat p.dag) v ≡ Some s → s < length g.stages
  -- a vertex as a task computes it has the parallelism of its row
  pub tasks : (v : ℕ) (node : Node) (row : VertexRow) → slice_get (nodes p.flat.transforms p.dag) v ≡ Some node → slice_get g.vertices v ≡ Some row → node.parallelism ≡ row.parallelism
  -- what feeds a vertex stands before it, and each edge leads to a later vertex
  pub feeds_rise : (v : ℕ) (node : Node) (f : Feed) → slice_get (nodes p.flat.transforms p.dag) v ≡ Some node → In f node.feeds → f.from < v
  pub feeds_join : (v : ℕ) (node : Node) (f : Feed) (row before : VertexRow) → slice_get (nodes p.flat.transforms p.dag) v ≡ Some node → In f node.feeds
      → slice_get g.vertices v ≡ Some row → slice_get g.vertices f.from ≡ Some before → Joins g f.from f.pattern before.stage row.stage
  pub edges_rise : (i : ℕ) (e : IrEdge) → slice_get p.dag.edges i ≡ Some e → (e.from < e.to) × (e.to < length p.dag.vertices)
  pub edges_join : (i : ℕ) (e : IrEdge) (row before : VertexRow) → slice_get p.dag.edges i ≡ Some e
      → slice_get g.vertices e.to ≡ Some row → slice_get g.vertices e.from ≡ Some before → Joins g e.from e.pattern before.stage row.stage
  -- an edge within a stage is pulled
  pub pulled : (i : ℕ) (e : IrEdge) (s : ℕ) → slice_get p.dag.edges i ≡ Some e → stage_at (stages_of p.flat p.dag) e.from ≡ Some s
      → stage_at (stages_of p.flat p.dag) e.to ≡ Some s → e.flow ≡ Pull
  -- each read of a stage goes along an in-edge of one of its vertices
  pub reads_from : (s : ℕ) (row : StageRow) (r : Read) → slice_get g.stages s ≡ Some row → In r row.reads → IsReadFrom p.dag (stages_of p.flat p.dag) s r
  -- what a stage reads are blocks of a stage of lower rank
  pub reads_blocks : (s other : ℕ) (row : StageRow) (r : Read) → slice_get g.stages s ≡ Some row → In r row.reads → stage_at (stages_of p.flat p.dag) r.vertex ≡ Some other → IsReadBy g s other r
  pub ranks_fall : (s other : ℕ) (row before : StageRow) (r : Read) → slice_get g.stages s ≡ Some row → In r row.reads → stage_at (stages_of p.flat p.dag) r.vertex ≡ Some other
      → slice_get g.stages other ≡ Some before → before.rank < row.rank
  -- each trigger of a vertex is a Trigger that feeds it
  pub triggered : (v t : ℕ) (row : VertexRow) → slice_get g.vertices v ≡ Some row → In t row.triggers → IsTriggeredBy p.dag v t

-- The graph of every valid DAG is sound, and keeps what leads where.
abbrev pub GraphLaw : Type 0
GraphLaw = (p : PlanForm) → IsFlat p.flat → Valid p.flat p.dag → IsWired p (graph p)
