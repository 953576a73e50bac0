-- What the graph of a valid DAG keeps of the DAG.
use Rattle.std.proofs.Common.{arith, ◌≡◌, ◌∙◌, ap, sym, subst, refl, ℕ, ◌<◌, Bool, true, false, cond, List, length, not, slice_get, Some, inl, inr}
use Rattle.std.specs.List.{list_any}
use Rattle.std.proofs.lemmas.Bool.{cases_eq}
use Rattle.nemo_base.specs.Needed.{blocks_of}
use Rattle.nemo_base.specs.Places.{is_in}
use Rattle.nemo_base.specs.declared.graph.Home.TheVariants.{Master, Pushed, Local}
use Rattle.nemo_base.specs.declared.graph.Read.{Read}
use Rattle.nemo_base.specs.declared.graph.StageRow.{StageRow}
use Rattle.nemo_base.specs.declared.graph.VertexRow.{VertexRow}
use Rattle.nemo_value.specs.Members.{In}
use Rattle.nemo_ir.specs.Flat.{FlatForm, IsFlat}
use Rattle.nemo_ir.specs.Nodes.{Feed, Node, nodes}
use Rattle.nemo_ir.specs.Uniform.{is_pull}
use Rattle.nemo_ir.specs.Valid.{Valid}
use Rattle.nemo_ir.specs.declared.dag.IrDag.{IrDag}
use Rattle.nemo_ir.specs.declared.dag.IrEdge.{IrEdge}
use Rattle.nemo_ir.specs.declared.dag.IrVertex.{IrVertex}
use Rattle.nemo_plan.specs.Form.{PlanForm, graph}
use Rattle.nemo_plan.specs.Graph.{class_of, is_sink_vertex, leaving, of_stage, rank_of, reads_of, stage_row, vertex_row}
use Rattle.nemo_plan.specs.Stages.{count_stages, stage_at, stages_of}
use Rattle.nemo_plan.specs.Wiring.{GraphLaw, IsReadBy, IsRow, IsStageRow, IsWired, Joins}
use Rattle.nemo_ir.proofs.Places.{same_item}
use Rattle.nemo_ir.proofs.PortEdges.{edge_rises, node_at, nodes_length}
use Rattle.nemo_plan.proofs.CutLaws.{stages_length, whole_cut}
use Rattle.nemo_plan.proofs.CutSteps.{IsCutSoFar}
use Rattle.nemo_plan.proofs.GraphRows.{block_in, first_of, in_block, is_block, leaving_blocks, made, sink_blocks, stage_of, stage_of_row, stage_there, stages_count, vertex_at, vertex_of_row, vertices_count}
use Rattle.nemo_plan.proofs.Memberships.{is_in_in}
use Rattle.nemo_plan.proofs.OnePort.{IsFeedEdge, feed_edge}
use Rattle.nemo_plan.proofs.Prefixes.{count_above}
use Rattle.nemo_plan.proofs.Ranks.{rank_falls}
use Rattle.nemo_plan.proofs.SoundGraph.{edge_in_reads, graph_sound, same_tasks, triggered}
use Rattle.nemo_plan.proofs.StageReads.{read_of}

master_sink : (sink pushed : Bool) → cond sink Master (cond pushed Pushed Local) ≡ Master → sink ≡ true
master_sink true pushed h = refl
master_sink false true h = cc
master_sink false false h = cc

module _ (flat : FlatForm) (dag : IrDag) (stages : List ℕ) (fine : IsFlat flat) (valid : Valid flat dag) (size : length stages ≡ length dag.vertices) (so : IsCutSoFar dag stages) where
  -- where an edge leads from a stage to a stage
  joins : (i a b : ℕ) (e : IrEdge) → slice_get dag.edges i ≡ Some e → stage_at stages e.from ≡ Some a → stage_at stages e.to ≡ Some b → Joins (made flat dag stages) e.from e.pattern a b
  joins i a b e there from to = elim (cases_eq a b) [
    | inl same ↦ inl (same, (so.narrow i b e there (from ∙ ap Some same) to).pattern)
    | inr other ↦
        let u = vertex_at flat dag stages fine valid size so e.from a from in
        let known = count_above stages e.from a from in
        inr (record {
          reader = stage_row flat dag stages b;
          is = stage_there flat dag stages b (count_above stages e.to b to);
          reads = edge_in_reads flat dag stages fine valid size so i a b e there from to other;
          differs = other;
          has = is_block flat dag stages e.from a known (block_in flat dag stages e.from a u.0 u.1 from (leaving_blocks flat dag stages i e.from a b e u.0 there refl from to other));
        })
  ]

  -- the stage of the row of a vertex
  pub row_staged : (v : ℕ) (row : VertexRow) → slice_get (made flat dag stages).vertices v ≡ Some row → stage_at stages v ≡ Some row.stage
  row_staged v row e =
      let r = vertex_of_row flat dag stages v row e in
      let s = stage_of flat dag stages fine valid size so v r.vertex r.there in
      s.1 ∙ ap Some (sym (ap (λ (x : VertexRow). x.stage) r.is ∙ ap (of_stage (λ t. t)) s.1))

  edge_joins : (i : ℕ) (e : IrEdge) (row before : VertexRow) → slice_get dag.edges i ≡ Some e → slice_get (made flat dag stages).vertices e.to ≡ Some row → slice_get (made flat dag stages).vertices e.from ≡ Some before
      → Joins (made flat dag stages) e.from e.pattern before.stage row.stage
  edge_joins i e row before there to from = joins i before.stage row.stage e there (row_staged e.from before from) (row_staged e.to row to)

  feed_joins : (v : ℕ) (f : Feed) (row before : VertexRow) → IsFeedEdge flat dag v f → slice_get (made flat dag stages).vertices v ≡ Some row → slice_get (made flat dag stages).vertices f.from ≡ Some before
      → Joins (made flat dag stages) f.from f.pattern before.stage row.stage
  feed_joins v f row before is at from =
      subst (λ (x : Feed). Joins (made flat dag stages) x.from x.pattern before.stage row.stage) (sym is.is)
      (edge_joins is.place is.edge row before is.there (ap (slice_get (made flat dag stages).vertices) is.to ∙ at) (ap (λ (x : Feed). slice_get (made flat dag stages).vertices x.from) (sym is.is) ∙ from))

  -- a read of the stage is one of blocks
  blocks_read : (s other : ℕ) (r : Read) → s < count_stages stages → In r (reads_of flat dag stages s) → stage_at stages r.vertex ≡ Some other → IsReadBy (made flat dag stages) s other r
  blocks_read s other r l m from =
      let is = read_of flat dag stages s r m in
      let e = is.edge in
      let vertex : r.vertex ≡ e.from = ap (λ (q : Read). q.vertex) is.is in
      let same = same_item is.before other (sym is.from ∙ ap (stage_at stages) (sym vertex) ∙ from) in
      let u = vertex_at flat dag stages fine valid size so e.from is.before is.from in
      let known = count_above stages e.from is.before is.from in
      let has = is_block flat dag stages e.from is.before known (block_in flat dag stages e.from is.before u.0 u.1 is.from (leaving_blocks flat dag stages is.place e.from is.before s e u.0 is.there refl is.from is.to is.differs)) in
      record {
        reader = stage_row flat dag stages s;
        is = stage_there flat dag stages s l;
        reads = m;
        differs = λ d. is.differs (same ∙ d);
        has = subst (λ v. is_in v (blocks_of (made flat dag stages) other) ≡ true) (sym vertex) (subst (λ a. is_in e.from (blocks_of (made flat dag stages) a) ≡ true) same has);
      }

  in_blocks : (v s : ℕ) (u : IrVertex) → slice_get dag.vertices v ≡ Some u → stage_at stages v ≡ Some s → is_sink_vertex flat u ≡ true → is_in v (blocks_of (made flat dag stages) s) ≡ true
  in_blocks v s u at_v in_v sink = is_block flat dag stages v s (count_above stages v s in_v) (block_in flat dag stages v s u at_v in_v (sink_blocks flat dag stages v u sink))

  -- each vertex of a stage is like its first
  alike_first : (s v : ℕ) (u : IrVertex) → slice_get dag.vertices v ≡ Some u → stage_at stages v ≡ Some s → (u.class ≡ (stage_row flat dag stages s).class) × (u.parallelism ≡ (stage_row flat dag stages s).parallelism)
  alike_first s v u at_v in_v =
      let f = first_of flat dag stages fine valid size so s (count_above stages v s in_v) in
      ((so.alike v f.number s u f.vertex at_v f.there in_v f.staged).class ∙ sym (ap class_of f.is), same_tasks flat dag stages fine valid size so v s u at_v in_v)

module _ (p : PlanForm) (fine : IsFlat p.flat) (valid : Valid p.flat p.dag) where
  abbrev flat : FlatForm
  flat = p.flat

  abbrev dag : IrDag
  dag = p.dag

  abbrev stages : List ℕ
  stages = stages_of p.flat p.dag

  size : length stages ≡ length dag.vertices
  size = stages_length flat dag valid

  so : IsCutSoFar dag stages
  so = whole_cut flat dag valid

  is_row : (v : ℕ) (u : IrVertex) → slice_get dag.vertices v ≡ Some u → IsRow p v u (vertex_row flat dag stages v u)
  is_row v u at_v =
      let s = stage_of flat dag stages fine valid size so v u at_v in
      let own : of_stage (λ t. t) (stage_at stages v) ≡ s.0 = ap (of_stage (λ t. t)) s.1 in
      record {
        stage = s.1 ∙ ap Some (sym own);
        parallelism = refl;
        sink = λ h. (
          ap (λ b. cond b Master (cond (list_any (λ e. not (is_pull e.flow)) (leaving dag stages v)) Pushed Local)) h,
          subst (λ t. is_in v (blocks_of (graph p) t) ≡ true) (sym own) (in_blocks flat dag stages fine valid size so v s.0 u at_v s.1 h),
        );
        kept = λ h. master_sink (is_sink_vertex flat u) (list_any (λ e. not (is_pull e.flow)) (leaving dag stages v)) h;
      }

  row_is : (v : ℕ) (u : IrVertex) (row : VertexRow) → slice_get dag.vertices v ≡ Some u → slice_get (graph p).vertices v ≡ Some row → IsRow p v u row
  row_is v u row at_v at_row =
      let r = vertex_of_row flat dag stages v row at_row in
      let same = same_item r.vertex u (sym r.there ∙ at_v) in
      subst (IsRow p v u) (sym (r.is ∙ ap (vertex_row flat dag stages v) same)) (is_row v u at_v)

  is_stage_row : (s : ℕ) → s < count_stages stages → IsStageRow p s (stage_row flat dag stages s)
  is_stage_row s l =
      let f = so.filled s l in
      record {
        blocks = λ v h. in_block flat dag stages v s (is_in_in v (stage_row flat dag stages s).blocks h);
        alike = λ v u at_v in_v. alike_first flat dag stages fine valid size so s v u at_v in_v;
        some = (f.place, f.is);
        rank = refl;
        reads = refl;
      }

  node_tasks : (v : ℕ) (node : Node) (row : VertexRow) → slice_get (nodes flat.transforms dag) v ≡ Some node → slice_get (graph p).vertices v ≡ Some row → node.parallelism ≡ row.parallelism
  node_tasks v node row at_node at_row =
      let n = node_at flat.transforms dag v node at_node in
      let r = vertex_of_row flat dag stages v row at_row in
      ap (λ (x : Node). x.parallelism) n.is ∙ ap (λ (x : IrVertex). x.parallelism) (same_item n.vertex r.vertex (sym n.there ∙ r.there)) ∙ sym (ap (λ (x : VertexRow). x.parallelism) r.is)

  feed_rises : (v : ℕ) (node : Node) (f : Feed) → slice_get (nodes flat.transforms dag) v ≡ Some node → In f node.feeds → f.from < v
  feed_rises v node f at_v m =
      let is = feed_edge flat dag valid v node f at_v m in
      let low : is.edge.from < is.edge.to = (edge_rises flat dag valid is.place is.edge is.there).low in
      let from : f.from ≡ is.edge.from = ap (λ (x : Feed). x.from) is.is in
      let to : is.edge.to ≡ v = is.to in
      omega arith

  pub wired : IsWired p (graph p)
  wired = record {
    is = refl;
    sound = graph_sound flat dag stages fine valid size so;
    staged = size;
    vertex_count = vertices_count flat dag stages;
    node_count = nodes_length flat.transforms dag.edges 0 dag.vertices;
    stage_count = stages_count flat dag stages;
    rows = row_is;
    stages = λ s row at. let r = stage_of_row flat dag stages s row at in subst (IsStageRow p s) (sym r.is) (is_stage_row s r.below);
    known = λ v s in_v. subst (λ n. s < n) (sym (stages_count flat dag stages)) (count_above stages v s in_v);
    tasks = node_tasks;
    feeds_rise = feed_rises;
    feeds_join = λ v node f row before at_v m at_row at_before. feed_joins flat dag stages fine valid size so v f row before (feed_edge flat dag valid v node f at_v m) at_row at_before;
    edges_rise = λ i e there. let r = edge_rises flat dag valid i e there in (r.low, r.inside);
    edges_join = λ i e row before there to from. edge_joins flat dag stages fine valid size so i e row before there to from;
    pulled = λ i e s there from to. (so.narrow i s e there from to).flow;
    reads_from = λ s row r at m.
        let is = stage_of_row flat dag stages s row at in
        read_of flat dag stages s r (subst (λ (x : StageRow). In r x.reads) is.is m);
    reads_blocks = λ s other row r at m from.
        let is = stage_of_row flat dag stages s row at in
        blocks_read flat dag stages fine valid size so s other r is.below (subst (λ (x : StageRow). In r x.reads) is.is m) from;
    ranks_fall = λ s other row before r at m from at_before.
        let is = stage_of_row flat dag stages s row at in
        let was = stage_of_row flat dag stages other before at_before in
        let falls = rank_falls flat dag stages so.order so.forward s other r is.below (subst (λ (x : StageRow). In r x.reads) is.is m) from in
        subst (λ (x : StageRow). x.rank < row.rank) (sym was.is) (subst (λ (x : StageRow). rank_of flat dag stages other < x.rank) (sym is.is) falls);
    triggered = λ v t row at m.
        let is = vertex_of_row flat dag stages v row at in
        triggered flat dag stages fine valid size so v t is.vertex (subst (λ (x : VertexRow). In t x.triggers) is.is m);
  }

pub graph_wired : GraphLaw
graph_wired p fine valid = wired p fine valid
