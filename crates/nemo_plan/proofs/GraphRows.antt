-- The rows of the graph of a DAG's stages, place by place.
use Rattle.std.proofs.Common.{arith, ◌≡◌, ◌∙◌, ap, sym, subst, refl, ℕ, zero, suc, ◌+◌, ◌<◌, ◌≤◌, ◌==◌, ◌&&◌, true, List, [], ◌∷◌, length, map, slice_get, Some, inl, inr, eq-eqb}
use Rattle.std.proofs.lemmas.Bool.{and_from, cases_eq, or_left, or_right}
use Rattle.std.proofs.lemmas.Option.{slice_get_within}
use Rattle.std.specs.Prelude.{◌⊎◌}
use Rattle.nemo_base.specs.Needed.{blocks_of, made_by}
use Rattle.nemo_base.specs.Places.{is_in, map_at}
use Rattle.nemo_base.specs.declared.graph.StageRow.{StageRow}
use Rattle.nemo_base.specs.declared.graph.TaskGraph.{TaskGraph}
use Rattle.nemo_base.specs.declared.graph.VertexRow.{VertexRow}
use Rattle.nemo_value.specs.Members.{In}
use Rattle.nemo_value.proofs.MemberLists.{filter_in, in_filter}
use Rattle.nemo_ir.specs.Along.{below, passes}
use Rattle.nemo_ir.specs.Flat.{FlatForm, IsFlat}
use Rattle.nemo_ir.specs.Valid.{Valid}
use Rattle.nemo_ir.specs.declared.dag.IrDag.{IrDag}
use Rattle.nemo_ir.specs.declared.dag.IrEdge.{IrEdge}
use Rattle.nemo_ir.specs.declared.dag.IrVertex.{IrVertex}
use Rattle.nemo_plan.specs.Graph.{first_vertex, has_blocks, is_any, is_sink_vertex, leaves, leaving, stage_row, vertex_row, vertices_of}
use Rattle.nemo_plan.specs.Stages.{count_stages, stage_at}
use Rattle.nemo_ir.proofs.Places.{got, map_at-length, map_at-whole, same_item}
use Rattle.nemo_ir.proofs.PortEdges.{edge_rises}
use Rattle.nemo_plan.proofs.CutSteps.{IsCutSoFar}
use Rattle.nemo_plan.proofs.Lists.{below_count, below_item}
use Rattle.nemo_plan.proofs.Memberships.{at_in, in_is_in}
use Rattle.nemo_plan.proofs.OutEdges.{ends_or_leads}
use Rattle.nemo_plan.proofs.StageReads.{in_vertices, leaves_from, vertex_in}

---- rows

-- the graph of these stages
abbrev pub made : FlatForm → IrDag → List ℕ → TaskGraph
made flat dag stages = record { stages = map (stage_row flat dag stages) (below (count_stages stages)); vertices = map_at (vertex_row flat dag stages) 0 dag.vertices }

-- the row of a stage
pub record IsStageOf (flat : FlatForm) (dag : IrDag) (stages : List ℕ) (s : ℕ) (row : StageRow) : Type 0 where
  pub below : s < count_stages stages
  pub is : row ≡ stage_row flat dag stages s

-- the row of a vertex
pub record IsVertexOf (flat : FlatForm) (dag : IrDag) (stages : List ℕ) (v : ℕ) (row : VertexRow) : Type 0 where
  pub vertex : IrVertex
  pub there : slice_get dag.vertices v ≡ Some vertex
  pub is : row ≡ vertex_row flat dag stages v vertex

module _ (flat : FlatForm) (dag : IrDag) (stages : List ℕ) where
  pub stages_count : length (map (stage_row flat dag stages) (below (count_stages stages))) ≡ count_stages stages
  stages_count = below_count (stage_row flat dag stages) (count_stages stages)

  pub stage_there : (s : ℕ) → s < count_stages stages → slice_get (map (stage_row flat dag stages) (below (count_stages stages))) s ≡ Some (stage_row flat dag stages s)
  stage_there s l = below_item (stage_row flat dag stages) (count_stages stages) s l

  pub stage_of_row : (s : ℕ) (row : StageRow) → slice_get (map (stage_row flat dag stages) (below (count_stages stages))) s ≡ Some row → IsStageOf flat dag stages s row
  stage_of_row s row e =
      let within : s < length (map (stage_row flat dag stages) (below (count_stages stages))) = slice_get_within (map (stage_row flat dag stages) (below (count_stages stages))) s row e in
      let low : s < count_stages stages = subst (λ n. s < n) stages_count within in
      record { below = low; is = same_item row (stage_row flat dag stages s) (sym e ∙ stage_there s low) }

  pub vertex_there : (v : ℕ) (u : IrVertex) → slice_get dag.vertices v ≡ Some u → slice_get (map_at (vertex_row flat dag stages) 0 dag.vertices) v ≡ Some (vertex_row flat dag stages v u)
  vertex_there v u e = map_at-whole (vertex_row flat dag stages) dag.vertices v u e

  pub vertices_count : length (map_at (vertex_row flat dag stages) 0 dag.vertices) ≡ length dag.vertices
  vertices_count = map_at-length (vertex_row flat dag stages) 0 dag.vertices

  pub vertex_of_row : (v : ℕ) (row : VertexRow) → slice_get (map_at (vertex_row flat dag stages) 0 dag.vertices) v ≡ Some row → IsVertexOf flat dag stages v row
  vertex_of_row v row e =
      let within = slice_get_within (map_at (vertex_row flat dag stages) 0 dag.vertices) v row e in
      let u = got dag.vertices v (subst (λ n. v < n) vertices_count within) in
      record { vertex = u.0; there = u.1; is = same_item row (vertex_row flat dag stages v u.0) (sym e ∙ vertex_there v u.0 u.1) }

---- blocks

any_member : {X : Type 0} (xs : List X) (x : X) → In x xs → is_any xs ≡ true
any_member [] x m = absurd m
any_member (y ∷ ys) x m = refl

module _ (flat : FlatForm) (dag : IrDag) (stages : List ℕ) where
  pub block_in : (v s : ℕ) (u : IrVertex) → slice_get dag.vertices v ≡ Some u → stage_at stages v ≡ Some s → has_blocks flat dag stages v u ≡ true → In v (stage_row flat dag stages s).blocks
  block_in v s u at_v in_v h =
      filter_in (λ w. passes (has_blocks flat dag stages w) (slice_get dag.vertices w)) v (vertices_of stages s) (in_vertices stages s v in_v) (ap (passes (has_blocks flat dag stages v)) at_v ∙ h)

  pub in_block : (v s : ℕ) → In v (stage_row flat dag stages s).blocks → stage_at stages v ≡ Some s
  in_block v s m = vertex_in stages s v (in_filter (λ w. passes (has_blocks flat dag stages w) (slice_get dag.vertices w)) v (vertices_of stages s) m)

  pub sink_blocks : (v : ℕ) (u : IrVertex) → is_sink_vertex flat u ≡ true → has_blocks flat dag stages v u ≡ true
  sink_blocks v u h = or_left (is_sink_vertex flat u) (is_any (leaving dag stages v)) h

  -- an edge to another stage gives its producer blocks
  pub leaving_blocks : (i v a b : ℕ) (e : IrEdge) (u : IrVertex) → slice_get dag.edges i ≡ Some e → e.from ≡ v → stage_at stages e.from ≡ Some a → stage_at stages e.to ≡ Some b → (a ≡ b → ⊥) → has_blocks flat dag stages v u ≡ true
  leaving_blocks i v a b e u there is from to d =
      or_right (is_sink_vertex flat u) (is_any (leaving dag stages v))
      (any_member (leaving dag stages v) e
      (filter_in (λ x. (x.from == v) && leaves stages x) e dag.edges (at_in dag.edges i e there) (and_from (e.from == v) (leaves stages e) (eq-eqb e.from v is) (leaves_from stages a b e from to d))))

  -- the blocks of a stage, read in the graph
  pub blocks_are : (s : ℕ) → s < count_stages stages → blocks_of (made flat dag stages) s ≡ (stage_row flat dag stages s).blocks
  blocks_are s l = ap made_by (stage_there flat dag stages s l)

  pub is_block : (v s : ℕ) → s < count_stages stages → In v (stage_row flat dag stages s).blocks → is_in v (blocks_of (made flat dag stages) s) ≡ true
  is_block v s l m = ap (is_in v) (blocks_are s l) ∙ in_is_in v (stage_row flat dag stages s).blocks m

---- the vertices of a stage

-- the first vertex of a stage
pub record IsFirstOf (dag : IrDag) (stages : List ℕ) (s : ℕ) : Type 0 where
  pub number : ℕ
  pub vertex : IrVertex
  pub there : slice_get dag.vertices number ≡ Some vertex
  pub staged : stage_at stages number ≡ Some s
  pub is : first_vertex dag (vertices_of stages s) ≡ Some vertex

-- a vertex of a stage that has blocks
pub record HasBlock (flat : FlatForm) (dag : IrDag) (stages : List ℕ) (s : ℕ) : Type 0 where
  pub number : ℕ
  pub has : In number (stage_row flat dag stages s).blocks

module _ (flat : FlatForm) (dag : IrDag) (stages : List ℕ) (fine : IsFlat flat) (valid : Valid flat dag) (size : length stages ≡ length dag.vertices) (so : IsCutSoFar dag stages) where
  pub vertex_at : (v s : ℕ) → stage_at stages v ≡ Some s → (u : IrVertex) × (slice_get dag.vertices v ≡ Some u)
  vertex_at v s e = let within : v < length stages = slice_get_within stages v s e in got dag.vertices v (omega arith)

  pub stage_of : (v : ℕ) (u : IrVertex) → slice_get dag.vertices v ≡ Some u → (s : ℕ) × (stage_at stages v ≡ Some s)
  stage_of v u e = let within : v < length dag.vertices = slice_get_within dag.vertices v u e in got stages v (omega arith)

  pub first_of : (s : ℕ) → s < count_stages stages → IsFirstOf dag stages s
  first_of s l = let f = so.filled s l in go f.place (vertices_of stages s) refl (in_vertices stages s f.place f.is)
    where
      go : (w : ℕ) (vs : List ℕ) → vertices_of stages s ≡ vs → In w vs → IsFirstOf dag stages s
      go w [] e m = absurd m
      go w (v ∷ vs) e m =
          let in_v = vertex_in stages s v (subst (In v) (sym e) (inl refl)) in
          let u = vertex_at v s in_v in
          record { number = v; vertex = u.0; there = u.1; staged = in_v; is = ap (first_vertex dag) e ∙ u.1 }

  -- a vertex has blocks, or an edge leads from it to a later one of its stage
  block_or_later : (v s : ℕ) → stage_at stages v ≡ Some s → HasBlock flat dag stages s ⊎ ((w : ℕ) × (v < w) × (w < length dag.vertices) × (stage_at stages w ≡ Some s))
  block_or_later v s in_v =
      let u = vertex_at v s in_v in
      elim (ends_or_leads flat dag fine valid v u.0 u.1) [
        | inl sink ↦ inl (record { number = v; has = block_in flat dag stages v s u.0 u.1 in_v (sink_blocks flat dag stages v u.0 sink) })
        | inr out ↦
            let rise = edge_rises flat dag valid out.place out.edge out.there in
            let w = got dag.vertices out.edge.to rise.inside in
            let t = stage_of out.edge.to w.0 w.1 in
            elim (cases_eq s t.0) [
              | inl same ↦ inr (out.edge.to, subst (λ k. k < out.edge.to) out.from rise.low, rise.inside, t.1 ∙ ap Some (sym same))
              | inr other ↦ inl (record {
                number = v;
                has = block_in flat dag stages v s u.0 u.1 in_v (leaving_blocks flat dag stages out.place v s t.0 out.edge u.0 out.there out.from (ap (stage_at stages) out.from ∙ in_v) t.1 other);
              })
            ]
      ]

  block_from : (n v s : ℕ) → length dag.vertices ≤ v + n → stage_at stages v ≡ Some s → HasBlock flat dag stages s
  block_from zero v s l in_v = let within : v < length stages = slice_get_within stages v s in_v in absurd (omega arith)
  block_from (suc n) v s l in_v = elim (block_or_later v s in_v) [
    | inl here ↦ here
    | inr later ↦ (let low : v < later.0 = later.1 in block_from n later.0 s (omega arith) later.3)
  ]

  pub some_block : (s : ℕ) → s < count_stages stages → HasBlock flat dag stages s
  some_block s l = let f = so.filled s l in block_from (length dag.vertices) f.place s (omega arith) f.is
