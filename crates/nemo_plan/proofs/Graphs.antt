-- The graph of tasks of a line with a uniform DAG.
use Rattle.std.proofs.Common.{arith, ◌≡◌, ◌∙◌, ap, sym, refl, ℕ, zero, suc, ◌+◌, ◌-◌, ◌<◌, ◌≤◌, ◌==◌, ◌||◌, ◌&&◌, List, [], ◌∷◌, length, map, filter, slice_get, not, Bool, true, false, cond, Option, Some, None, eq-eqb, ◌≢◌, inl, inr}
use Rattle.std.proofs.lemmas.Bool.{and_right, ne_eqb, cases_lt}
use Rattle.std.proofs.lemmas.Option.{slice_get_within}
use Rattle.std.specs.List.{filter_map, list_any}
use Rattle.nemo_base.specs.Places.{map_at}
use Rattle.nemo_base.specs.declared.annotation.Class.TheVariants.{Transient}
use Rattle.nemo_base.specs.declared.graph.Home.TheVariants.{Master, Local}
use Rattle.nemo_ir.specs.Along.{below, passes}
use Rattle.nemo_ir.specs.Flat.{FlatForm, IsFlat, is_sink, transform_of}
use Rattle.nemo_ir.specs.Line.{IsLine}
use Rattle.nemo_ir.specs.Nodes.{edge_at, transform_in}
use Rattle.nemo_ir.specs.Uniform.{first_tasks, is_uniform}
use Rattle.nemo_ir.specs.Valid.{Valid, is_hash, is_one_to_one, is_trigger, kinds_at}
use Rattle.nemo_ir.specs.declared.dag.IrDag.{IrDag}
use Rattle.nemo_ir.specs.declared.dag.IrEdge.{IrEdge}
use Rattle.nemo_ir.specs.declared.dag.IrVertex.{IrVertex}
use Rattle.nemo_plan.specs.Graph.{class_of, first_vertex, graph_of, has_blocks, home_of, is_any, is_sink_vertex, keeps_none, leaves, leaving, of_stage, rank_in, rank_of, read_along, reads_into, reads_of, stage_row, tasks_of, trigger_along, vertex_row, vertices_of, greatest}
use Rattle.nemo_plan.specs.Line.{line_graph, line_stage, line_vertex}
use Rattle.nemo_plan.specs.Stages.{count_stages, in_edges, stage_at, stages_of}
use Rattle.nemo_ir.proofs.Places.{from_none, same_item}
use Rattle.nemo_plan.proofs.Cutting.{all_of, stages_are}
use Rattle.nemo_plan.proofs.Ends.{last_sink, no_sink}
use Rattle.nemo_plan.proofs.Lists.{filter-none, filter_last, filter_map-none, flat_map-none, list_any-filter, map_at-counted, zeros, zeros_get}
use Rattle.nemo_plan.proofs.Standing.{Standing, standing, vertices_size}
use Rattle.nemo_plan.proofs.Uniform.{plain_edge, uniform_op}

---- no edge leaves the stage

-- edges that stay in their stage
abbrev StayIn : List ℕ → List IrEdge → Type 0
StayIn stages es = (i : ℕ) (e : IrEdge) → slice_get es i ≡ Some e → leaves stages e ≡ false

stay : (flat : FlatForm) (dag : IrDag) → Valid flat dag → is_uniform dag ≡ true → StayIn (zeros (length dag.vertices)) dag.edges
stay flat dag valid h i e g =
    let stages = zeros (length dag.vertices) in
    let p = plain_edge flat dag valid h i e g in
    let rises : e.from < e.to = p.rises in
    let within : e.to < length dag.vertices = p.within in
    ap (passes (λ a. passes (λ b. not (a == b)) (stage_at stages e.to))) (zeros_get (length dag.vertices) e.from (omega arith))
    ∙ ap (passes (λ b. not (0 == b))) (zeros_get (length dag.vertices) e.to within)

none_leaves : (dag : IrDag) (stages : List ℕ) → StayIn stages dag.edges → (v : ℕ) → leaving dag stages v ≡ []
none_leaves dag stages s v = filter-none (λ e. (e.from == v) && leaves stages e) dag.edges (λ i e g. and_right (e.from == v) (leaves stages e) (s i e g))

not_read : (stages : List ℕ) (es : List IrEdge) → StayIn stages es → (v port : ℕ) → read_along stages (edge_at es v port) ≡ None
not_read stages [] s v port = refl
not_read stages (e ∷ es) s v port = go ((e.to == v) && (e.port == port)) (not_read stages es (λ i d g. s (suc i) d g) v port)
  where
    go : (b : Bool) → read_along stages (edge_at es v port) ≡ None → read_along stages (cond b (Some e) (edge_at es v port)) ≡ None
    go true rest = ap (λ b. cond b (Some (record { vertex = e.from; wide = not (is_one_to_one e.pattern) })) None) (s 0 e refl)
    go false rest = rest

no_reads : (flat : FlatForm) (dag : IrDag) (stages : List ℕ) → StayIn stages dag.edges → (v : ℕ) (o : Option IrVertex) → reads_into flat dag stages v o ≡ []
no_reads flat dag stages s v None = refl
no_reads flat dag stages s v (Some u) = filter_map-none (λ port. read_along stages (edge_at dag.edges v port)) (below (length (kinds_at flat u))) (λ port. not_read stages dag.edges s v port)

reads_none : (flat : FlatForm) (dag : IrDag) (stages : List ℕ) → StayIn stages dag.edges → reads_of flat dag stages 0 ≡ []
reads_none flat dag stages s = flat_map-none (λ v. reads_into flat dag stages v (slice_get dag.vertices v)) (vertices_of stages 0) (λ v. no_reads flat dag stages s v (slice_get dag.vertices v))

rank_none : (flat : FlatForm) (dag : IrDag) (stages : List ℕ) → StayIn stages dag.edges → count_stages stages ≡ 1 → rank_of flat dag stages 0 ≡ 0
rank_none flat dag stages s one =
    ap (λ turns. rank_in flat dag stages turns 0) one
    ∙ ap (λ rs. greatest (map (λ r. suc (of_stage (rank_in flat dag stages 0) (stage_at stages r.vertex))) rs)) (reads_none flat dag stages s)

---- the last vertex alone has blocks

-- of m vertices this one is the last
sink_is : (flat : FlatForm) (dag : IrDag) → IsFlat flat → IsLine flat → (v : ℕ) (s : Standing flat dag v) → v < length flat.vertices → is_sink_vertex flat s.op ≡ (suc v == length flat.vertices)
sink_is flat dag f line v s l =
    let same : is_sink_vertex flat s.op ≡ is_sink (transform_of flat s.copy) = ap (λ d. is_sink (transform_in d)) s.deed ∙ sym (ap is_sink s.is) in
    same ∙ elim (cases_lt (suc v) (length flat.vertices)) [
      | inl less ↦ (let differs : suc v ≢ length flat.vertices = omega arith in no_sink flat f line v s.copy s.copy_at less ∙ sym (ne_eqb (suc v) (length flat.vertices) differs))
      | inr more ↦ (let last : suc v ≡ length flat.vertices = omega arith in last_sink flat f line v s.copy s.copy_at last ∙ sym (eq-eqb (suc v) (length flat.vertices) last))
    ]

or_none : (b : Bool) → (b || false) ≡ b
or_none true = refl
or_none false = refl

blocks_at : (flat : FlatForm) (dag : IrDag) → IsFlat flat → IsLine flat → Valid flat dag → is_uniform dag ≡ true → (v : ℕ) → v < length dag.vertices
    → passes (has_blocks flat dag (zeros (length dag.vertices)) v) (slice_get dag.vertices v) ≡ (suc v == length dag.vertices)
blocks_at flat dag f line valid h v l =
    let n : length flat.vertices ≡ length dag.vertices = vertices_size flat dag f line valid h in
    let less : v < length flat.vertices = omega arith in
    let s = standing flat dag f line valid h v less in
    let stages = zeros (length dag.vertices) in
    ap (passes (has_blocks flat dag stages v)) s.op_at
    ∙ ap (λ es. is_sink_vertex flat s.op || is_any es) (none_leaves dag stages (stay flat dag valid h) v)
    ∙ or_none (is_sink_vertex flat s.op) ∙ sink_is flat dag f line v s less ∙ ap (λ m. suc v == m) n

-- those of m vertices of which the last alone passes
last_of : (p : ℕ → Bool) (m : ℕ) → 1 ≤ m → ((v : ℕ) → v < m → p v ≡ (suc v == m)) → filter p (below m) ≡ (m - 1) ∷ []
last_of p zero some h = absurd (omega arith)
last_of p (suc m) some h =
    let less : suc m - 1 ≡ 0 + m = omega arith in
    filter_last p 0 m
    (λ v l k. let differs : suc v ≢ suc m = omega arith in h v (omega arith) ∙ ne_eqb (suc v) (suc m) differs)
    (ap p (from_none m) ∙ h m (omega arith) ∙ eq-eqb (suc m) (suc m) refl)
    ∙ ap (λ v. v ∷ []) (sym less)

---- the row of the stage

first_of_all : (us : List IrVertex) → 1 ≤ length us → (u : IrVertex) × ((slice_get us 0 ≡ Some u) × (first_tasks us ≡ u.parallelism))
first_of_all [] h = absurd (omega arith)
first_of_all (u ∷ us) h = (u, (refl, refl))

first_below : (dag : IrDag) (m : ℕ) → 1 ≤ m → first_vertex dag (below m) ≡ slice_get dag.vertices 0
first_below dag zero h = absurd (omega arith)
first_below dag (suc m) h = refl

stage_is : (flat : FlatForm) (dag : IrDag) → IsFlat flat → IsLine flat → Valid flat dag → is_uniform dag ≡ true → 1 ≤ length dag.vertices
    → count_stages (zeros (length dag.vertices)) ≡ 1 → stage_row flat dag (zeros (length dag.vertices)) 0 ≡ line_stage (length dag.vertices) (first_tasks dag.vertices)
stage_is flat dag f line valid h some one =
    let m = length dag.vertices in
    let stages = zeros m in
    let in_stage = stay flat dag valid h in
    let u = first_of_all dag.vertices some in
    let first : first_vertex dag (vertices_of stages 0) ≡ Some u.0 = ap (first_vertex dag) (all_of m) ∙ first_below dag m some ∙ u.1.0 in
    let class : class_of (first_vertex dag (vertices_of stages 0)) ≡ Transient = ap class_of first ∙ (uniform_op dag h 0 u.0 u.1.0).class in
    let tasks : tasks_of (first_vertex dag (vertices_of stages 0)) ≡ first_tasks dag.vertices = ap tasks_of first ∙ sym u.1.1 in
    let rank : rank_of flat dag stages 0 ≡ 0 = rank_none flat dag stages in_stage one in
    let test : ℕ → Bool = λ v. passes (has_blocks flat dag stages v) (slice_get dag.vertices v) in
    let blocks : filter test (vertices_of stages 0) ≡ (m - 1) ∷ [] = ap (filter test) (all_of m) ∙ last_of test m some (blocks_at flat dag f line valid h) in
    let reads : reads_of flat dag stages 0 ≡ [] = reads_none flat dag stages in_stage in
    λ i. record { class = class i; parallelism = tasks i; rank = rank i; blocks = blocks i; reads = reads i }

---- the rows of the vertices

not_hashed : (flat : FlatForm) (dag : IrDag) → Valid flat dag → is_uniform dag ≡ true → (v : ℕ) → list_any (λ e. is_hash e.pattern) (in_edges dag v) ≡ false
not_hashed flat dag valid h v = list_any-filter (λ e. is_hash e.pattern) (λ e. e.to == v) dag.edges (λ i e g hit. ap is_hash (plain_edge flat dag valid h i e g).pattern)

no_trigger : (dag : IrDag) → is_uniform dag ≡ true → (o : Option IrEdge) → trigger_along dag o ≡ None
no_trigger dag h None = refl
no_trigger dag h (Some e) = ap (λ b. cond b (Some e.from) None) (go (slice_get dag.vertices e.from) refl)
  where
    go : (o : Option IrVertex) → slice_get dag.vertices e.from ≡ o → passes (λ u. is_trigger u.kind) o ≡ false
    go None g = refl
    go (Some u) g = ap is_trigger (uniform_op dag h e.from u g).kind

and_all : (b : Bool) → (not b && true) ≡ not b
and_all true = refl
and_all false = refl

vertex_is : (flat : FlatForm) (dag : IrDag) → IsFlat flat → IsLine flat → Valid flat dag → is_uniform dag ≡ true → (v : ℕ) (u : IrVertex) → slice_get dag.vertices v ≡ Some u
    → vertex_row flat dag (zeros (length dag.vertices)) v u ≡ line_vertex (length dag.vertices) (first_tasks dag.vertices) v
vertex_is flat dag f line valid h v u g =
    let m = length dag.vertices in
    let n : length flat.vertices ≡ length dag.vertices = vertices_size flat dag f line valid h in
    let stages = zeros m in
    let within : v < length dag.vertices = slice_get_within dag.vertices v u g in
    let less : v < length flat.vertices = omega arith in
    let s = standing flat dag f line valid h v less in
    let none = none_leaves dag stages (stay flat dag valid h) v in
    let sink : is_sink_vertex flat u ≡ (suc v == m) = ap (is_sink_vertex flat) (same_item u s.op (sym g ∙ s.op_at)) ∙ sink_is flat dag f line v s less ∙ ap (λ k. suc v == k) n in
    let stage : of_stage (λ t. t) (stage_at stages v) ≡ 0 = ap (of_stage (λ t. t)) (zeros_get m v within) in
    let tasks : u.parallelism ≡ first_tasks dag.vertices = (uniform_op dag h v u g).tasks in
    let hashed = not_hashed flat dag valid h v in
    let triggers : filter_map (λ port. trigger_along dag (edge_at dag.edges v port)) (below (length (kinds_at flat u))) ≡ [] =
    filter_map-none (λ port. trigger_along dag (edge_at dag.edges v port)) (below (length (kinds_at flat u))) (λ port. no_trigger dag h (edge_at dag.edges v port)) in
    let home : home_of flat u (leaving dag stages v) ≡ cond (suc v == m) Master Local = ap (home_of flat u) none ∙ ap (λ b. cond b Master Local) sink in
    let discard : (not (is_sink_vertex flat u) && keeps_none (leaving dag stages v)) ≡ not (suc v == m) =
    ap (λ es. not (is_sink_vertex flat u) && keeps_none es) none ∙ and_all (is_sink_vertex flat u) ∙ ap not sink in
    λ i. record { stage = stage i; parallelism = tasks i; hashed = hashed i; triggers = triggers i; home = home i; discard = discard i }

---- the graph

pub graph_is : (flat : FlatForm) (dag : IrDag) → IsFlat flat → IsLine flat → Valid flat dag → is_uniform dag ≡ true → 1 ≤ length dag.vertices
    → count_stages (stages_of flat dag) ≡ 1 → graph_of flat dag ≡ line_graph (length dag.vertices) (first_tasks dag.vertices)
graph_is flat dag f line valid h some one =
    let m = length dag.vertices in
    let n = first_tasks dag.vertices in
    let cut : stages_of flat dag ≡ zeros m = stages_are flat dag f line valid h in
    let count : count_stages (zeros m) ≡ 1 = sym (ap count_stages cut) ∙ one in
    let stages : map (stage_row flat dag (stages_of flat dag)) (below (count_stages (stages_of flat dag))) ≡ line_stage m n ∷ [] =
    ap (λ ss. map (stage_row flat dag ss) (below (count_stages ss))) cut
    ∙ ap (λ k. map (stage_row flat dag (zeros m)) (below k)) count
    ∙ ap (λ r. r ∷ []) (stage_is flat dag f line valid h some count) in
    let vertices : map_at (vertex_row flat dag (stages_of flat dag)) 0 dag.vertices ≡ map (line_vertex m n) (below m) =
    ap (λ ss. map_at (vertex_row flat dag ss) 0 dag.vertices) cut
    ∙ map_at-counted (vertex_row flat dag (zeros m)) (line_vertex m n) 0 dag.vertices
    (λ i u g. ap (λ k. vertex_row flat dag (zeros m) k u) (from_none i) ∙ vertex_is flat dag f line valid h i u g ∙ sym (ap (line_vertex m n) (from_none i))) in
    λ i. record { stages = stages i; vertices = vertices i }
