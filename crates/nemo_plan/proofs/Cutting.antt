-- A line with a uniform DAG is one stage.
use Rattle.std.proofs.Common.{arith, ◌≡◌, ◌∙◌, ap, sym, refl, ℕ, zero, suc, ◌<◌, ◌==◌, ◌&&◌, List, [], ◌∷◌, length, filter, slice_get, not, true, false, cond, nat_le, Some, None}
use Rattle.std.proofs.lemmas.Bool.{and_from, eqb-true, not_from_false, or_left}
use Rattle.std.proofs.lemmas.List.{length-replicate}
use Rattle.std.proofs.lemmas.Option.{slice_get_within}
use Rattle.std.specs.List.{list_all, list_any}
use Rattle.nemo_base.specs.declared.annotation.Class.TheVariants.{Transient}
use Rattle.nemo_ir.specs.Along.{below, passes}
use Rattle.nemo_ir.specs.Flat.{FlatForm, IsFlat}
use Rattle.nemo_ir.specs.Line.{IsLine, one_before}
use Rattle.nemo_ir.specs.Nodes.{kinds_in}
use Rattle.nemo_ir.specs.Uniform.{is_pull, is_uniform}
use Rattle.nemo_ir.specs.Valid.{Valid, is_one_to_one, kinds_at}
use Rattle.nemo_ir.specs.declared.dag.IrDag.{IrDag}
use Rattle.nemo_ir.specs.declared.dag.IrEdge.{IrEdge}
use Rattle.nemo_ir.specs.declared.dag.IrVertex.{IrVertex}
use Rattle.nemo_plan.specs.Graph.{vertices_of}
use Rattle.nemo_plan.specs.Stages.{comes_round, count_stages, first_joined, goes_on, in_edges, is_narrow_pull, is_reached, joined_at, joins_by, or_new, same_class, source_stage, stage_at, stage_step, stages_of, taken_by}
use Rattle.nemo_ir.proofs.Places.{from_none, got, same_item}
use Rattle.nemo_plan.proofs.Lists.{along_zeros, below_at, filter-all, list_all-filter, list_any-filter, zeros, zeros_get}
use Rattle.nemo_plan.proofs.Standing.{Standing, from_before, standing, vertices_size}
use Rattle.nemo_plan.proofs.Uniform.{IsPlainEdge, plain_edge, uniform_op}

---- what an in-edge says

pub narrow_pull : (count : ℕ) (e : IrEdge) → IsPlainEdge count e → is_narrow_pull e ≡ true
narrow_pull count e p = and_from (is_one_to_one e.pattern) (is_pull e.flow) (ap is_one_to_one p.pattern) (ap is_pull p.flow)

-- it is OneToOne and Pull
all_go_on : (flat : FlatForm) (dag : IrDag) → Valid flat dag → is_uniform dag ≡ true → (stages : List ℕ) (v : ℕ) → list_all (goes_on stages 0) (in_edges dag v) ≡ true
all_go_on flat dag valid h stages v =
    list_all-filter (goes_on stages 0) (λ e. e.to == v) dag.edges
    (λ i e g to. or_left (is_narrow_pull e) (not (passes (λ a. a == 0) (stage_at stages e.from))) (narrow_pull (length dag.vertices) e (plain_edge flat dag valid h i e g)))

-- it comes from the one stage
none_comes_round : (flat : FlatForm) (dag : IrDag) → Valid flat dag → is_uniform dag ≡ true → (v : ℕ) → list_any (comes_round dag (zeros v) 0) (in_edges dag v) ≡ false
none_comes_round flat dag valid h v =
    list_any-filter (comes_round dag (zeros v) 0) (λ e. e.to == v) dag.edges
    (λ i e g hit.
    let p = plain_edge flat dag valid h i e g in
    let rises : e.from < e.to = p.rises in
    let to : e.to ≡ v = eqb-true e.to v hit in
    ap (passes (λ a. not (a == 0) && is_reached dag.edges (zeros v) 0 a)) (zeros_get v e.from (omega arith)))

---- the stage of each vertex

joins : (flat : FlatForm) (dag : IrDag) → Valid flat dag → is_uniform dag ≡ true → (v : ℕ) (u : IrVertex) (e : IrEdge) (i : ℕ) → slice_get dag.edges i ≡ Some e → e.from < length dag.vertices → u.class ≡ Transient
    → joins_by dag (zeros v) v u.class 0 e ≡ true
joins flat dag valid h v u e i g l class =
    let source = got dag.vertices e.from l in
    let op = uniform_op dag h e.from source.0 source.1 in
    let pull = is_narrow_pull e in
    let same = passes (λ w. same_class w.class u.class) (slice_get dag.vertices e.from) in
    let on = list_all (goes_on (zeros v) 0) (in_edges dag v) in
    let round = list_any (comes_round dag (zeros v) 0) (in_edges dag v) in
    let alike : same ≡ true = ap (passes (λ w. same_class w.class u.class)) source.1 ∙ ap (λ c. same_class c u.class) op.class ∙ ap (same_class Transient) class in
    and_from (pull && same && on) (not round)
    (and_from (pull && same) on (and_from pull same (narrow_pull (length dag.vertices) e (plain_edge flat dag valid h i e g)) alike) (all_go_on flat dag valid h (zeros v) v))
    (not_from_false round (none_comes_round flat dag valid h v))

-- how many ports a vertex has
port_count : (flat : FlatForm) (dag : IrDag) (v : ℕ) (s : Standing flat dag v) → length (kinds_at flat s.op) ≡ length (one_before v)
port_count flat dag v s = ap (λ d. length (kinds_in d)) s.deed ∙ s.ports

in_stage : (flat : FlatForm) (dag : IrDag) → IsFlat flat → IsLine flat → Valid flat dag → is_uniform dag ≡ true → (v : ℕ) (s : Standing flat dag v) → v < length flat.vertices → stage_step flat dag (zeros v) s.op ≡ 0
in_stage flat dag f line valid h zero s l = ap (λ n. or_new [] (first_joined (joined_at dag [] 0 s.op.class) (below n))) (port_count flat dag 0 s)
in_stage flat dag f line valid h (suc i) s l =
    let b = from_before flat dag f line valid h i l in
    let e = b.into.edge in
    let stages = zeros (suc i) in
    let n : length flat.vertices ≡ length dag.vertices = vertices_size flat dag f line valid h in
    let comes : e.from ≡ i = b.comes in
    let before : stage_at stages e.from ≡ Some 0 = zeros_get (suc i) e.from (omega arith) in
    let joined : joined_at dag stages (suc i) s.op.class 0 ≡ Some 0 =
    ap (λ o. taken_by dag stages (suc i) s.op.class o (source_stage stages o)) b.into.is
    ∙ ap (taken_by dag stages (suc i) s.op.class (Some e)) before
    ∙ ap (λ c. cond c (Some 0) None) (joins flat dag valid h (suc i) s.op e b.into.place b.into.stands (omega arith) s.uniform.class) in
    ap (λ m. or_new stages (first_joined (joined_at dag stages (length stages) s.op.class) (below m))) (port_count flat dag (suc i) s)
    ∙ ap (λ m. or_new stages (first_joined (joined_at dag stages m s.op.class) (0 ∷ []))) (length-replicate (suc i) 0)
    ∙ ap (λ o. or_new stages (first_joined (λ p. o) (0 ∷ []))) joined

pub stages_are : (flat : FlatForm) (dag : IrDag) → IsFlat flat → IsLine flat → Valid flat dag → is_uniform dag ≡ true → stages_of flat dag ≡ zeros (length dag.vertices)
stages_are flat dag f line valid h =
    along_zeros (stage_step flat dag) 0 dag.vertices
    (λ i u e.
    let n : length flat.vertices ≡ length dag.vertices = vertices_size flat dag f line valid h in
    let within : i < length dag.vertices = slice_get_within dag.vertices i u e in
    let less : i < length flat.vertices = omega arith in
    let s = standing flat dag f line valid h i less in
    ap (λ m. stage_step flat dag (zeros m) u) (from_none i) ∙ ap (stage_step flat dag (zeros i)) (same_item u s.op (sym e ∙ s.op_at)) ∙ in_stage flat dag f line valid h i s less)
    ∙ ap zeros (from_none (length dag.vertices))

---- one stage

pub one_stage : (n : ℕ) → count_stages (zeros (suc n)) ≡ 1
one_stage zero = refl
one_stage (suc n) = ap (λ c. cond (nat_le 1 c) c 1) (one_stage n)

pub all_of : (n : ℕ) → vertices_of (zeros n) 0 ≡ below n
all_of n =
    ap (λ m. filter (λ v. passes (λ a. a == 0) (stage_at (zeros n) v)) (below m)) (length-replicate n 0)
    ∙ filter-all (λ v. passes (λ a. a == 0) (stage_at (zeros n) v)) (below n)
    (λ i v e.
    let at_place = below_at n i v e in
    let is : v ≡ i = at_place.0 in
    let less : i < n = at_place.1 in
    ap (passes (λ a. a == 0)) (zeros_get n v (omega arith)))
