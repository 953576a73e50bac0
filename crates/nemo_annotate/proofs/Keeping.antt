-- What the passes keep, and what they bring.
use Rattle.std.proofs.Common.{arith, ◌≡◌, ◌∙◌, ap, sym, subst, refl, ℕ, zero, suc, ◌<◌, ◌≤◌, ◌==◌, ◌||◌, Bool, true, false, cond, not, nat_lt, List, [], ◌∷◌, ◌++◌, length, map, slice_get, Option, Some, None}
use Rattle.std.proofs.lemmas.Bool.{le-leb, lt-ltb, ltb-true}
use Rattle.std.proofs.lemmas.List.{length-map}
use Rattle.std.proofs.lemmas.List.Folds.{list_all-map}
use Rattle.std.proofs.lemmas.Option.{slice_get-map, slice_get_within}
use Rattle.std.specs.Cmp.{first_so, second_so}
use Rattle.std.specs.Cmp.Derive.{both_true}
use Rattle.std.specs.List.{list_all, list_any}
use Rattle.std.specs.Option.{option_map}
use Rattle.nemo_base.specs.declared.annotation.Pattern.{Pattern}
use Rattle.nemo_base.specs.declared.annotation.Pattern.TheVariants.{OneToOne}
use Rattle.nemo_transform.specs.Ports.{is_keyed, kinds_of}
use Rattle.nemo_transform.specs.declared.shape.PortKind.{PortKind}
use Rattle.nemo_transform.specs.declared.shape.PortKind.TheVariants.{Main, Keyed, Side}
use Rattle.nemo_transform.specs.declared.transform.Transform.{Transform}
use Rattle.nemo_transform.specs.declared.transform.Transform.TheVariants.{Source, Map, Filter, Emit, Words, Union, Reduce, Distinct, Join, SideJoin, Sink}
use Rattle.nemo_ir.specs.Along.{along, passes}
use Rattle.nemo_ir.specs.Flat.{FlatForm}
use Rattle.nemo_ir.specs.Nodes.{Deed, Passes, Nothing, Does, deed_of, edge_at, is_utility, producer}
use Rattle.nemo_ir.specs.Valid.{Holds, IsFirst, Valid, is_counted, is_hash, is_level, is_one_to_one, is_taken, is_trigger, is_within, kinds_at, rises, takes}
use Rattle.nemo_ir.specs.declared.clause.Clause.TheVariants.{V9}
use Rattle.nemo_ir.specs.declared.dag.IrDag.{IrDag}
use Rattle.nemo_ir.specs.declared.dag.IrEdge.{IrEdge}
use Rattle.nemo_ir.specs.declared.dag.IrVertex.{IrVertex}
use Rattle.nemo_ir.specs.declared.dag.VertexKind.{VertexKind}
use Rattle.nemo_ir.specs.declared.dag.VertexKind.TheVariants.{Op, Relay, Trigger}
use Rattle.nemo_ir.proofs.Entries.{along_length}
use Rattle.nemo_ir.proofs.Outlines.{IsOutlined, alike, ends, keeps_first, keeps_outline, keeps_valid, map_along, map_each, bare}
use Rattle.nemo_ir.proofs.Places.{got, list_all-at, or_true}
use Rattle.nemo_ir.proofs.PortEdges.{passed}
use Rattle.nemo_annotate.specs.Ops.{IsOfOps}
use Rattle.nemo_annotate.specs.Passes.{is_even, kind_into, parallelism_at, parallelism_for, parallelism_of, pattern_by, set_flow, set_keep, set_parallelism, set_patterns, tasks_before, with_flow, with_keep, with_pattern, with_tasks}

---- set_flow and set_keep

pub flow_valid : (flat : FlatForm) (dag : IrDag) → Valid flat dag → Valid flat (set_flow dag)
flow_valid flat dag h =
    let same = map_each (ends alike alike) (ends alike alike) (with_flow dag.vertices) (λ e. refl) dag.edges in
    keeps_valid flat dag (set_flow dag) (ap (λ es. record { vertices = map (bare alike alike) dag.vertices; edges = es; rep = dag.rep }) (sym same)) h

pub keep_valid : (flat : FlatForm) (dag : IrDag) → Valid flat dag → Valid flat (set_keep dag)
keep_valid flat dag h =
    let same = map_each (ends alike alike) (ends alike alike) (with_keep dag.vertices) (λ e. refl) dag.edges in
    keeps_valid flat dag (set_keep dag) (ap (λ es. record { vertices = map (bare alike alike) dag.vertices; edges = es; rep = dag.rep }) (sym same)) h

---- set_parallelism

pub parallelism_first : (flat : FlatForm) (p : ℕ) (dag : IrDag) → IsFirst flat dag → IsFirst flat (set_parallelism flat p dag)
parallelism_first flat p dag h =
    let same = map_along (bare (λ n. 1) alike) (with_tasks flat p dag.edges) (λ done u. refl) [] dag.vertices in
    keeps_first flat dag (set_parallelism flat p dag) (ap (λ vs. record { vertices = vs; edges = map (ends (λ n. 1) alike) dag.edges; rep = dag.rep }) (sym same)) h

pub parallelism_ops : (flat : FlatForm) (p : ℕ) (dag : IrDag) → IsOfOps dag → IsOfOps (set_parallelism flat p dag)
parallelism_ops flat p dag h =
    let us = along (with_tasks flat p dag.edges) [] dag.vertices in
    let op = λ (u : IrVertex). not (is_utility u.kind) in
    let kinds : map op us ≡ map op dag.vertices = map_along op (with_tasks flat p dag.edges) (λ done u. refl) [] dag.vertices in
    sym (list_all-map (λ b. b) op us) ∙ ap (list_all (λ b. b)) kinds ∙ list_all-map (λ b. b) op dag.vertices ∙ h

-- 1 to 64 tasks
pub record IsTasks (n : ℕ) : Type 0 where
  pub some : 1 ≤ n
  pub few : n ≤ 64

AreTasks : List IrVertex → Type 0
AreTasks [] = Unit {0}
AreTasks (u ∷ us) = IsTasks u.parallelism × AreTasks us

tasks_there : (us : List IrVertex) (v : ℕ) → AreTasks us → IsTasks (parallelism_at us v)
unfolding AreTasks
tasks_there [] v h = record { some = omega arith; few = omega arith }
tasks_there (u ∷ us) zero h = h.0
tasks_there (u ∷ us) (suc v) h = tasks_there us v h.1

tasks_more : (us : List IrVertex) (u : IrVertex) → AreTasks us → IsTasks u.parallelism → AreTasks (us ++ u ∷ [])
unfolding AreTasks
tasks_more [] u h t = (t, tt)
tasks_more (w ∷ us) u h t = (h.0, tasks_more us u h.1 t)

tasks_at : (us : List IrVertex) (v : ℕ) (u : IrVertex) → slice_get us v ≡ Some u → AreTasks us → IsTasks u.parallelism
unfolding AreTasks
tasks_at [] v u e h = absurd (cc e)
tasks_at (w ∷ us) zero u e h = let same : w ≡ u = cc in subst (λ x. IsTasks x.parallelism) same h.0
tasks_at (w ∷ us) (suc v) u e h = tasks_at us v u e h.1

picked : (b : Bool) (m n : ℕ) → IsTasks m → IsTasks n → IsTasks (cond b m n)
picked true m n h g = h
picked false m n h g = g

for_tasks : (p before : ℕ) (t : Transform) → IsTasks p → IsTasks before → IsTasks (parallelism_for p before t)
for_tasks p before (Source rows) h g = let few : p ≤ 64 = h.few in record { some = omega arith; few = omega arith }
for_tasks p before (Map out) h g = g
for_tasks p before (Filter c) h g = g
for_tasks p before (Emit outs) h g = g
for_tasks p before (Words field) h g = g
for_tasks p before (Union n) h g = picked (list_any is_keyed (kinds_of (Union n))) p before h g
for_tasks p before (Reduce by field) h g = h
for_tasks p before Distinct h g = h
for_tasks p before Join h g = h
for_tasks p before SideJoin h g = g
for_tasks p before (Sink name) h g = g

of_tasks : (p before : ℕ) (d : Deed) → IsTasks p → IsTasks before → IsTasks (parallelism_of p before d)
of_tasks p before (Does t) h g = for_tasks p before t h g
of_tasks p before Passes h g = g
of_tasks p before Nothing h g = g

tasks_along : (flat : FlatForm) (p : ℕ) (es : List IrEdge) (done us : List IrVertex) → IsTasks p → AreTasks done → AreTasks (along (with_tasks flat p es) done us)
tasks_along flat p es done [] t h = h
tasks_along flat p es done (u ∷ us) t h =
    let one : IsTasks (with_tasks flat p es done u).parallelism =
    of_tasks p (tasks_before es done) (deed_of flat.transforms u.kind) t (tasks_there done (producer (edge_at es (length done) 0)) h) in
    tasks_along flat p es (done ++ with_tasks flat p es done u ∷ []) us t (tasks_more done (with_tasks flat p es done u) h one)

pub parallelism_within : (flat : FlatForm) (p : ℕ) (dag : IrDag) → 1 ≤ p → p ≤ 64 → length dag.vertices ≤ 4096 → Holds flat (set_parallelism flat p dag) V9
unfolding AreTasks
parallelism_within flat p dag some few short v h =
    let us = along (with_tasks flat p dag.edges) [] dag.vertices in
    let long : length us ≡ length dag.vertices = along_length (with_tasks flat p dag.edges) dag.vertices in
    let u = got us v h in
    let t : IsTasks (u.0).parallelism = tasks_at us v u.0 u.1 (tasks_along flat p dag.edges [] dag.vertices (record { some = some; few = few }) tt) in
    ap (passes (is_within v)) u.1 ∙ both_true (both_true (lt-ltb v 4096 (omega arith)) (le-leb 1 (u.0).parallelism t.some)) (le-leb (u.0).parallelism 64 t.few)

---- set_patterns

taken_port : (even : Bool) (old : Pattern) (o : Option PortKind) → passes (λ k. takes k old) o ≡ true → passes (λ k. takes k (pattern_by even old o)) o ≡ true
taken_port true old (Some Main) h = refl
taken_port false old (Some Main) h = refl
taken_port even old (Some Keyed) h = refl
taken_port even old (Some Side) h = refl
taken_port even old None h = h

taken_edge : (flat : FlatForm) (even : Bool) (e : IrEdge) (o : Option IrVertex) → passes (λ u. passes (λ k. takes k e.pattern) (slice_get (kinds_at flat u) e.port)) o ≡ true
    → passes (λ u. passes (λ k. takes k (pattern_by even e.pattern (kind_into flat e o))) (slice_get (kinds_at flat u) e.port)) o ≡ true
taken_edge flat even e (Some u) h = taken_port even e.pattern (slice_get (kinds_at flat u) e.port) h
taken_edge flat even e None h = h

level_port : (even : Bool) (old : Pattern) (o : Option PortKind) → passes (λ k. takes k old) o ≡ true → (not (is_one_to_one (pattern_by even old o)) || even) ≡ true
level_port true old (Some Main) h = refl
level_port false old (Some Main) h = refl
level_port even old (Some Keyed) h = refl
level_port even old (Some Side) h = refl
level_port even old None h = absurd (cc h)

taken_kind : (flat : FlatForm) (e : IrEdge) (o : Option IrVertex) → passes (λ u. passes (λ k. takes k e.pattern) (slice_get (kinds_at flat u) e.port)) o ≡ true → passes (λ k. takes k e.pattern) (kind_into flat e o) ≡ true
taken_kind flat e (Some u) h = h
taken_kind flat e None h = h

-- an edge whose ends are there
record Ends (us : List IrVertex) (e : IrEdge) : Type 0 where
  pub source : IrVertex
  pub source_is : slice_get us e.from ≡ Some source
  pub target : IrVertex
  pub target_is : slice_get us e.to ≡ Some target

ends_of : (dag : IrDag) (e : IrEdge) → rises dag e ≡ true → Ends dag.vertices e
ends_of dag e h =
    let low : e.from < e.to = ltb-true e.from e.to (first_so (nat_lt e.from e.to) (nat_lt e.to (length dag.vertices)) h) in
    let inside : e.to < length dag.vertices = ltb-true e.to (length dag.vertices) (second_so (nat_lt e.from e.to) (nat_lt e.to (length dag.vertices)) h) in
    let u = got dag.vertices e.from (omega arith) in
    let w = got dag.vertices e.to inside in
    record { source = u.0; source_is = u.1; target = w.0; target_is = w.1 }

tasks_is : (us : List IrVertex) (v : ℕ) (u : IrVertex) → slice_get us v ≡ Some u → parallelism_at us v ≡ u.parallelism
tasks_is [] v u e = absurd (cc e)
tasks_is (w ∷ us) zero u e = let same : w ≡ u = cc in ap (λ x. x.parallelism) same
tasks_is (w ∷ us) (suc v) u e = tasks_is us v u e

is_level-even : (us : List IrVertex) (e : IrEdge) → Ends us e → passes (λ u. passes (λ w. u.parallelism == w.parallelism) (slice_get us e.to)) (slice_get us e.from) ≡ is_even us e
is_level-even us e s =
    ap (passes (λ u. passes (λ w. u.parallelism == w.parallelism) (slice_get us e.to))) s.source_is
    ∙ ap (passes (λ w. s.source.parallelism == w.parallelism)) s.target_is
    ∙ (λ i. sym (tasks_is us e.from s.source s.source_is) i == sym (tasks_is us e.to s.target s.target_is) i)

no_trigger : (k : VertexKind) → not (is_utility k) ≡ true → not (is_trigger k) ≡ true
no_trigger (Op n) h = refl
no_trigger Relay h = absurd (cc h)
no_trigger Trigger h = absurd (cc h)

-- a test of each edge with its pattern
each_edge : (flat : FlatForm) (dag : IrDag) (p : IrEdge → Bool) → ((i : ℕ) (e : IrEdge) → slice_get dag.edges i ≡ Some e → p (with_pattern flat dag.vertices e) ≡ true)
    → (i : ℕ) → i < length (map (with_pattern flat dag.vertices) dag.edges) → passes p (slice_get (map (with_pattern flat dag.vertices) dag.edges) i) ≡ true
each_edge flat dag p f i h =
    let e = got dag.edges i (subst (λ n. i < n) (length-map dag.edges (with_pattern flat dag.vertices)) h) in
    ap (passes p) (slice_get-map (with_pattern flat dag.vertices) dag.edges i ∙ ap (option_map (with_pattern flat dag.vertices)) e.1) ∙ f i e.0 e.1

pub patterns_valid : (flat : FlatForm) (dag : IrDag) → IsFirst flat dag → IsOfOps dag → Holds flat dag V9 → Valid flat (set_patterns flat dag)
patterns_valid flat dag first ops within = record {
  v1 = kept.v1;
  v2 = kept.v2;
  v3 = kept.v3;
  v4 = kept.v4;
  v5 = kept.v5;
  v6 = each_edge flat dag (is_taken flat new) (λ i e there. taken_edge flat (is_even us e) e (slice_get us e.to) (taken i e there));
  v7 = each_edge flat dag (is_level new) (λ i e there.
      let s = ends_of dag e (risen i e there) in
      ap (λ b. not (is_one_to_one (with_pattern flat us e).pattern) || b) (is_level-even us e s)
      ∙ level_port (is_even us e) e.pattern (kind_into flat e (slice_get us e.to)) (taken_kind flat e (slice_get us e.to) (taken i e there)));
  v8 = each_edge flat dag (is_counted new) (λ i e there.
      let s = ends_of dag e (risen i e there) in
      let op = no_trigger s.source.kind (list_all-at (λ u. not (is_utility u.kind)) us e.from s.source s.source_is ops) in
      ap (λ b. is_hash (with_pattern flat us e).pattern || b) (ap (passes (λ u. not (is_trigger u.kind))) s.source_is ∙ op) ∙ or_true (is_hash (with_pattern flat us e).pattern));
  v9 = within;
}
  where
    us : List IrVertex
    us = dag.vertices

    new : IrDag
    new = set_patterns flat dag

    kept : IsOutlined flat (set_patterns flat dag)
    kept =
        let same = map_each (ends (λ n. 1) (λ p. OneToOne)) (ends (λ n. 1) (λ p. OneToOne)) (with_pattern flat dag.vertices) (λ e. refl) dag.edges in
        keeps_outline flat dag (set_patterns flat dag) (ap (λ es. record { vertices = map (bare (λ n. 1) (λ p. OneToOne)) dag.vertices; edges = es; rep = dag.rep }) (sym same)) first

    risen : (i : ℕ) (e : IrEdge) → slice_get dag.edges i ≡ Some e → rises dag e ≡ true
    risen i e there = passed (rises dag) (slice_get dag.edges i) e there (first.v1 i (slice_get_within dag.edges i e there))

    taken : (i : ℕ) (e : IrEdge) → slice_get dag.edges i ≡ Some e → is_taken flat dag e ≡ true
    taken i e there = passed (is_taken flat dag) (slice_get dag.edges i) e there (first.v6 i (slice_get_within dag.edges i e there))
