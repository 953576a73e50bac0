-- The first DAG of each flat job meets the first six clauses.
use Rattle.std.proofs.Common.{option_map, arith, ◌≡◌, ◌≢◌, ◌∙◌, ap, sym, subst, refl, ℕ, zero, suc, ◌+◌, ◌<◌, ◌==◌, IsTrue, List, [], ◌∷◌, length, map, cond, filter, slice_get, slice_index_or, Bool, true, Some, None, eq-eqb, inl, inr, ltb}
use Rattle.std.proofs.lemmas.Bool.{cases_order, lt-ltb, ltb-true, ne_eqb}
use Rattle.std.proofs.lemmas.List.{length-map}
use Rattle.std.proofs.lemmas.List.Sums.{length-filter}
use Rattle.std.proofs.lemmas.Option.{slice_get-map, get_or_from_slice_get, slice_get_past, slice_get_within}
use Rattle.std.specs.Cmp.{first_so, second_so}
use Rattle.std.specs.Cmp.Derive.{both_true}
use Rattle.std.specs.List.{count_by, list_all}
use Rattle.nemo_transform.specs.Ports.{kinds_of}
use Rattle.nemo_transform.specs.declared.shape.PortKind.{PortKind}
use Rattle.nemo_transform.specs.declared.shape.PortKind.TheVariants.{Main, Keyed, Side}
use Rattle.nemo_ir.specs.Along.{all_at, below, counted, passes}
use Rattle.nemo_ir.specs.Flat.{FlatForm, IsFlat, is_input}
use Rattle.nemo_ir.specs.Nodes.{deed_or, edge_at, feed_of, feeds_from, kinds_in, node_of, nodes, rep_of, resolve}
use Rattle.nemo_ir.specs.Valid.{HasRep, Meets, StandsFor, is_fed, is_rep, is_taken, is_used, kinds_at, names_each, ports_named, rises, takes}
use Rattle.nemo_ir.specs.declared.clause.Clause.TheVariants.{V4}
use Rattle.nemo_ir.specs.declared.dag.IrDag.{IrDag}
use Rattle.nemo_ir.specs.declared.dag.IrEdge.{IrEdge}
use Rattle.nemo_ir.specs.declared.dag.IrVertex.{IrVertex}
use Rattle.nemo_ir.specs.declared.flat.FlatVertex.{FlatVertex}
use Rattle.nemo_ir.proofs.FlatPlaces.{has_transform}
use Rattle.nemo_ir.proofs.Lines.{nodes_get}
use Rattle.nemo_ir.proofs.Places.{below_get, counted_length, from_none, got, list_all-at, list_any-at, next, none, same_item}
use Rattle.nemo_flat.specs.FirstDag.{IsFirst, first_dag, op_of, pattern_into, ports_of}
use Rattle.nemo_flat.proofs.FirstEdges.{each_edge, edge_found, edge_of, named_at}
use Rattle.nemo_flat.proofs.LinePath.{edges_from}
use Rattle.nemo_flat.proofs.Ops.{first_stand, resolved_along}

---- place by place

all_at-get : {X : Type 0} (test : ℕ → X → Bool) (k : ℕ) (xs : List X) (i : ℕ) (x : X) → slice_get xs i ≡ Some x → all_at test k xs ≡ true → test (k + i) x ≡ true
all_at-get test k [] i x e h = cc
all_at-get test k (y ∷ ys) zero x e h = ap (λ n. test n x) (sym (none k)) ∙ ap (test k) (sym (same_item y x e)) ∙ first_so (test k y) (all_at test (k + 1) ys) h
all_at-get test k (y ∷ ys) (suc i) x e h = ap (λ n. test n x) (sym (next k i)) ∙ all_at-get test (k + 1) ys i x e (second_so (test k y) (all_at test (k + 1) ys) h)

-- an edge at a place passes what each edge does
at_edge : (flat : FlatForm) (p : IrEdge → Bool)
    → ((v : ℕ) (x : FlatVertex) (port input : ℕ) → slice_get flat.vertices v ≡ Some x → slice_get x.inputs port ≡ Some input → p (edge_of flat v x port input) ≡ true)
    → (i : ℕ) → i < length (edges_from flat 0 flat.vertices) → IsTrue (passes p (slice_get (edges_from flat 0 flat.vertices) i))
at_edge flat p f i l =
    let es = edges_from flat 0 flat.vertices in
    let e = got es i l in
    let each : list_all p es ≡ true = each_edge flat p 0 flat.vertices (λ v x port input g h. ap (λ n. p (edge_of flat n x port input)) (from_none v) ∙ f v x port input g h) in
    ap (passes p) e.1 ∙ list_all-at p es i e.0 e.1 each

op_at : (flat : FlatForm) (v : ℕ) (x : FlatVertex) → slice_get flat.vertices v ≡ Some x → slice_get (map op_of flat.vertices) v ≡ Some (op_of x)
op_at flat v x e = slice_get-map op_of flat.vertices v ∙ ap (option_map op_of) e

-- the Op at a place passes what the Op of each flat vertex does
at_op : (flat : FlatForm) (p : ℕ → IrVertex → Bool) → ((v : ℕ) (x : FlatVertex) → slice_get flat.vertices v ≡ Some x → p v (op_of x) ≡ true)
    → (v : ℕ) → v < length (map op_of flat.vertices) → IsTrue (passes (p v) (slice_get (map op_of flat.vertices) v))
at_op flat p f v l =
    let x = got flat.vertices v (subst (λ n. v < n) (length-map flat.vertices op_of) l) in
    ap (passes (p v)) (op_at flat v x.0 x.1) ∙ f v x.0 x.1

-- inputs have lower numbers
input_less : (flat : FlatForm) → IsFlat flat → (v : ℕ) (x : FlatVertex) (port input : ℕ) → slice_get flat.vertices v ≡ Some x → slice_get x.inputs port ≡ Some input → input < v
input_less flat f v x port input e g =
    let here : list_all (is_input flat v) x.inputs ≡ true =
    ap (λ n. list_all (is_input flat n) x.inputs) (sym (from_none v)) ∙ all_at-get (λ n y. list_all (is_input flat n) y.inputs) 0 flat.vertices v x e f.inputs in
    ltb-true input v (first_so _ _ (list_all-at (is_input flat v) x.inputs port input g here))

---- the clauses of edges

rising : (flat : FlatForm) → IsFlat flat → (v : ℕ) (x : FlatVertex) (port input : ℕ) → slice_get flat.vertices v ≡ Some x → slice_get x.inputs port ≡ Some input
    → rises (first_dag flat) (edge_of flat v x port input) ≡ true
rising flat f v x port input e g =
    let count : length (map op_of flat.vertices) ≡ length flat.vertices = length-map flat.vertices op_of in
    let within : v < length flat.vertices = slice_get_within flat.vertices v x e in
    both_true (lt-ltb input v (input_less flat f v x port input e g)) (lt-ltb v (length (map op_of flat.vertices)) (omega arith))

serves : (k : PortKind) → takes k (pattern_into (Some k)) ≡ true
serves Main = refl
serves Keyed = refl
serves Side = refl

taken : (flat : FlatForm) → IsFlat flat → (v : ℕ) (x : FlatVertex) (port input : ℕ) → slice_get flat.vertices v ≡ Some x → slice_get x.inputs port ≡ Some input
    → is_taken flat (first_dag flat) (edge_of flat v x port input) ≡ true
taken flat f v x port input e g =
    let t = has_transform flat f v x e in
    let within : port < length x.inputs = slice_get_within x.inputs port input g in
    let ports : length (kinds_of t.transform) ≡ length x.inputs = t.ports in
    let k = got (kinds_of t.transform) port (omega arith) in
    ap (passes (λ u. passes (λ kind. takes kind (edge_of flat v x port input).pattern) (slice_get (kinds_at flat u) port))) (op_at flat v x e)
    ∙ ap (λ o. passes (λ kind. takes kind (pattern_into (slice_get (ports_of o) port))) (slice_get (kinds_in (deed_or o)) port)) t.is
    ∙ ap (λ o. passes (λ kind. takes kind (pattern_into o)) o) k.1
    ∙ serves k.0

---- each port is fed once

each_counted : (test : ℕ → Bool) (k n : ℕ) → ((i : ℕ) → i < n → test (k + i) ≡ true) → list_all test (counted k n) ≡ true
each_counted test k zero f = refl
each_counted test k (suc n) f =
    let up : (i : ℕ) → k + suc i ≡ suc k + i = λ i. omega arith in
    both_true (ap test (none k) ∙ f 0 (omega arith)) (each_counted test (suc k) n (λ i l. ap test (sym (up i)) ∙ f (suc i) (omega arith)))

found_none : (p k n : ℕ) → p < k → filter (λ q. q == p) (counted k n) ≡ []
found_none p k zero l = refl
found_none p k (suc n) l =
    let differs : k ≢ p = omega arith in
    let rest = filter (λ q. q == p) (counted (suc k) n) in
    ap (λ b. cond b (k ∷ rest) rest) (ne_eqb k p differs) ∙ found_none p (suc k) n (omega arith)

found_once : (p k n i : ℕ) → p ≡ k + i → i < n → filter (λ q. q == p) (counted k n) ≡ p ∷ []
found_once p k zero i e l = absurd (omega arith)
found_once p k (suc n) zero e l =
    let same : k ≡ p = omega arith in
    let rest = filter (λ q. q == p) (counted (suc k) n) in
    ap (λ b. cond b (k ∷ rest) rest) (eq-eqb k p same) ∙ ap (λ q. q ∷ rest) same ∙ ap (λ qs. p ∷ qs) (found_none p (suc k) n (omega arith))
found_once p k (suc n) (suc i) e l =
    let differs : k ≢ p = omega arith in
    let rest = filter (λ q. q == p) (counted (suc k) n) in
    ap (λ b. cond b (k ∷ rest) rest) (ne_eqb k p differs) ∙ found_once p (suc k) n i (omega arith) (omega arith)

once : (p n : ℕ) → p < n → count_by (λ q. q == p) (below n) ≡ 1
once p n l = sym (length-filter (λ q. q == p) (below n)) ∙ ap length (found_once p 0 n p (sym (from_none p)) l)

names_below : (n : ℕ) → names_each n (below n) ≡ true
names_below n =
    both_true
    (each_counted (λ p. count_by (λ q. q == p) (below n) == 1) 0 n (λ i l. eq-eqb (count_by (λ q. q == 0 + i) (below n)) 1 (once (0 + i) n (omega arith))))
    (each_counted (λ q. ltb q n) 0 n (λ i l. lt-ltb (0 + i) n (omega arith)))

fed : (flat : FlatForm) → IsFlat flat → (v : ℕ) (x : FlatVertex) → slice_get flat.vertices v ≡ Some x → is_fed flat (first_dag flat) v (op_of x) ≡ true
fed flat f v x e =
    let t = has_transform flat f v x e in
    let es = edges_from flat 0 flat.vertices in
    ap (λ o. names_each (length (kinds_in (deed_or o))) (ports_named es v)) t.is
    ∙ ap (names_each (length (kinds_of t.transform))) (ap (ports_named es) (sym (from_none v)) ∙ named_at flat 0 flat.vertices v x e)
    ∙ ap (λ n. names_each n (below (length x.inputs))) t.ports
    ∙ names_below (length x.inputs)

---- each flat vertex is stood for by the Op of its number

rep_own : (flat : FlatForm) (i : ℕ) → i < length flat.vertices → rep_of (first_dag flat) i ≡ i
rep_own flat i l = get_or_from_slice_get (below (length flat.vertices)) i i 0 (below_get (length flat.vertices) i l)

resolve_own : (flat : FlatForm) (i : ℕ) → i < length flat.vertices → resolve (first_dag flat) i ≡ i
resolve_own flat i l =
    let count : length (map op_of flat.vertices) ≡ length flat.vertices = length-map flat.vertices op_of in
    ap (λ ns. slice_index_or ns i 0) (resolved_along (edges_from flat 0 flat.vertices) [] (map op_of flat.vertices) flat.vertices (first_stand flat.vertices))
    ∙ get_or_from_slice_get (below (length (map op_of flat.vertices))) i i 0 (below_get (length (map op_of flat.vertices)) i (omega arith))

feeds_are : (dag : IrDag) (es : List IrEdge) (v port : ℕ) (kinds : List PortKind) (inputs : List ℕ) → length kinds ≡ length inputs
    → ((i input : ℕ) → slice_get inputs i ≡ Some input → resolve dag (feed_of (edge_at es v (port + i))).from ≡ rep_of dag input)
    → map (λ f. resolve dag f.from) (feeds_from es v port kinds) ≡ map (rep_of dag) inputs
feeds_are dag es v port [] [] e f = refl
feeds_are dag es v port (k ∷ kinds) [] e f = absurd (omega arith)
feeds_are dag es v port [] (input ∷ inputs) e f = absurd (omega arith)
feeds_are dag es v port (k ∷ kinds) (input ∷ inputs) e f =
    let first : resolve dag (feed_of (edge_at es v port)).from ≡ rep_of dag input = ap (λ p. resolve dag (feed_of (edge_at es v p)).from) (none port) ∙ f 0 input refl in
    let rest = feeds_are dag es v (port + 1) kinds inputs (omega arith) (λ i n g. ap (λ p. resolve dag (feed_of (edge_at es v p)).from) (next port i) ∙ f (suc i) n g) in
    ap (λ n. n ∷ map (λ d. resolve dag d.from) (feeds_from es v (port + 1) kinds)) first ∙ ap (λ ns. rep_of dag input ∷ ns) rest

-- a port takes what stands for the input of its number
takes_input : (flat : FlatForm) → IsFlat flat → (v : ℕ) (x : FlatVertex) → slice_get flat.vertices v ≡ Some x → (i input : ℕ) → slice_get x.inputs i ≡ Some input
    → resolve (first_dag flat) (feed_of (edge_at (edges_from flat 0 flat.vertices) v (0 + i))).from ≡ rep_of (first_dag flat) input
takes_input flat f v x e i input g =
    let es = edges_from flat 0 flat.vertices in
    let within : v < length flat.vertices = slice_get_within flat.vertices v x e in
    let less : input < v = input_less flat f v x i input e g in
    let found : edge_at es (0 + v) i ≡ Some (edge_of flat (0 + v) x i input) = edge_found flat 0 flat.vertices v x i input e g in
    ap (λ n. resolve (first_dag flat) (feed_of (edge_at es n (0 + i))).from) (sym (from_none v))
    ∙ ap (λ p. resolve (first_dag flat) (feed_of (edge_at es (0 + v) p)).from) (from_none i)
    ∙ ap (λ o. resolve (first_dag flat) (feed_of o).from) found
    ∙ resolve_own flat input (omega arith) ∙ sym (rep_own flat input (omega arith))

stands : (flat : FlatForm) → IsFlat flat → (v : ℕ) (x : FlatVertex) → slice_get flat.vertices v ≡ Some x
    → StandsFor flat (first_dag flat) x (slice_get (nodes flat.transforms (first_dag flat)) v)
stands flat f v x e =
    let t = has_transform flat f v x e in
    let dag = first_dag flat in
    let node = node_of flat.transforms dag.edges v (op_of x) in
    let is : slice_get (nodes flat.transforms dag) v ≡ Some node =
    nodes_get flat.transforms dag.edges 0 dag.vertices v (op_of x) (op_at flat v x e) ∙ ap (λ n. Some (node_of flat.transforms dag.edges n (op_of x))) (from_none v) in
    let feeds : map (λ d. resolve dag d.from) node.feeds ≡ map (rep_of dag) x.inputs =
    ap (λ o. map (λ d. resolve dag d.from) (feeds_from dag.edges v 0 (kinds_in (deed_or o)))) t.is
    ∙ feeds_are dag dag.edges v 0 (kinds_of t.transform) x.inputs t.ports (takes_input flat f v x e) in
    subst (StandsFor flat dag x) (sym is) (refl, feeds)

has_rep : (flat : FlatForm) → IsFlat flat → (v : ℕ) → v < length flat.vertices + 1 → Meets flat (first_dag flat) V4 v
has_rep flat f v l = elim (cases_order v (length flat.vertices)) [ inl e ↦ past e | inr d ↦ elim d [ inl less ↦ here less | inr more ↦ absurd (omega arith) ] ]
  where
    past : v ≡ length flat.vertices → Meets flat (first_dag flat) V4 v
    past e =
        let count : length (below (length flat.vertices)) ≡ length flat.vertices = counted_length 0 (length flat.vertices) in
        subst (λ o. HasRep flat (first_dag flat) o (slice_get (below (length flat.vertices)) v)) (sym (slice_get_past flat.vertices v (omega arith)))
        (subst (HasRep flat (first_dag flat) None) (sym (slice_get_past (below (length flat.vertices)) v (omega arith))) tt)

    here : v < length flat.vertices → Meets flat (first_dag flat) V4 v
    here less =
        let x = got flat.vertices v less in
        subst (λ o. HasRep flat (first_dag flat) o (slice_get (below (length flat.vertices)) v)) (sym x.1)
        (subst (HasRep flat (first_dag flat) (Some x.0)) (sym (below_get (length flat.vertices) v less)) (stands flat f v x.0 x.1))

own_rep : (flat : FlatForm) (v : ℕ) (x : FlatVertex) → slice_get flat.vertices v ≡ Some x → is_rep (first_dag flat) v (op_of x) ≡ true
own_rep flat v x e =
    let within : v < length flat.vertices = slice_get_within flat.vertices v x e in
    list_any-at (λ r. r == v) (below (length flat.vertices)) v v (below_get (length flat.vertices) v within) (eq-eqb v v refl)

---- all

pub first_meets : (flat : FlatForm) → IsFlat flat → IsFirst flat (first_dag flat)
first_meets flat f = record {
  v1 = at_edge flat (rises (first_dag flat)) (rising flat f);
  v2 = at_op flat (is_used (first_dag flat)) (λ v x e. refl);
  v3 = at_op flat (is_fed flat (first_dag flat)) (fed flat f);
  v4 = has_rep flat f;
  v5 = at_op flat (is_rep (first_dag flat)) (own_rep flat);
  v6 = at_edge flat (is_taken flat (first_dag flat)) (taken flat f);
}
