-- DAGs of an Op for each vertex of a line are valid.
use Rattle.std.proofs.Common.{option_map, Option, arith, ◌≡◌, ◌∙◌, ap, sym, subst, refl, ℕ, zero, suc, ◌+◌, ◌<◌, ◌≤◌, ◌==◌, ◌||◌, IsTrue, List, [], ◌∷◌, length, map, slice_get, slice_index_or, not, true, Some, None, eq-eqb, inl, inr}
use Rattle.std.proofs.lemmas.Bool.{cases_order, le-leb, lt-ltb}
use Rattle.std.proofs.lemmas.Option.{slice_get-map, get_or_from_slice_get, slice_get_past}
use Rattle.std.specs.Cmp.Derive.{both_true}
use Rattle.std.specs.List.{list_any}
use Rattle.nemo_base.specs.declared.annotation.Pattern.{Pattern}
use Rattle.nemo_transform.specs.Ports.{kinds_of}
use Rattle.nemo_transform.specs.declared.shape.PortKind.{PortKind}
use Rattle.nemo_transform.specs.declared.shape.PortKind.TheVariants.{Main, Keyed, Side}
use Rattle.nemo_transform.specs.declared.transform.Transform.{Transform}
use Rattle.nemo_ir.specs.Along.{below, passes}
use Rattle.nemo_ir.specs.Flat.{FlatForm, IsFlat, transform_of}
use Rattle.nemo_ir.specs.Nodes.{Does, deed_of, deed_or, edge_at, feed_of, feeds_from, is_utility, kinds_in, node_of, nodes, rep_of, resolve}
use Rattle.nemo_ir.specs.Valid.{HasRep, StandsFor, Valid, is_counted, is_fed, is_hash, is_level, is_one_to_one, is_rep, is_taken, is_trigger, is_used, is_within, kinds_at, names_each, ports_named, rises, takes}
use Rattle.nemo_ir.specs.declared.dag.IrDag.{IrDag}
use Rattle.nemo_ir.specs.declared.dag.IrEdge.{IrEdge}
use Rattle.nemo_ir.specs.declared.dag.IrVertex.{IrVertex}
use Rattle.nemo_ir.specs.declared.dag.VertexKind.TheVariants.{Op}
use Rattle.nemo_ir.specs.declared.flat.FlatVertex.{FlatVertex}
use Rattle.nemo_flat.specs.FirstDag.{first_dag, op_of, pattern_into, ports_of}
use Rattle.nemo_ir.specs.Line.{IsLine, one_before}
use Rattle.nemo_ir.proofs.FlatPlaces.{has_transform}
use Rattle.nemo_ir.proofs.Places.{below_get, counted_length, from_none, got, list_any-at, or_true, same_item}
use Rattle.nemo_ir.proofs.Lines.{line_inputs, nodes_get, only_kind}
use Rattle.nemo_flat.proofs.LinePath.{IsPath, edges_from, line_start, none_named, one_named, path_edge, path_get}
use Rattle.nemo_flat.proofs.Ops.{IsOp, Stand, first_stand, pair_at, resolved_along, stand_length}

---- what has to be known of a DAG

-- the pattern serves the port, between vertices of these parallelisms
pub record Serves (q : Pattern) (from to : ℕ) (k : PortKind) : Type 0 where
  pub taken : takes k q ≡ true
  pub level : (not (is_one_to_one q) || (from == to)) ≡ true

pub record IsOps (flat : FlatForm) (dag : IrDag) : Type 0 where
  pub stand : Stand dag.vertices flat.vertices
  pub path : IsPath 0 dag.edges
  pub size : suc (length dag.edges) ≡ length flat.vertices
  pub rep : dag.rep ≡ below (length flat.vertices)
  pub patterns : (i : ℕ) (e : IrEdge) (u w : IrVertex) (k : PortKind) → slice_get dag.edges i ≡ Some e → slice_get dag.vertices e.from ≡ Some u → slice_get dag.vertices e.to ≡ Some w
      → slice_get (kinds_at flat w) e.port ≡ Some k → Serves e.pattern u.parallelism w.parallelism k

---- numbers

---- a vertex with its flat vertex, its transform and its one port

pub record Known (flat : FlatForm) (dag : IrDag) (i : ℕ) : Type 0 where
  pub op : IrVertex
  pub copy : FlatVertex
  pub op_at : slice_get dag.vertices i ≡ Some op
  pub copy_at : slice_get flat.vertices i ≡ Some copy
  pub stands : IsOp op copy
  pub inputs : copy.inputs ≡ one_before i
  pub transform : Transform
  pub is : transform_of flat copy ≡ Some transform
  pub ports : length (kinds_of transform) ≡ length (one_before i)
  pub deed : deed_of flat.transforms op.kind ≡ Does transform

known : (flat : FlatForm) (dag : IrDag) → IsFlat flat → IsLine flat → IsOps flat dag → (i : ℕ) → i < length flat.vertices → Known flat dag i
known flat dag f line p i h =
    let q = pair_at dag.vertices flat.vertices p.stand i h in
    let t = has_transform flat f i q.copy q.copy_at in
    let inputs = line_inputs flat line i q.copy q.copy_at in
    record {
      op = q.op;
      copy = q.copy;
      op_at = q.op_at;
      copy_at = q.copy_at;
      stands = q.stands;
      inputs = inputs;
      transform = t.transform;
      is = t.is;
      ports = t.ports ∙ ap length inputs;
      deed = ap (deed_of flat.transforms) q.stands.kind ∙ ap deed_or t.is;
    }

vertices_size : (flat : FlatForm) (dag : IrDag) → IsOps flat dag → length dag.vertices ≡ length flat.vertices
vertices_size flat dag p = stand_length dag.vertices flat.vertices p.stand

---- the clauses

v1 : (flat : FlatForm) (dag : IrDag) → IsOps flat dag → (i : ℕ) → i < length dag.edges → IsTrue (passes (rises dag) (slice_get dag.edges i))
v1 flat dag p i h =
    let e = got dag.edges i h in
    let s = path_get 0 dag.edges i e.0 p.path e.1 in
    let from : e.0.from ≡ 0 + i = s.from in
    let to : e.0.to ≡ suc (0 + i) = s.to in
    let n : length dag.vertices ≡ length flat.vertices = vertices_size flat dag p in
    let size : suc (length dag.edges) ≡ length flat.vertices = p.size in
    let less : e.0.from < e.0.to = omega arith in
    let within : e.0.to < length dag.vertices = omega arith in
    ap (passes (rises dag)) e.1 ∙ both_true (lt-ltb e.0.from e.0.to less) (lt-ltb e.0.to (length dag.vertices) within)

v2 : (flat : FlatForm) (dag : IrDag) (v : ℕ) → Known flat dag v → IsTrue (passes (is_used dag v) (slice_get dag.vertices v))
v2 flat dag v k = ap (passes (is_used dag v)) k.op_at ∙ ap (λ w. not (is_utility w) || list_any (λ e. e.from == v) dag.edges) k.stands.kind

v3 : (flat : FlatForm) (dag : IrDag) → IsOps flat dag → (v : ℕ) → v < length flat.vertices → Known flat dag v → IsTrue (passes (is_fed flat dag v) (slice_get dag.vertices v))
v3 flat dag p v h k =
    ap (passes (is_fed flat dag v)) k.op_at
    ∙ ap (λ d. names_each (length (kinds_in d)) (ports_named dag.edges v)) k.deed
    ∙ ap (λ n. names_each n (ports_named dag.edges v)) k.ports ∙ named v h
  where
    named : (w : ℕ) → w < length flat.vertices → names_each (length (one_before w)) (ports_named dag.edges w) ≡ true
    named zero l = ap (names_each 0) (none_named 0 dag.edges 0 p.path (omega arith))
    named (suc i) l =
        let size : suc (length dag.edges) ≡ length flat.vertices = p.size in
        ap (λ n. names_each 1 (ports_named dag.edges (suc n))) (sym (from_none i)) ∙ ap (names_each 1) (one_named 0 dag.edges i p.path (omega arith))

rep_own : (flat : FlatForm) (dag : IrDag) → IsOps flat dag → (i : ℕ) → i < length flat.vertices → slice_get dag.rep i ≡ Some i
rep_own flat dag p i h = ap (λ r. slice_get r i) p.rep ∙ below_get (length flat.vertices) i h

resolve_own : (flat : FlatForm) (dag : IrDag) → IsOps flat dag → (i : ℕ) → i < length flat.vertices → resolve dag i ≡ i
resolve_own flat dag p i h =
    let n : length dag.vertices ≡ length flat.vertices = vertices_size flat dag p in
    ap (λ l. slice_index_or l i 0) (resolved_along dag.edges [] dag.vertices flat.vertices p.stand)
    ∙ get_or_from_slice_get (below (length dag.vertices)) i i 0 (below_get (length dag.vertices) i (omega arith))

feeds : (flat : FlatForm) (dag : IrDag) → IsOps flat dag → (x : ℕ) (ks : List PortKind) → x < length flat.vertices → length ks ≡ length (one_before x)
    → map (λ f. resolve dag f.from) (feeds_from dag.edges x 0 ks) ≡ map (rep_of dag) (one_before x)
feeds flat dag p zero [] h e = refl
feeds flat dag p zero (k ∷ ks) h e = absurd (omega arith)
feeds flat dag p (suc i) [] h e = absurd (omega arith)
feeds flat dag p (suc i) (k ∷ []) h e =
    let size : suc (length dag.edges) ≡ length flat.vertices = p.size in
    let g = path_edge 0 dag.edges i p.path (omega arith) in
    let at_edge : edge_at dag.edges (suc i) 0 ≡ Some g.edge = ap (λ n. edge_at dag.edges (suc n) 0) (sym (from_none i)) ∙ g.is in
    let rep : rep_of dag i ≡ i = get_or_from_slice_get dag.rep i i 0 (rep_own flat dag p i (omega arith)) in
    ap (λ o. resolve dag (feed_of o).from ∷ []) at_edge ∙ ap (λ n. resolve dag n ∷ []) (g.comes ∙ from_none i) ∙ ap (λ n. n ∷ []) (resolve_own flat dag p i (omega arith) ∙ sym rep)
feeds flat dag p (suc i) (k ∷ l ∷ ks) h e = absurd (omega arith)

v4 : (flat : FlatForm) (dag : IrDag) → IsFlat flat → IsLine flat → IsOps flat dag → (x : ℕ) → x < length flat.vertices + 1 → HasRep flat dag (slice_get flat.vertices x) (slice_get dag.rep x)
v4 flat dag f line p x h = elim (cases_order x (length flat.vertices)) [ inl e ↦ past e | inr d ↦ elim d [ inl l ↦ here l | inr g ↦ absurd (omega arith) ] ]
  where
    past : x ≡ length flat.vertices → HasRep flat dag (slice_get flat.vertices x) (slice_get dag.rep x)
    past e =
        let count : length dag.rep ≡ length flat.vertices = ap length p.rep ∙ counted_length 0 (length flat.vertices) in
        subst (λ o. HasRep flat dag o (slice_get dag.rep x)) (sym (slice_get_past flat.vertices x (omega arith))) (subst (HasRep flat dag None) (sym (slice_get_past dag.rep x (omega arith))) tt)

    here : x < length flat.vertices → HasRep flat dag (slice_get flat.vertices x) (slice_get dag.rep x)
    here l =
        let k = known flat dag f line p x l in
        let node = node_of flat.transforms dag.edges x k.op in
        let node_at : slice_get (nodes flat.transforms dag) x ≡ Some node = nodes_get flat.transforms dag.edges 0 dag.vertices x k.op k.op_at ∙ ap (λ n. Some (node_of flat.transforms dag.edges n k.op)) (from_none x) in
        let fed : map (λ f. resolve dag f.from) node.feeds ≡ map (rep_of dag) k.copy.inputs =
        ap (λ d. map (λ f. resolve dag f.from) (feeds_from dag.edges x 0 (kinds_in d))) k.deed ∙ feeds flat dag p x (kinds_of k.transform) l k.ports ∙ sym (ap (map (rep_of dag)) k.inputs) in
        let stands : StandsFor flat dag k.copy (Some node) = (k.deed ∙ sym (ap deed_or k.is), fed) in
        subst (λ o. HasRep flat dag o (slice_get dag.rep x)) (sym k.copy_at) (subst (HasRep flat dag (Some k.copy)) (sym (rep_own flat dag p x l)) (subst (StandsFor flat dag k.copy) (sym node_at) stands))

v5 : (flat : FlatForm) (dag : IrDag) → IsOps flat dag → (v : ℕ) → v < length flat.vertices → Known flat dag v → IsTrue (passes (is_rep dag v) (slice_get dag.vertices v))
v5 flat dag p v h k =
    ap (passes (is_rep dag v)) k.op_at
    ∙ ap (λ b. is_utility k.op.kind || b) (list_any-at (λ r. r == v) dag.rep v v (rep_own flat dag p v h) (eq-eqb v v refl))
    ∙ or_true (is_utility k.op.kind)

v9 : (flat : FlatForm) (dag : IrDag) → IsFlat flat → (v : ℕ) → v < length flat.vertices → Known flat dag v → IsTrue (passes (is_within v) (slice_get dag.vertices v))
v9 flat dag f v h k =
    let few : length flat.vertices ≤ 512 = f.few in
    ap (passes (is_within v)) k.op_at ∙ both_true (both_true (lt-ltb v 4096 (omega arith)) (le-leb 1 k.op.parallelism k.stands.tasks.some)) (le-leb k.op.parallelism 64 k.stands.tasks.few)

---- an edge with its ends and the kind of its port

pub record KnownEdge (flat : FlatForm) (dag : IrDag) (i : ℕ) : Type 0 where
  pub edge : IrEdge
  pub is : slice_get dag.edges i ≡ Some edge
  pub source : IrVertex
  pub source_at : slice_get dag.vertices edge.from ≡ Some source
  pub number : ℕ
  pub does : source.kind ≡ Op number
  pub target : IrVertex
  pub target_at : slice_get dag.vertices edge.to ≡ Some target
  pub kind : PortKind
  pub kind_at : slice_get (kinds_at flat target) edge.port ≡ Some kind
  pub serves : Serves edge.pattern source.parallelism target.parallelism kind

known_edge : (flat : FlatForm) (dag : IrDag) → IsFlat flat → IsLine flat → IsOps flat dag → (i : ℕ) → i < length dag.edges → KnownEdge flat dag i
known_edge flat dag f line p i h =
    let size : suc (length dag.edges) ≡ length flat.vertices = p.size in
    let e = got dag.edges i h in
    let s = path_get 0 dag.edges i e.0 p.path e.1 in
    let a = known flat dag f line p i (omega arith) in
    let b = known flat dag f line p (suc i) (omega arith) in
    let only = only_kind (kinds_of b.transform) b.ports in
    let source_at : slice_get dag.vertices e.0.from ≡ Some a.op = ap (slice_get dag.vertices) (s.from ∙ from_none i) ∙ a.op_at in
    let target_at : slice_get dag.vertices e.0.to ≡ Some b.op = ap (slice_get dag.vertices) (s.to ∙ ap suc (from_none i)) ∙ b.op_at in
    let kind_at : slice_get (kinds_at flat b.op) e.0.port ≡ Some only.0 = ap (λ d. slice_get (kinds_in d) e.0.port) b.deed ∙ ap (λ ks. slice_get ks e.0.port) only.1 ∙ ap (slice_get (only.0 ∷ [])) s.port in
    record {
      edge = e.0;
      is = e.1;
      source = a.op;
      source_at = source_at;
      number = a.copy.transform;
      does = a.stands.kind;
      target = b.op;
      target_at = target_at;
      kind = only.0;
      kind_at = kind_at;
      serves = p.patterns i e.0 a.op b.op only.0 e.1 source_at target_at kind_at;
    }

v6 : (flat : FlatForm) (dag : IrDag) (i : ℕ) → KnownEdge flat dag i → IsTrue (passes (is_taken flat dag) (slice_get dag.edges i))
v6 flat dag i k =
    ap (passes (is_taken flat dag)) k.is
    ∙ ap (passes (λ u. passes (λ kind. takes kind k.edge.pattern) (slice_get (kinds_at flat u) k.edge.port))) k.target_at
    ∙ ap (passes (λ kind. takes kind k.edge.pattern)) k.kind_at ∙ k.serves.taken

v7 : (flat : FlatForm) (dag : IrDag) (i : ℕ) → KnownEdge flat dag i → IsTrue (passes (is_level dag) (slice_get dag.edges i))
v7 flat dag i k =
    ap (passes (is_level dag)) k.is
    ∙ ap (λ o. not (is_one_to_one k.edge.pattern) || passes (λ u. passes (λ w. u.parallelism == w.parallelism) (slice_get dag.vertices k.edge.to)) o) k.source_at
    ∙ ap (λ o. not (is_one_to_one k.edge.pattern) || passes (λ w. k.source.parallelism == w.parallelism) o) k.target_at
    ∙ k.serves.level

v8 : (flat : FlatForm) (dag : IrDag) (i : ℕ) → KnownEdge flat dag i → IsTrue (passes (is_counted dag) (slice_get dag.edges i))
v8 flat dag i k =
    ap (passes (is_counted dag)) k.is
    ∙ ap (λ o. is_hash k.edge.pattern || passes (λ u. not (is_trigger u.kind)) o) k.source_at
    ∙ ap (λ kind. is_hash k.edge.pattern || not (is_trigger kind)) k.does
    ∙ or_true (is_hash k.edge.pattern)

---- all

pub ops_valid : (flat : FlatForm) (dag : IrDag) → IsFlat flat → IsLine flat → IsOps flat dag → Valid flat dag
ops_valid flat dag f line is =
    let n : length dag.vertices ≡ length flat.vertices = vertices_size flat dag is in
    record {
      v1 = λ i h. v1 flat dag is i h;
      v2 = λ v h. v2 flat dag v (known flat dag f line is v (subst (λ m. v < m) n h));
      v3 = λ v h. v3 flat dag is v (subst (λ m. v < m) n h) (known flat dag f line is v (subst (λ m. v < m) n h));
      v4 = λ x h. v4 flat dag f line is x h;
      v5 = λ v h. v5 flat dag is v (subst (λ m. v < m) n h) (known flat dag f line is v (subst (λ m. v < m) n h));
      v6 = λ i h. v6 flat dag i (known_edge flat dag f line is i h);
      v7 = λ i h. v7 flat dag i (known_edge flat dag f line is i h);
      v8 = λ i h. v8 flat dag i (known_edge flat dag f line is i h);
      v9 = λ v h. v9 flat dag f v (subst (λ m. v < m) n h) (known flat dag f line is v (subst (λ m. v < m) n h));
    }

---- the first DAG

kinds_are : (o : Option Transform) → kinds_in (deed_or o) ≡ ports_of o
kinds_are (Some t) = refl
kinds_are None = refl

first_serves : (k : PortKind) (from to : ℕ) → from ≡ to → Serves (pattern_into (Some k)) from to k
first_serves Main from to e = record { taken = refl; level = eq-eqb from to e }
first_serves Keyed from to e = record { taken = refl; level = refl }
first_serves Side from to e = record { taken = refl; level = refl }

one_task : (xs : List FlatVertex) (i : ℕ) (u : IrVertex) → slice_get (map op_of xs) i ≡ Some u → u.parallelism ≡ 1
one_task [] i u g = cc
one_task (x ∷ xs) zero u g = ap (λ w. w.parallelism) (sym (same_item (op_of x) u g))
one_task (x ∷ xs) (suc i) u g = one_task xs i u g

pub first_valid : (flat : FlatForm) → IsFlat flat → IsLine flat → Valid flat (first_dag flat)
first_valid flat f line =
    let l = line_start flat line f.some in
    let xs = flat.vertices in
    ops_valid flat (first_dag flat) f line
    (record {
      stand = first_stand xs;
      path = l.path;
      size = l.size;
      rep = refl;
      patterns = λ i e u w k g source target kind.
          let r = l.patterns i e g in
          let s = path_get 0 (edges_from flat 0 xs) i e l.path g in
          let op : slice_get (map op_of xs) (suc i) ≡ Some (op_of r.copy) = slice_get-map op_of xs (suc i) ∙ ap (option_map op_of) r.copy_at in
          let is : op_of r.copy ≡ w = same_item (op_of r.copy) w (sym op ∙ ap (λ n. slice_get (map op_of xs) (suc n)) (sym (from_none i)) ∙ ap (slice_get (map op_of xs)) (sym s.to) ∙ target) in
          let at_port : slice_get (ports_of (transform_of flat r.copy)) e.port ≡ Some k =
          ap (λ ks. slice_get ks e.port) (sym (kinds_are (transform_of flat r.copy))) ∙ ap (λ v. slice_get (kinds_at flat v) e.port) is ∙ kind in
          let q : e.pattern ≡ pattern_into (Some k) = r.pattern ∙ ap pattern_into at_port in
          subst (λ c. Serves c u.parallelism w.parallelism k) (sym q) (first_serves k u.parallelism w.parallelism (one_task xs e.from u source ∙ sym (one_task xs e.to w target)));
    })
