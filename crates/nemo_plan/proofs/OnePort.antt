-- Each port of a vertex of a valid DAG has one in-edge alone, and a feed of a task is such an edge.
use Rattle.std.proofs.Common.{arith, ◌≡◌, ◌∙◌, ap, sym, subst, refl, ℕ, zero, suc, ◌+◌, ◌<◌, ◌≤◌, ◌==◌, ◌&&◌, Bool, true, false, cond, List, [], ◌∷◌, length, map, filter, count_by, slice_get, Some, nat_lt, inl, inr, eq-eqb}
use Rattle.std.proofs.lemmas.Bool.{eqb-true, ltb-true}
use Rattle.std.proofs.lemmas.List.Sums.{length-filter}
use Rattle.std.proofs.lemmas.Option.{slice_get_within}
use Rattle.std.specs.Cmp.{first_so, second_so}
use Rattle.nemo_transform.specs.declared.shape.PortKind.{PortKind}
use Rattle.nemo_value.specs.Members.{In}
use Rattle.nemo_value.proofs.MemberLists.{filter_in, in_map}
use Rattle.nemo_ir.specs.Along.{below}
use Rattle.nemo_ir.specs.Flat.{FlatForm}
use Rattle.nemo_ir.specs.Nodes.{Feed, Node, edge_at, feed_of, feeds_from, nodes}
use Rattle.nemo_ir.specs.Valid.{Valid, is_fed, kinds_at, ports_named}
use Rattle.nemo_ir.specs.declared.dag.IrDag.{IrDag}
use Rattle.nemo_ir.specs.declared.dag.IrEdge.{IrEdge}
use Rattle.nemo_ir.specs.declared.dag.IrVertex.{IrVertex}
use Rattle.nemo_ir.proofs.Places.{from_none, got, next, none}
use Rattle.nemo_ir.proofs.PortEdges.{edge_rises, node_at, passed, port_edge}
use Rattle.nemo_plan.proofs.Memberships.{all_in, at_in, below_in, some_member}

---- the edge into a port

-- the in-edges of a vertex that name a port
abbrev hits : List IrEdge → ℕ → ℕ → List ℕ
hits es v p = filter (λ q. q == p) (ports_named es v)

is_named : (es : List IrEdge) (v i : ℕ) (e : IrEdge) → slice_get es i ≡ Some e → e.to ≡ v → In e.port (ports_named es v)
is_named es v i e there to = in_map (λ (d : IrEdge). d.port) e (filter (λ d. d.to == v) es) (filter_in (λ d. d.to == v) e es (at_in es i e there) (eq-eqb e.to v to))

is_hit : (es : List IrEdge) (v p i : ℕ) (e : IrEdge) → slice_get es i ≡ Some e → e.to ≡ v → e.port ≡ p → 1 ≤ length (hits es v p)
is_hit es v p i e there to port = some_member (hits es v p) e.port (filter_in (λ q. q == p) e.port (ports_named es v) (is_named es v i e there to) (eq-eqb e.port p port))

alone : (es : List IrEdge) (v p i : ℕ) (e : IrEdge) → length (hits es v p) ≡ 1 → slice_get es i ≡ Some e → e.to ≡ v → e.port ≡ p → edge_at es v p ≡ Some e
alone [] v p i e one there to port = cc
alone (d ∷ es) v p zero e one there to port =
    let same : d ≡ e = cc in
    let here : (d.to == v) ≡ true = eq-eqb d.to v (ap (λ (x : IrEdge). x.to) same ∙ to) in
    let fits : (d.port == p) ≡ true = eq-eqb d.port p (ap (λ (x : IrEdge). x.port) same ∙ port) in
    (λ i. cond (here i && fits i) (Some d) (edge_at es v p)) ∙ ap Some same
alone (d ∷ es) v p (suc i) e one there to port = go (d.to == v) (d.port == p) refl one (alone es v p i e) (is_hit es v p i e there to port)
  where
    go : (a b : Bool) → (d.port == p) ≡ b → length (filter (λ q. q == p) (map (λ (x : IrEdge). x.port) (cond a (d ∷ filter (λ x. x.to == v) es) (filter (λ x. x.to == v) es)))) ≡ 1
        → (length (hits es v p) ≡ 1 → slice_get es i ≡ Some e → e.to ≡ v → e.port ≡ p → edge_at es v p ≡ Some e) → 1 ≤ length (hits es v p) → cond (a && b) (Some d) (edge_at es v p) ≡ Some e
    go true true h one more some =
        let two : length (cond true (d.port ∷ hits es v p) (hits es v p)) ≡ 1 = sym (ap (λ b. length (cond b (d.port ∷ hits es v p) (hits es v p))) h) ∙ one in
        absurd (omega arith)
    go true false h one more some = more (sym (ap (λ b. length (cond b (d.port ∷ hits es v p) (hits es v p))) h) ∙ one) there to port
    go false b h one more some = more one there to port

-- an edge as the in-edge of its port
pub record IsPortEdge (flat : FlatForm) (dag : IrDag) (e : IrEdge) : Type 0 where
  pub vertex : IrVertex
  pub vertex_at : slice_get dag.vertices e.to ≡ Some vertex
  pub within : e.port < length (kinds_at flat vertex)
  pub first : edge_at dag.edges e.to e.port ≡ Some e

module _ (flat : FlatForm) (dag : IrDag) (valid : Valid flat dag) where
  pub is_port_edge : (i : ℕ) (e : IrEdge) → slice_get dag.edges i ≡ Some e → IsPortEdge flat dag e
  is_port_edge i e there =
      let u = got dag.vertices e.to (edge_rises flat dag valid i e there).inside in
      let n = length (kinds_at flat u.0) in
      let fed = passed (is_fed flat dag e.to) (slice_get dag.vertices e.to) u.0 u.1 (valid.v3 e.to (slice_get_within dag.vertices e.to u.0 u.1)) in
      let within : e.port < n = ltb-true e.port n (all_in (λ q. nat_lt q n) (ports_named dag.edges e.to) e.port (second_so _ _ fed) (is_named dag.edges e.to i e there refl)) in
      let once : count_by (λ q. q == e.port) (ports_named dag.edges e.to) ≡ 1 =
      eqb-true _ 1 (all_in (λ r. count_by (λ q. q == r) (ports_named dag.edges e.to) == 1) (below n) e.port (first_so _ _ fed) (below_in n e.port within)) in
      record {
        vertex = u.0;
        vertex_at = u.1;
        within = within;
        first = alone dag.edges e.to e.port i e (length-filter (λ q. q == e.port) (ports_named dag.edges e.to) ∙ once) there refl refl;
      }

---- feeds

record FeedAt (es : List IrEdge) (v p : ℕ) (ks : List PortKind) (f : Feed) : Type 0 where
  port : ℕ
  within : port < length ks
  is : f ≡ feed_of (edge_at es v (p + port))

feed_at : (es : List IrEdge) (v p : ℕ) (ks : List PortKind) (f : Feed) → In f (feeds_from es v p ks) → FeedAt es v p ks f
feed_at es v p [] f m = absurd m
feed_at es v p (k ∷ ks) f (inl e) = record { port = 0; within = omega arith; is = e ∙ ap (λ n. feed_of (edge_at es v n)) (none p) }
feed_at es v p (k ∷ ks) f (inr m) =
    let r = feed_at es v (p + 1) ks f m in
    let less : r.port < length ks = r.within in
    record { port = suc r.port; within = omega arith; is = r.is ∙ ap (λ n. feed_of (edge_at es v n)) (next p r.port) }

-- the edge of a feed
pub record IsFeedEdge (flat : FlatForm) (dag : IrDag) (v : ℕ) (f : Feed) : Type 0 where
  pub edge : IrEdge
  pub place : ℕ
  pub there : slice_get dag.edges place ≡ Some edge
  pub to : edge.to ≡ v
  pub is : f ≡ feed_of (Some edge)

pub feed_edge : (flat : FlatForm) (dag : IrDag) → Valid flat dag → (v : ℕ) (node : Node) (f : Feed) → slice_get (nodes flat.transforms dag) v ≡ Some node → In f node.feeds → IsFeedEdge flat dag v f
feed_edge flat dag valid v node f at_v m =
    let n = node_at flat.transforms dag v node at_v in
    let r = feed_at dag.edges v 0 (kinds_at flat n.vertex) f (subst (λ (x : Node). In f x.feeds) n.is m) in
    let found = port_edge flat dag valid v n.vertex r.port n.there r.within in
    record {
      edge = found.edge;
      place = found.place;
      there = found.there;
      to = found.to;
      is = r.is ∙ ap (λ p. feed_of (edge_at dag.edges v p)) (from_none r.port) ∙ ap feed_of found.first;
    }
