-- The in-edges of a valid DAG's ports, and its nodes.
use Rattle.std.proofs.Common.{◌≡◌, ◌∙◌, ap, sym, subst, refl, ℕ, zero, suc, ◌+◌, ◌<◌, ◌==◌, ◌&&◌, Bool, true, false, cond, List, [], ◌∷◌, length, map, filter, count_by, slice_get, Option, Some, None}
use Rattle.std.proofs.lemmas.Bool.{eqb-true, ltb-true}
use Rattle.std.proofs.lemmas.List.Sums.{length-filter}
use Rattle.std.proofs.lemmas.Option.{slice_get_within}
use Rattle.std.specs.Cmp.{first_so, second_so}
use Rattle.nemo_transform.specs.declared.transform.Transform.{Transform}
use Rattle.nemo_ir.specs.Along.{below, passes}
use Rattle.nemo_ir.specs.Flat.{FlatForm}
use Rattle.nemo_ir.specs.Nodes.{Node, edge_at, node_of, nodes, nodes_from}
use Rattle.nemo_ir.specs.Valid.{Valid, is_fed, kinds_at, ports_named, rises}
use Rattle.nemo_ir.specs.declared.dag.IrDag.{IrDag}
use Rattle.nemo_ir.specs.declared.dag.IrEdge.{IrEdge}
use Rattle.nemo_ir.specs.declared.dag.IrVertex.{IrVertex}
use Rattle.nemo_ir.proofs.Lines.{nodes_get}
use Rattle.nemo_ir.proofs.Places.{below_get, from_none, list_all-at, next, none, same_item}

-- what passes a test that the item at a place passes
pub passed : {X : Type 0} (test : X → Bool) (o : Option X) (x : X) → o ≡ Some x → passes test o ≡ true → test x ≡ true
passed test o x e h = ap (passes test) (sym e) ∙ h

---- nodes

-- a node with the vertex of which it is made
pub record NodeAt (ts : List Transform) (es : List IrEdge) (us : List IrVertex) (v number : ℕ) (node : Node) : Type 0 where
  pub vertex : IrVertex
  pub there : slice_get us v ≡ Some vertex
  pub is : node ≡ node_of ts es number vertex

node_from : (ts : List Transform) (es : List IrEdge) (k : ℕ) (us : List IrVertex) (i : ℕ) (node : Node) → slice_get (nodes_from ts es k us) i ≡ Some node → NodeAt ts es us i (k + i) node
node_from ts es k [] i node h = cc
node_from ts es k (u ∷ us) zero node h =
    record { vertex = u; there = refl; is = same_item node (node_of ts es k u) (sym h) ∙ ap (λ n. node_of ts es n u) (none k) }
node_from ts es k (u ∷ us) (suc i) node h =
    let r = node_from ts es (k + 1) us i node h in
    record { vertex = r.vertex; there = r.there; is = r.is ∙ ap (λ n. node_of ts es n r.vertex) (next k i) }

pub node_at : (ts : List Transform) (dag : IrDag) (v : ℕ) (node : Node) → slice_get (nodes ts dag) v ≡ Some node → NodeAt ts dag.edges dag.vertices v v node
node_at ts dag v node h = subst (λ n. NodeAt ts dag.edges dag.vertices v n node) (from_none v) (node_from ts dag.edges 0 dag.vertices v node h)

pub node_there : (ts : List Transform) (dag : IrDag) (v : ℕ) (u : IrVertex) → slice_get dag.vertices v ≡ Some u → slice_get (nodes ts dag) v ≡ Some (node_of ts dag.edges v u)
node_there ts dag v u at_v = nodes_get ts dag.edges 0 dag.vertices v u at_v ∙ ap (λ n. Some (node_of ts dag.edges n u)) (from_none v)

pub nodes_length : (ts : List Transform) (es : List IrEdge) (k : ℕ) (us : List IrVertex) → length (nodes_from ts es k us) ≡ length us
nodes_length ts es k [] = refl
nodes_length ts es k (u ∷ us) = ap suc (nodes_length ts es (k + 1) us)

---- edges

pub record IsRise (dag : IrDag) (e : IrEdge) : Type 0 where
  pub low : e.from < e.to
  pub inside : e.to < length dag.vertices

pub edge_rises : (flat : FlatForm) (dag : IrDag) → Valid flat dag → (i : ℕ) (e : IrEdge) → slice_get dag.edges i ≡ Some e → IsRise dag e
edge_rises flat dag valid i e there =
    let both = passed (rises dag) (slice_get dag.edges i) e there (valid.v1 i (slice_get_within dag.edges i e there)) in
    record { low = ltb-true e.from e.to (first_so _ _ both); inside = ltb-true e.to (length dag.vertices) (second_so _ _ both) }

-- the first in-edge of a port, and where it stands
pub record PortEdge (es : List IrEdge) (v p : ℕ) : Type 0 where
  pub edge : IrEdge
  pub first : edge_at es v p ≡ Some edge
  pub place : ℕ
  pub there : slice_get es place ≡ Some edge
  pub to : edge.to ≡ v
  pub port : edge.port ≡ p

later : (es : List IrEdge) (v p : ℕ) (d : IrEdge) → (d.to == v && d.port == p) ≡ false → PortEdge es v p → PortEdge (d ∷ es) v p
later es v p d n r = record {
  edge = r.edge;
  first = ap (λ c. cond c (Some d) (edge_at es v p)) n ∙ r.first;
  place = suc r.place;
  there = r.there;
  to = r.to;
  port = r.port;
}

found_turn : (es : List IrEdge) (v p : ℕ) (d e : IrEdge) (a b : Bool) → (d.to == v) ≡ a → (d.port == p) ≡ b → cond (a && b) (Some d) (edge_at es v p) ≡ Some e
    → (edge_at es v p ≡ Some e → PortEdge es v p) → PortEdge (d ∷ es) v p
found_turn es v p d e true true s t h more = record {
  edge = d;
  first = ap (λ c. cond c (Some d) (edge_at es v p)) (λ i. s i && t i);
  place = 0;
  there = refl;
  to = eqb-true d.to v s;
  port = eqb-true d.port p t;
}
found_turn es v p d e true false s t h more = later es v p d (λ i. s i && t i) (more h)
found_turn es v p d e false b s t h more = later es v p d (λ i. s i && t i) (more h)

found : (es : List IrEdge) (v p : ℕ) (e : IrEdge) → edge_at es v p ≡ Some e → PortEdge es v p
found [] v p e h = cc
found (d ∷ es) v p e h = found_turn es v p d e (d.to == v) (d.port == p) refl refl h (found es v p e)

unnamed_turn : (es : List IrEdge) (v p : ℕ) (e : IrEdge) (a b : Bool) → (e.port == p) ≡ b → cond (a && b) (Some e) (edge_at es v p) ≡ None
    → (edge_at es v p ≡ None → filter (λ q. q == p) (ports_named es v) ≡ [])
    → filter (λ q. q == p) (map (λ d. d.port) (cond a (e ∷ filter (λ d. d.to == v) es) (filter (λ d. d.to == v) es))) ≡ []
unnamed_turn es v p e true true t h more = absurd (cc h)
unnamed_turn es v p e true false t h more = ap (λ c. cond c (e.port ∷ filter (λ q. q == p) (ports_named es v)) (filter (λ q. q == p) (ports_named es v))) t ∙ more h
unnamed_turn es v p e false b t h more = more h

-- a port with no in-edge is named by none
unnamed : (es : List IrEdge) (v p : ℕ) → edge_at es v p ≡ None → filter (λ q. q == p) (ports_named es v) ≡ []
unnamed [] v p h = refl
unnamed (e ∷ es) v p h = unnamed_turn es v p e (e.to == v) (e.port == p) refl h (unnamed es v p)

-- each port of a vertex has an in-edge
pub port_edge : (flat : FlatForm) (dag : IrDag) → Valid flat dag → (v : ℕ) (u : IrVertex) (p : ℕ) → slice_get dag.vertices v ≡ Some u → p < length (kinds_at flat u) → PortEdge dag.edges v p
port_edge flat dag valid v u p at_v within = go (edge_at dag.edges v p) refl
  where
    named : ℕ → ℕ
    named r = count_by (λ q. q == r) (ports_named dag.edges v)

    fed : is_fed flat dag v u ≡ true
    fed = passed (is_fed flat dag v) (slice_get dag.vertices v) u at_v (valid.v3 v (slice_get_within dag.vertices v u at_v))

    once : named p ≡ 1
    once =
        let ports = below (length (kinds_at flat u)) in
        eqb-true (named p) 1 (list_all-at (λ r. named r == 1) ports p p (below_get (length (kinds_at flat u)) p within) (first_so _ _ fed))

    go : (o : Option IrEdge) → edge_at dag.edges v p ≡ o → PortEdge dag.edges v p
    go (Some e) h = found dag.edges v p e h
    go None h =
        let same : filter (λ q. q == p) (ports_named dag.edges v) ≡ [] = unnamed dag.edges v p h in
        let count : length (filter (λ q. q == p) (ports_named dag.edges v)) ≡ named p = length-filter (λ q. q == p) (ports_named dag.edges v) in
        absurd (cc (same, count, once))
