-- The nodes of a valid DAG are wired.
use Rattle.std.proofs.Common.{arith, ◌≡◌, ◌∙◌, ap, sym, subst, ℕ, suc, ◌+◌, ◌<◌, ◌==◌, ◌||◌, true, not, List, [], ◌∷◌, length, slice_get, Some}
use Rattle.std.proofs.lemmas.Bool.{eqb-true, leb-true}
use Rattle.std.proofs.lemmas.Option.{slice_get_within}
use Rattle.std.specs.Cmp.{first_so, second_so}
use Rattle.nemo_transform.specs.declared.shape.PortKind.{PortKind}
use Rattle.nemo_ir.specs.Along.{passes}
use Rattle.nemo_ir.specs.Flat.{FlatForm}
use Rattle.nemo_ir.specs.Nodes.{Node, edge_at, feed_of, feeds_from, node_of, nodes}
use Rattle.nemo_ir.specs.Valid.{Valid, is_level, is_one_to_one, is_taken, is_within, kinds_at, takes}
use Rattle.nemo_ir.specs.declared.dag.IrDag.{IrDag}
use Rattle.nemo_ir.specs.declared.dag.IrEdge.{IrEdge}
use Rattle.nemo_ir.specs.declared.dag.IrVertex.{IrVertex}
use Rattle.nemo_ir.proofs.Places.{from_none, got, next, none}
use Rattle.nemo_ir.proofs.PortEdges.{edge_rises, node_at, node_there, passed, port_edge}
use Rattle.nemo_ir.proofs.WiredNodes.{AllServe, IsWired, Serves}

-- where the first in-edge of each port serves it, all are served
all_served : (ns : List Node) (es : List IrEdge) (v : ℕ) (node : Node) (p : ℕ) (ks : List PortKind)
    → ((q : ℕ) (k : PortKind) → slice_get ks q ≡ Some k → Serves ns v node k (feed_of (edge_at es v (p + q)))) → AllServe ns v node ks (feeds_from es v p ks)
all_served ns es v node p [] f = tt
all_served ns es v node p (k ∷ ks) f = (
  subst (λ n. Serves ns v node k (feed_of (edge_at es v n))) (sym (none p)) (f 0 k (λ i. Some k)),
  all_served ns es v node (p + 1) ks (λ q j e. subst (λ n. Serves ns v node j (feed_of (edge_at es v n))) (sym (next p q)) (f (suc q) j e)),
)

module _ (flat : FlatForm) (dag : IrDag) (valid : Valid flat dag) where
  abbrev all : List Node
  all = nodes flat.transforms dag

  abbrev made : ℕ → IrVertex → Node
  made v u = node_of flat.transforms dag.edges v u

  edge_taken : (i : ℕ) (e : IrEdge) (u : IrVertex) (k : PortKind) → slice_get dag.edges i ≡ Some e → slice_get dag.vertices e.to ≡ Some u → slice_get (kinds_at flat u) e.port ≡ Some k
      → takes k e.pattern ≡ true
  edge_taken i e u k there to port =
      passed (λ j. takes j e.pattern) (slice_get (kinds_at flat u) e.port) k port
      (passed (λ w. passes (λ j. takes j e.pattern) (slice_get (kinds_at flat w) e.port)) (slice_get dag.vertices e.to) u to
      (passed (is_taken flat dag) (slice_get dag.edges i) e there (valid.v6 i (slice_get_within dag.edges i e there))))

  edge_level : (i : ℕ) (e : IrEdge) (u w : IrVertex) → slice_get dag.edges i ≡ Some e → slice_get dag.vertices e.to ≡ Some u → slice_get dag.vertices e.from ≡ Some w
      → is_one_to_one e.pattern ≡ true → w.parallelism ≡ u.parallelism
  edge_level i e u w there to from one =
      let level = passed (is_level dag) (slice_get dag.edges i) e there (valid.v7 i (slice_get_within dag.edges i e there)) in
      eqb-true w.parallelism u.parallelism
      (passed (λ x. w.parallelism == x.parallelism) (slice_get dag.vertices e.to) u to
      (passed (λ y. passes (λ x. y.parallelism == x.parallelism) (slice_get dag.vertices e.to)) (slice_get dag.vertices e.from) w from
      (ap (λ b. not b || passes (λ y. passes (λ x. y.parallelism == x.parallelism) (slice_get dag.vertices e.to)) (slice_get dag.vertices e.from)) (sym one) ∙ level)))

  -- the first in-edge of a port serves it
  served : (v : ℕ) (u : IrVertex) (p : ℕ) (k : PortKind) → slice_get dag.vertices v ≡ Some u → slice_get (kinds_at flat u) p ≡ Some k → Serves all v (made v u) k (feed_of (edge_at dag.edges v p))
  served v u p k at_v at_p =
      let found = port_edge flat dag valid v u p at_v (slice_get_within (kinds_at flat u) p k at_p) in
      let e = found.edge in
      let rise = edge_rises flat dag valid found.place e found.there in
      let low : e.from < e.to = rise.low in
      let inside : e.to < length dag.vertices = rise.inside in
      let to : e.to ≡ v = found.to in
      let from = got dag.vertices e.from (omega arith) in
      let at_to : slice_get dag.vertices e.to ≡ Some u = ap (slice_get dag.vertices) to ∙ at_v in
      subst (λ o. Serves all v (made v u) k (feed_of o)) (sym found.first) record {
        low = omega arith;
        taken = edge_taken found.place e u k found.there at_to (ap (slice_get (kinds_at flat u)) found.port ∙ at_p);
        from = made e.from from.0;
        there = node_there flat.transforms dag e.from from.0 from.1;
        level = edge_level found.place e u from.0 found.there at_to from.1;
      }

  wired : (v : ℕ) (u : IrVertex) → slice_get dag.vertices v ≡ Some u → IsWired all v (made v u)
  wired v u at_v =
      let within = passed (is_within v) (slice_get dag.vertices v) u at_v (valid.v9 v (slice_get_within dag.vertices v u at_v)) in
      record {
        serves = all_served all dag.edges v (made v u) 0 (kinds_at flat u)
            (λ p k e. subst (λ n. Serves all v (made v u) k (feed_of (edge_at dag.edges v n))) (sym (from_none p)) (served v u p k at_v e));
        some = leb-true 1 u.parallelism (second_so _ _ (first_so _ _ within));
      }

pub valid_wired : (flat : FlatForm) (dag : IrDag) → Valid flat dag → (v : ℕ) (node : Node) → slice_get (nodes flat.transforms dag) v ≡ Some node → IsWired (nodes flat.transforms dag) v node
valid_wired flat dag valid v node h =
    let r = node_at flat.transforms dag v node h in
    subst (IsWired (nodes flat.transforms dag) v) (sym r.is) (wired flat dag valid v r.vertex r.there)
