-- Each vertex of a valid DAG is a sink or has an out-edge.
use Rattle.std.proofs.Common.{arith, ◌≡◌, ◌∙◌, ap, sym, subst, ℕ, zero, suc, ◌<◌, ◌==◌, ◌||◌, Bool, true, false, not, length, slice_get, Some, inl, inr}
use Rattle.std.specs.Prelude.{◌⊎◌}
use Rattle.std.proofs.lemmas.Bool.{cases_Bool, eqb-true, or_cases}
use Rattle.std.proofs.lemmas.Option.{get_or_from_slice_get, slice_get_within}
use Rattle.std.specs.List.{list_any}
use Rattle.nemo_value.specs.Members.{In}
use Rattle.nemo_value.proofs.MemberLists.{in_map, map_in}
use Rattle.nemo_ir.specs.Flat.{FlatForm, IsFlat, feeds_one, is_sink, transform_of}
use Rattle.nemo_ir.specs.Nodes.{Feed, Node, deed_of, edge_at, feed_of, is_utility, kinds_in, rep_of, resolve, transform_in}
use Rattle.nemo_ir.specs.Valid.{Valid, is_rep, is_used, kinds_at}
use Rattle.nemo_ir.specs.declared.dag.IrDag.{IrDag}
use Rattle.nemo_ir.specs.declared.dag.IrEdge.{IrEdge}
use Rattle.nemo_ir.specs.declared.dag.IrVertex.{IrVertex}
use Rattle.nemo_ir.specs.declared.dag.VertexKind.{VertexKind}
use Rattle.nemo_ir.specs.declared.dag.VertexKind.TheVariants.{Op, Relay, Trigger}
use Rattle.nemo_ir.specs.declared.flat.FlatVertex.{FlatVertex}
use Rattle.nemo_plan.specs.Graph.{is_sink_vertex}
use Rattle.nemo_ir.proofs.Places.{all_at-at, from_none, got, same_item}
use Rattle.nemo_ir.proofs.PortEdges.{edge_rises, node_at, passed, port_edge}
use Rattle.nemo_ir.proofs.Reps.{represented}
use Rattle.nemo_ir.proofs.Steps.{resolve_op, resolve_utility}
use Rattle.nemo_plan.proofs.Lists.{list_any-some}
use Rattle.nemo_plan.proofs.Memberships.{at_in}
use Rattle.nemo_plan.proofs.OnePort.{feed_edge}
use Rattle.nemo_plan.proofs.Standing.{rep_few}

-- an out-edge of a vertex
pub record HasOut (dag : IrDag) (v : ℕ) : Type 0 where
  pub edge : IrEdge
  pub place : ℕ
  pub there : slice_get dag.edges place ≡ Some edge
  pub from : edge.from ≡ v

one_port : (flat : FlatForm) (u : IrVertex) → is_utility u.kind ≡ true → 0 < length (kinds_at flat u)
one_port flat u h = go u.kind h
  where
    go : (k : VertexKind) → is_utility k ≡ true → 0 < length (kinds_in (deed_of flat.transforms k))
    go (Op n) e = cc
    go Relay e = omega arith
    go Trigger e = omega arith

or_so : (a b : Bool) → (a || b) ≡ true → a ≡ false → b ≡ true
or_so true b h e = cc
or_so false b h e = h

module _ (flat : FlatForm) (dag : IrDag) (fine : IsFlat flat) (valid : Valid flat dag) where
  -- the Op behind a vertex is the vertex, or something leads from it
  behind : (n z v : ℕ) → z < n → z < length dag.vertices → resolve dag z ≡ v → (z ≡ v) ⊎ HasOut dag v
  behind zero z v l within r = absurd (omega arith)
  behind (suc n) z v l within r =
      let u = got dag.vertices z within in
      elim (cases_Bool (is_utility u.0.kind)) [
        | inl utility ↦
            let found = port_edge flat dag valid z u.0 0 u.1 (one_port flat u.0 utility) in
            let e = found.edge in
            let rise : e.from < e.to = (edge_rises flat dag valid found.place e found.there).low in
            let to : e.to ≡ z = found.to in
            let first : (feed_of (edge_at dag.edges z 0)).from ≡ e.from = ap (λ o. (feed_of o).from) found.first in
            let low : (feed_of (edge_at dag.edges z 0)).from < z = omega arith in
            let same : resolve dag e.from ≡ v = ap (resolve dag) (sym first) ∙ sym (resolve_utility dag z u.0 u.1 utility low) ∙ r in
            elim (behind n e.from v (omega arith) (omega arith) same) [ inl here ↦ inr (record { edge = e; place = found.place; there = found.there; from = here }) | inr out ↦ inr out ]
        | inr op ↦ inl (sym (resolve_op dag z u.0 u.1 op) ∙ r)
      ]

  -- from what stands for an input something leads
  input_leads : (x j : ℕ) (y : FlatVertex) → slice_get flat.vertices j ≡ Some y → In x y.inputs → HasOut dag (rep_of dag x)
  input_leads x j y at_j m =
      let r = represented flat fine dag valid j y at_j in
      let f = map_in (λ (g : Feed). resolve dag g.from) (rep_of dag x) r.node.feeds (subst (In (rep_of dag x)) (sym r.inputs) (in_map (rep_of dag) x y.inputs m)) in
      let e = feed_edge flat dag valid (rep_of dag j) r.node f.0 r.there f.1 in
      let from : f.0.from ≡ e.edge.from = ap (λ (g : Feed). g.from) e.is in
      let rise = edge_rises flat dag valid e.place e.edge e.there in
      let low : e.edge.from < e.edge.to = rise.low in
      let inside : e.edge.to < length dag.vertices = rise.inside in
      elim (behind (suc e.edge.from) e.edge.from (rep_of dag x) (omega arith) (omega arith) (ap (resolve dag) (sym from) ∙ sym f.2)) [
        | inl here ↦ record { edge = e.edge; place = e.place; there = e.there; from = here }
        | inr out ↦ out
      ]

  sink_for : (x : ℕ) (y : FlatVertex) (u : IrVertex) → slice_get flat.vertices x ≡ Some y → slice_get dag.vertices (rep_of dag x) ≡ Some u → is_sink (transform_of flat y) ≡ true → is_sink_vertex flat u ≡ true
  sink_for x y u at_x at_v h =
      let r = represented flat fine dag valid x y at_x in
      let n = node_at flat.transforms dag (rep_of dag x) r.node r.there in
      let same : n.vertex ≡ u = same_item n.vertex u (sym n.there ∙ at_v) in
      let deed = sym (ap (λ (w : IrVertex). deed_of flat.transforms w.kind) same) ∙ sym (ap (λ (z : Node). z.deed) n.is) ∙ r.deed in
      ap (λ d. is_sink (transform_in d)) deed ∙ sym (ap is_sink r.is) ∙ h

  op_ends : (v x : ℕ) (u : IrVertex) → slice_get dag.vertices v ≡ Some u → x < length flat.vertices → rep_of dag x ≡ v → (is_sink_vertex flat u ≡ true) ⊎ HasOut dag v
  op_ends v x u at_v l is =
      let y = got flat.vertices x l in
      let ends = ap (λ n. is_sink (transform_of flat y.0) || feeds_one flat n) (sym (from_none x)) ∙ all_at-at (λ n z. is_sink (transform_of flat z) || feeds_one flat n) 0 flat.vertices x y.0 y.1 fine.ends in
      elim (or_cases (is_sink (transform_of flat y.0)) (feeds_one flat x) ends) [
        | inl sink ↦ inl (sink_for x y.0 u y.1 (ap (slice_get dag.vertices) is ∙ at_v) sink)
        | inr feeds ↦
            let taker = list_any-some (λ z. list_any (λ input. input == x) z.inputs) flat.vertices feeds in
            let input = list_any-some (λ k. k == x) taker.item.inputs taker.passes in
            inr (subst (HasOut dag) is (input_leads x taker.place taker.item taker.is (subst (λ k. In k taker.item.inputs) (eqb-true input.item x input.passes) (at_in taker.item.inputs input.place input.item input.is))))
      ]

  pub ends_or_leads : (v : ℕ) (u : IrVertex) → slice_get dag.vertices v ≡ Some u → (is_sink_vertex flat u ≡ true) ⊎ HasOut dag v
  ends_or_leads v u at_v = elim (cases_Bool (is_utility u.kind)) [
    | inl utility ↦
        let used = passed (is_used dag v) (slice_get dag.vertices v) u at_v (valid.v2 v (slice_get_within dag.vertices v u at_v)) in
        let out = list_any-some (λ e. e.from == v) dag.edges (or_so (not (is_utility u.kind)) (list_any (λ e. e.from == v) dag.edges) used (ap not utility)) in
        inr (record { edge = out.item; place = out.place; there = out.is; from = eqb-true out.item.from v out.passes })
    | inr op ↦
        let any = passed (is_rep dag v) (slice_get dag.vertices v) u at_v (valid.v5 v (slice_get_within dag.vertices v u at_v)) in
        let rep = list_any-some (λ r. r == v) dag.rep (or_so (is_utility u.kind) (list_any (λ r. r == v) dag.rep) any op) in
        op_ends v rep.place u at_v (rep_few flat dag valid rep.place rep.item rep.is) (get_or_from_slice_get dag.rep rep.place rep.item 0 rep.is ∙ eqb-true rep.item v rep.passes)
  ]
