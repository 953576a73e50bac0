-- Cut locality.
use Rattle.std.proofs.Common.{arith, ◌≡◌, ◌∙◌, ap, sym, subst, ℕ, zero, suc, ◌+◌, ◌<◌, ◌≤◌, List, [], ◌∷◌, length, map, take, get_or, slice_get, Some, inl, inr}
use Rattle.std.proofs.lemmas.Bool.{cases_lt}
use Rattle.std.proofs.lemmas.List.{get_or-take}
use Rattle.std.proofs.lemmas.Option.{slice_get_within}
use Rattle.nemo_transform.specs.declared.shape.PortKind.{PortKind}
use Rattle.nemo_ir.specs.Flat.{FlatForm}
use Rattle.nemo_ir.specs.Nodes.{Feed, Node, edge_at, feed_of, feeds_from, node_of, nodes, origin}
use Rattle.nemo_ir.specs.Part.{Parts, all_parts, brought, done_by, no_parts, part_step}
use Rattle.nemo_ir.specs.Rewrites.{IsLocal, Leads, here, on}
use Rattle.nemo_ir.specs.Valid.{Valid, kinds_at}
use Rattle.nemo_ir.specs.declared.dag.IrDag.{IrDag}
use Rattle.nemo_ir.specs.declared.dag.IrEdge.{IrEdge}
use Rattle.nemo_ir.specs.declared.dag.IrVertex.{IrVertex}
use Rattle.nemo_ir.proofs.Entries.{along_at, along_length, along_before}
use Rattle.nemo_ir.proofs.Places.{from_none, got, next, none}
use Rattle.nemo_ir.proofs.PortEdges.{edge_rises, node_there, nodes_length, port_edge}

-- what agrees on the first in-edge of each port agrees on all feeds
feeds_agree : {A : Type 0} (f g : Feed → A) (es : List IrEdge) (v p : ℕ) (ks : List PortKind)
    → ((q : ℕ) (k : PortKind) → slice_get ks q ≡ Some k → f (feed_of (edge_at es v (p + q))) ≡ g (feed_of (edge_at es v (p + q)))) → map f (feeds_from es v p ks) ≡ map g (feeds_from es v p ks)
feeds_agree f g es v p [] same = λ i. []
feeds_agree f g es v p (k ∷ ks) same =
    let first = subst (λ n. f (feed_of (edge_at es v n)) ≡ g (feed_of (edge_at es v n))) (sym (none p)) (same 0 k (λ i. Some k)) in
    let rest = feeds_agree f g es v (p + 1) ks (λ q j e. subst (λ n. f (feed_of (edge_at es v n)) ≡ g (feed_of (edge_at es v n))) (sym (next p q)) (same (suc q) j e)) in
    λ i. first i ∷ rest i

parts_past : (all : List Parts) (v : ℕ) → length all ≤ v → get_or all v no_parts ≡ no_parts
parts_past [] v h = λ i. no_parts
parts_past (p ∷ ps) zero h = absurd (omega arith)
parts_past (p ∷ ps) (suc v) h = parts_past ps v (omega arith)

brought_agree : (n i : ℕ) (c d : List ℕ) → c ≡ d → (done before : List Parts) (fs : List Feed)
    → map (λ f. get_or done f.from no_parts) fs ≡ map (λ f. get_or before f.from no_parts) fs
    → map (λ f. brought c n (get_or done f.from no_parts) f.pattern i) fs ≡ map (λ f. brought d n (get_or before f.from no_parts) f.pattern i) fs
brought_agree n i c d same done before [] parts = λ j. []
brought_agree n i c d same done before (f ∷ fs) parts =
    let first : get_or done f.from no_parts ≡ get_or before f.from no_parts = cc in
    let rest : map (λ g. get_or done g.from no_parts) fs ≡ map (λ g. get_or before g.from no_parts) fs = cc in
    λ j. brought (same j) n (first j) f.pattern i ∷ brought_agree n i c d same done before fs rest j

-- what a step makes at a place, under cuts that agree there, of parts that agree at each feed
step_agrees : (names : ℕ → ℕ) (cuts other : ℕ → List ℕ) (v : ℕ) (node : Node) (done before : List Parts) → length done ≡ v → length before ≡ v → cuts v ≡ other v
    → map (λ f. get_or done f.from no_parts) node.feeds ≡ map (λ f. get_or before f.from no_parts) node.feeds
    → part_step names cuts done node ≡ part_step names other before node
step_agrees names cuts other v node done before l m same parts =
    let place = l ∙ sym m in
    let at = ap cuts l ∙ same ∙ ap other (sym m) in
    λ j. record {
      parallelism = node.parallelism;
      task = λ i. done_by (names (place j)) node.parallelism i node.deed (ports i j);
    }
  where
    ports : (i : ℕ) → map (λ f. brought (cuts (length done)) node.parallelism (get_or done f.from no_parts) f.pattern i) node.feeds
        ≡ map (λ f. brought (other (length before)) node.parallelism (get_or before f.from no_parts) f.pattern i) node.feeds
    ports i = brought_agree node.parallelism i (cuts (length done)) (other (length before)) (ap cuts l ∙ same ∙ ap other (sym m)) done before node.feeds parts

module _ (flat : FlatForm) (dag : IrDag) (valid : Valid flat dag) (cuts other : ℕ → List ℕ) where
  abbrev ns : List Node
  ns = nodes flat.transforms dag

  abbrev parts_at : (ℕ → List ℕ) → ℕ → Parts
  parts_at own v = get_or (all_parts flat dag own) v no_parts

  abbrev before : (ℕ → List ℕ) → ℕ → List Parts
  before own v = take v (all_parts flat dag own)

  abbrev Agree : ℕ → Type 0
  Agree v = ((u : ℕ) → Leads dag u v → cuts u ≡ other u) → parts_at cuts v ≡ parts_at other v

  -- the producers of a vertex have parts that agree
  feed_agrees : (v : ℕ) (u : IrVertex) (p : ℕ) → slice_get dag.vertices v ≡ Some u → p < length (kinds_at flat u) → ((w : ℕ) → w < v → Agree w) → ((w : ℕ) → Leads dag w v → cuts w ≡ other w)
      → get_or (before cuts v) (feed_of (edge_at dag.edges v p)).from no_parts ≡ get_or (before other v) (feed_of (edge_at dag.edges v p)).from no_parts
  feed_agrees v u p at_v within below same =
      let found = port_edge flat dag valid v u p at_v within in
      let e = found.edge in
      let rise : e.from < e.to = (edge_rises flat dag valid found.place e found.there).low in
      let to : e.to ≡ v = found.to in
      let low : e.from < v = omega arith in
      let agree = below e.from low (λ w leads. same w (on w v found.place e found.there to leads)) in
      subst (λ o. get_or (before cuts v) (feed_of o).from no_parts ≡ get_or (before other v) (feed_of o).from no_parts) (sym found.first)
      (get_or-take v (all_parts flat dag cuts) e.from no_parts low ∙ agree ∙ sym (get_or-take v (all_parts flat dag other) e.from no_parts low))

  vertex_agrees : (v : ℕ) (u : IrVertex) → slice_get dag.vertices v ≡ Some u → ((w : ℕ) → w < v → Agree w) → Agree v
  vertex_agrees v u at_v below same =
      let node = node_of flat.transforms dag.edges v u in
      let there = node_there flat.transforms dag v u at_v in
      let own = part_step (origin dag) cuts in
      let others = part_step (origin dag) other in
      let feeds = feeds_agree (λ f. get_or (before cuts v) f.from no_parts) (λ f. get_or (before other v) f.from no_parts) dag.edges v 0 (kinds_at flat u)
      (λ p k e. subst (λ n. get_or (before cuts v) (feed_of (edge_at dag.edges v n)).from no_parts ≡ get_or (before other v) (feed_of (edge_at dag.edges v n)).from no_parts)
      (sym (from_none p)) (feed_agrees v u p at_v (slice_get_within (kinds_at flat u) p k e) below same)) in
      along_at own ns v node no_parts there
      ∙ step_agrees (origin dag) cuts other v node (before cuts v) (before other v) (along_before own ns v node there) (along_before others ns v node there) (same v (here v)) feeds
      ∙ sym (along_at others ns v node no_parts there)

  counted : (own : ℕ → List ℕ) → length (all_parts flat dag own) ≡ length dag.vertices
  counted own = along_length (part_step (origin dag) own) ns ∙ nodes_length flat.transforms dag.edges 0 dag.vertices

  any_agrees : (v : ℕ) → ((w : ℕ) → w < v → Agree w) → Agree v
  any_agrees v below = elim (cases_lt v (length dag.vertices)) [
    | inl within ↦ let at = got dag.vertices v within in vertex_agrees v at.0 at.1 below
    | inr past ↦ λ same.
        let one : length (all_parts flat dag cuts) ≡ length dag.vertices = counted cuts in
        let two : length (all_parts flat dag other) ≡ length dag.vertices = counted other in
        parts_past (all_parts flat dag cuts) v (omega arith) ∙ sym (parts_past (all_parts flat dag other) v (omega arith))
  ]

  each_agrees : (n v : ℕ) → v < n → Agree v
  each_agrees zero v h = absurd (omega arith)
  each_agrees (suc n) v h = any_agrees v (λ w l. each_agrees n w (omega arith))

pub parts_local : (flat : FlatForm) (dag : IrDag) → Valid flat dag → IsLocal flat dag
parts_local flat dag valid cuts other v same i = ap (λ p. p.task i) (each_agrees flat dag valid cuts other (suc v) v (omega arith) same)
