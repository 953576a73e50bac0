-- The vertices of a uniform DAG of a line: vertex v stands for flat vertex v, and takes vertex v - 1 alone.
use Rattle.std.proofs.Common.{Option, arith, ◌≡◌, ◌∙◌, ap, sym, subst, refl, ℕ, zero, suc, ◌+◌, ◌<◌, ◌≤◌, ◌==◌, ◌||◌, ◌&&◌, List, [], ◌∷◌, length, map, filter, cond, slice_get, Bool, true, false, Some, None, nat_lt, inl, inr}
use Rattle.std.proofs.lemmas.Bool.{and_from, cases_lt, eqb-true}
use Rattle.std.proofs.lemmas.Option.{get_or_from_slice_get, slice_get_past, slice_get_within}
use Rattle.std.specs.Cmp.{first_so}
use Rattle.std.specs.List.{fold, list_all, list_any}
use Rattle.nemo_base.specs.declared.annotation.Pattern.TheVariants.{OneToOne}
use Rattle.nemo_transform.specs.Ports.{kinds_of}
use Rattle.nemo_transform.specs.declared.shape.PortKind.{PortKind}
use Rattle.nemo_transform.specs.declared.shape.PortKind.TheVariants.{Main, Keyed, Side}
use Rattle.nemo_transform.specs.declared.transform.Transform.{Transform}
use Rattle.nemo_ir.specs.Along.{passes}
use Rattle.nemo_ir.specs.Flat.{FlatForm, IsFlat, transform_of}
use Rattle.nemo_ir.specs.Line.{IsLine, one_before}
use Rattle.nemo_ir.specs.Nodes.{Does, deed_of, deed_or, edge_at, feed_of, feeds_from, is_utility, kinds_in, node_of, nodes, nodes_from, rep_of, resolve}
use Rattle.nemo_ir.specs.Uniform.{first_tasks, is_uniform}
use Rattle.nemo_ir.specs.Valid.{HasRep, StandsFor, Valid, is_fed, is_rep, is_taken, kinds_at, names_each, ports_named, takes}
use Rattle.nemo_ir.specs.declared.dag.IrDag.{IrDag}
use Rattle.nemo_ir.specs.declared.dag.IrEdge.{IrEdge}
use Rattle.nemo_ir.specs.declared.dag.IrVertex.{IrVertex}
use Rattle.nemo_ir.specs.declared.flat.FlatVertex.{FlatVertex}
use Rattle.nemo_ir.proofs.Places.{from_none, got}
use Rattle.nemo_plan.specs.LinePlan.{line_feeds}
use Rattle.nemo_plan.proofs.Lists.{list_any-some}
use Rattle.nemo_plan.proofs.Own.{Counts, Origin, own, same_count}
use Rattle.nemo_plan.proofs.Uniform.{IsTransientOp, plain_edge, resolve_own, uniform_op}
use Rattle.nemo_ir.proofs.Lines.{line_inputs, nodes_get, only_kind}
use Rattle.nemo_ir.proofs.FlatPlaces.{has_transform}

---- flat vertices

---- the edge into a port

pub record HasEdge (es : List IrEdge) (v : ℕ) : Type 0 where
  pub edge : IrEdge
  pub place : ℕ
  pub stands : slice_get es place ≡ Some edge
  pub is : edge_at es v 0 ≡ Some edge
  pub to : edge.to ≡ v
  pub port : edge.port ≡ 0

abbrev tally : ℕ → List ℕ → ℕ
tally n ports = fold (λ a q. a + cond (q == 0) 1 0) n ports

-- where port 0 is named, an edge leads into it
named_edge : (es : List IrEdge) (v : ℕ) → tally 0 (ports_named es v) ≡ 1 → HasEdge es v
named_edge [] v h = cc
named_edge (e ∷ es) v h = go (e.to == v) (e.port == 0) refl refl h (named_edge es v)
  where
    rest : ((e.to == v) && (e.port == 0)) ≡ false → HasEdge es v → HasEdge (e ∷ es) v
    rest miss r = record { edge = r.edge; place = suc r.place; stands = r.stands; is = ap (λ b. cond b (Some e) (edge_at es v 0)) miss ∙ r.is; to = r.to; port = r.port }

    go : (b c : Bool) → (e.to == v) ≡ b → (e.port == 0) ≡ c → tally 0 (map (λ d. d.port) (cond b (e ∷ filter (λ d. d.to == v) es) (filter (λ d. d.to == v) es))) ≡ 1
        → (tally 0 (ports_named es v) ≡ 1 → HasEdge es v) → HasEdge (e ∷ es) v
    go true true to port g more = record { edge = e; place = 0; stands = refl; is = ap (λ b. cond b (Some e) (edge_at es v 0)) (and_from (e.to == v) (e.port == 0) to port); to = eqb-true e.to v to; port = eqb-true e.port 0 port }
    go true false to port g more =
        rest (ap (λ b. b && (e.port == 0)) to ∙ port)
        (more (sym (ap (λ c. tally (0 + cond c 1 0) (ports_named es v)) port) ∙ g))
    go false c to port g more = rest (ap (λ b. b && (e.port == 0)) to) (more g)

---- what the clauses say of a flat vertex

nodes_past : (ts : List Transform) (es : List IrEdge) (k : ℕ) (us : List IrVertex) (i : ℕ) → slice_get us i ≡ None → slice_get (nodes_from ts es k us) i ≡ None
nodes_past ts es k [] i g = refl
nodes_past ts es k (w ∷ us) zero g = cc
nodes_past ts es k (w ∷ us) (suc i) g = nodes_past ts es (k + 1) us i g

-- the Op that stands for a flat vertex
record HasOp (flat : FlatForm) (dag : IrDag) (x : FlatVertex) (number : ℕ) : Type 0 where
  op : IrVertex
  op_at : slice_get dag.vertices number ≡ Some op
  deed : deed_of flat.transforms op.kind ≡ deed_or (transform_of flat x)
  feeds : map (λ f. resolve dag f.from) (node_of flat.transforms dag.edges number op).feeds ≡ map (rep_of dag) x.inputs

has_op : (flat : FlatForm) (dag : IrDag) (x : FlatVertex) (r : ℕ) → StandsFor flat dag x (slice_get (nodes flat.transforms dag) r) → HasOp flat dag x r
has_op flat dag x r h = go (slice_get dag.vertices r) refl
  where
    go : (o : Option IrVertex) → slice_get dag.vertices r ≡ o → HasOp flat dag x r
    go (Some u) e =
        let at_node : slice_get (nodes flat.transforms dag) r ≡ Some (node_of flat.transforms dag.edges r u) =
        nodes_get flat.transforms dag.edges 0 dag.vertices r u e ∙ ap (λ n. Some (node_of flat.transforms dag.edges n u)) (from_none r) in
        let stands : StandsFor flat dag x (Some (node_of flat.transforms dag.edges r u)) = subst (StandsFor flat dag x) at_node h in
        record { op = u; op_at = e; deed = stands.0; feeds = stands.1 }
    go None e = absurd (subst (StandsFor flat dag x) (nodes_past flat.transforms dag.edges 0 dag.vertices r e) h)

-- a flat vertex with its Op
record Stands (flat : FlatForm) (dag : IrDag) (i : ℕ) : Type 0 where
  copy : FlatVertex
  copy_at : slice_get flat.vertices i ≡ Some copy
  inputs : copy.inputs ≡ one_before i
  transform : Transform
  is : transform_of flat copy ≡ Some transform
  ports : length (kinds_of transform) ≡ length (one_before i)
  number : ℕ
  rep_at : slice_get dag.rep i ≡ Some number
  rep : rep_of dag i ≡ number
  op : IrVertex
  op_at : slice_get dag.vertices number ≡ Some op
  deed : deed_of flat.transforms op.kind ≡ Does transform
  feeds : map (λ f. resolve dag f.from) (feeds_from dag.edges number 0 (kinds_of transform)) ≡ map (rep_of dag) (one_before i)

stands_at : (flat : FlatForm) (dag : IrDag) → IsFlat flat → IsLine flat → Valid flat dag → (i : ℕ) → i < length flat.vertices → Stands flat dag i
stands_at flat dag f line v i h =
    let x = got flat.vertices i h in
    go x.0 x.1 (slice_get dag.rep i) refl (subst (λ o. HasRep flat dag o (slice_get dag.rep i)) x.1 (v.v4 i (omega arith)))
  where
    go : (x : FlatVertex) → slice_get flat.vertices i ≡ Some x → (r : Option ℕ) → slice_get dag.rep i ≡ r → HasRep flat dag (Some x) r → Stands flat dag i
    go x e None g s = absurd s
    go x e (Some r) g s =
        let t = has_transform flat f i x e in
        let inputs = line_inputs flat line i x e in
        let o = has_op flat dag x r s in
        let deed : deed_of flat.transforms o.op.kind ≡ Does t.transform = o.deed ∙ ap deed_or t.is in
        record {
          copy = x;
          copy_at = e;
          inputs = inputs;
          transform = t.transform;
          is = t.is;
          ports = t.ports ∙ ap length inputs;
          number = r;
          rep_at = g;
          rep = get_or_from_slice_get dag.rep i r 0 g;
          op = o.op;
          op_at = o.op_at;
          deed = deed;
          feeds = sym (ap (λ d. map (λ f. resolve dag f.from) (feeds_from dag.edges r 0 (kinds_in d))) deed) ∙ o.feeds ∙ ap (map (rep_of dag)) inputs;
        }

-- the edge into the port of an Op that has one
fed_by : (flat : FlatForm) (dag : IrDag) → Valid flat dag → (r : ℕ) (u : IrVertex) (t : Transform) → slice_get dag.vertices r ≡ Some u → deed_of flat.transforms u.kind ≡ Does t → length (kinds_of t) ≡ 1 → HasEdge dag.edges r
fed_by flat dag v r u t e deed one =
    let fed : is_fed flat dag r u ≡ true = sym (ap (passes (is_fed flat dag r)) e) ∙ v.v3 r (slice_get_within dag.vertices r u e) in
    let count : length (kinds_at flat u) ≡ 1 = ap (λ d. length (kinds_in d)) deed ∙ one in
    let named : names_each 1 (ports_named dag.edges r) ≡ true = sym (ap (λ n. names_each n (ports_named dag.edges r)) count) ∙ fed in
    let once = tally 0 (ports_named dag.edges r) == 1 in
    let others = list_all (λ q. nat_lt q 1) (ports_named dag.edges r) in
    named_edge dag.edges r (eqb-true (tally 0 (ports_named dag.edges r)) 1 (first_so once true (first_so (once && true) others named)))

no_kind : (ks : List PortKind) → length ks ≡ 0 → ks ≡ []
no_kind [] h = refl
no_kind (k ∷ ks) h = absurd (omega arith)

head_same : (m n : ℕ) → m ∷ [] ≡ n ∷ [] → m ≡ n
head_same m n e = cc

-- the edge into what stands for a flat vertex comes from what stands for the one before it
record Follows (flat : FlatForm) (dag : IrDag) (i number : ℕ) (t : Transform) : Type 0 where
  into : HasEdge dag.edges number
  comes : into.edge.from ≡ rep_of dag i
  feeds : feeds_from dag.edges number 0 (kinds_of t) ≡ record { from = into.edge.from; pattern = OneToOne } ∷ []
  main : kinds_of t ≡ Main ∷ []

-- a port that takes a OneToOne edge is Main
main_kind : (k : PortKind) → takes k OneToOne ≡ true → k ≡ Main
main_kind Main h = refl
main_kind Keyed h = cc
main_kind Side h = cc

-- the one port of an Op is Main where a OneToOne edge leads into it
main_port : (flat : FlatForm) (dag : IrDag) → Valid flat dag → (r : ℕ) (u : IrVertex) (t : Transform) → slice_get dag.vertices r ≡ Some u → deed_of flat.transforms u.kind ≡ Does t
    → (k : PortKind) → kinds_of t ≡ k ∷ [] → (into : HasEdge dag.edges r) → into.edge.pattern ≡ OneToOne → k ≡ Main
main_port flat dag v r u t e deed k only into plain =
    let edge = into.edge in
    let kinds : kinds_at flat u ≡ k ∷ [] = ap kinds_in deed ∙ only in
    let taken : passes (is_taken flat dag) (Some edge) ≡ true = sym (ap (passes (is_taken flat dag)) into.stands) ∙ v.v6 into.place (slice_get_within dag.edges into.place edge into.stands) in
    let test : IrVertex → Bool = λ w. passes (λ j. takes j edge.pattern) (slice_get (kinds_at flat w) edge.port) in
    let is : test u ≡ true = sym (ap (λ number. passes test (slice_get dag.vertices number)) into.to ∙ ap (passes test) e) ∙ taken in
    main_kind k
    (sym
    (ap (λ q. passes (λ j. takes j edge.pattern) (slice_get (kinds_at flat u) q)) into.port
    ∙ ap (λ ks. passes (λ j. takes j edge.pattern) (slice_get ks 0)) kinds
    ∙ ap (takes k) plain)
    ∙ is)

follows : (flat : FlatForm) (dag : IrDag) → Valid flat dag → is_uniform dag ≡ true → (i : ℕ) (s : Stands flat dag (suc i)) → Follows flat dag i s.number s.transform
follows flat dag v h i s =
    let into = fed_by flat dag v s.number s.op s.transform s.op_at s.deed s.ports in
    let plain = plain_edge flat dag v h into.place into.edge into.stands in
    let less : into.edge.from < into.edge.to = plain.rises in
    let within : into.edge.to < length dag.vertices = plain.within in
    let only = only_kind (kinds_of s.transform) s.ports in
    let is : feeds_from dag.edges s.number 0 (kinds_of s.transform) ≡ feed_of (Some into.edge) ∷ [] = ap (feeds_from dag.edges s.number 0) only.1 ∙ ap (λ o. feed_of o ∷ []) into.is in
    let fed : resolve dag into.edge.from ∷ [] ≡ rep_of dag i ∷ [] = sym (ap (map (λ f. resolve dag f.from)) is) ∙ s.feeds in
    record {
      into = into;
      comes = sym (resolve_own dag h into.edge.from (omega arith)) ∙ head_same (resolve dag into.edge.from) (rep_of dag i) fed;
      feeds = is ∙ ap (λ q. record { from = into.edge.from; pattern = q } ∷ []) plain.pattern;
      main = only.1 ∙ ap (λ k. k ∷ []) (main_port flat dag v s.number s.op s.transform s.op_at s.deed only.0 only.1 into plain.pattern);
    }

---- the numbers

rep_rises : (flat : FlatForm) (dag : IrDag) → IsFlat flat → IsLine flat → Valid flat dag → is_uniform dag ≡ true → (i : ℕ) → suc i < length flat.vertices → rep_of dag i < rep_of dag (suc i)
rep_rises flat dag f line v h i l =
    let s = stands_at flat dag f line v (suc i) l in
    let g = follows flat dag v h i s in
    let plain = plain_edge flat dag v h g.into.place g.into.edge g.into.stands in
    let less : g.into.edge.from < g.into.edge.to = plain.rises in
    let to : g.into.edge.to ≡ s.number = g.into.to in
    let comes : g.into.edge.from ≡ rep_of dag i = g.comes in
    let rep : rep_of dag (suc i) ≡ s.number = s.rep in
    omega arith

rep_within : (flat : FlatForm) (dag : IrDag) → IsFlat flat → IsLine flat → Valid flat dag → (i : ℕ) → i < length flat.vertices → rep_of dag i < length dag.vertices
rep_within flat dag f line v i l =
    let s = stands_at flat dag f line v i l in
    let within : s.number < length dag.vertices = slice_get_within dag.vertices s.number s.op s.op_at in
    let rep : rep_of dag i ≡ s.number = s.rep in
    omega arith

shorter : (rs : List ℕ) (n j s : ℕ) → n ≤ j → slice_get rs j ≡ Some s → (t : ℕ) × (slice_get rs n ≡ Some t)
shorter rs n j s l g = let within : j < length rs = slice_get_within rs j s g in got rs n (omega arith)

-- `rep` has no more entries than there are flat vertices
pub rep_few : (flat : FlatForm) (dag : IrDag) → Valid flat dag → (i r : ℕ) → slice_get dag.rep i ≡ Some r → i < length flat.vertices
rep_few flat dag v i r e = elim (cases_lt i (length flat.vertices)) [ inl l ↦ l | inr l ↦ absurd (past l) ]
  where
    past : length flat.vertices ≤ i → ⊥
    past l =
        let t = shorter dag.rep (length flat.vertices) i r l e in
        subst (HasRep flat dag None) t.1
        (subst (λ o. HasRep flat dag o (slice_get dag.rep (length flat.vertices))) (slice_get_past flat.vertices (length flat.vertices) (omega arith)) (v.v4 (length flat.vertices) (omega arith)))

rep_onto : (flat : FlatForm) (dag : IrDag) → Valid flat dag → is_uniform dag ≡ true → (n : ℕ) → n < length dag.vertices → Origin (rep_of dag) (length flat.vertices) n
rep_onto flat dag v h n l =
    let u = got dag.vertices n l in
    let op = uniform_op dag h n u.0 u.1 in
    let any : list_any (λ r. r == n) dag.rep ≡ true = sym (ap (λ k. is_utility k || list_any (λ r. r == n) dag.rep) op.kind) ∙ sym (ap (passes (is_rep dag n)) u.1) ∙ v.v5 n l in
    let p = list_any-some (λ r. r == n) dag.rep any in
    record { number = p.place; within = rep_few flat dag v p.place p.item p.is; is = get_or_from_slice_get dag.rep p.place p.item 0 p.is ∙ eqb-true p.item n p.passes }

counts : (flat : FlatForm) (dag : IrDag) → IsFlat flat → IsLine flat → Valid flat dag → is_uniform dag ≡ true → Counts (rep_of dag) (length flat.vertices) (length dag.vertices)
counts flat dag f line v h = record { rises = rep_rises flat dag f line v h; within = rep_within flat dag f line v; onto = rep_onto flat dag v h }

-- the DAG has as many vertices as the flat job
pub vertices_size : (flat : FlatForm) (dag : IrDag) → IsFlat flat → IsLine flat → Valid flat dag → is_uniform dag ≡ true → length flat.vertices ≡ length dag.vertices
vertices_size flat dag f line v h = same_count (rep_of dag) (length flat.vertices) (length dag.vertices) (counts flat dag f line v h)

---- vertex v stands for flat vertex v

-- the edge into vertex i + 1
pub record FromBefore (dag : IrDag) (i : ℕ) : Type 0 where
  pub into : HasEdge dag.edges (suc i)
  pub comes : into.edge.from ≡ i

pub record Standing (flat : FlatForm) (dag : IrDag) (v : ℕ) : Type 0 where
  pub copy : FlatVertex
  pub copy_at : slice_get flat.vertices v ≡ Some copy
  pub transform : Transform
  pub is : transform_of flat copy ≡ Some transform
  pub ports : length (kinds_of transform) ≡ length (one_before v)
  pub op : IrVertex
  pub op_at : slice_get dag.vertices v ≡ Some op
  pub uniform : IsTransientOp (first_tasks dag.vertices) op
  pub deed : deed_of flat.transforms op.kind ≡ Does transform
  pub feeds : feeds_from dag.edges v 0 (kinds_of transform) ≡ line_feeds v
  pub main : kinds_of transform ≡ map (λ i. Main) (one_before v)
  pub rep : rep_of dag v ≡ v

pub standing : (flat : FlatForm) (dag : IrDag) → IsFlat flat → IsLine flat → Valid flat dag → is_uniform dag ≡ true → (v : ℕ) → v < length flat.vertices → Standing flat dag v
standing flat dag f line valid h v l =
    let s = stands_at flat dag f line valid v l in
    let number : s.number ≡ v = sym s.rep ∙ rep_own v l in
    let op_at : slice_get dag.vertices v ≡ Some s.op = ap (slice_get dag.vertices) (sym number) ∙ s.op_at in
    record {
      copy = s.copy;
      copy_at = s.copy_at;
      transform = s.transform;
      is = s.is;
      ports = s.ports;
      op = s.op;
      op_at = op_at;
      uniform = uniform_op dag h v s.op op_at;
      deed = s.deed;
      feeds = ap (λ n. feeds_from dag.edges n 0 (kinds_of s.transform)) (sym number) ∙ fed v l s;
      main = mains v s;
      rep = rep_own v l;
    }
  where
    mains : (i : ℕ) (s : Stands flat dag i) → kinds_of s.transform ≡ map (λ j. Main) (one_before i)
    mains zero s = no_kind (kinds_of s.transform) s.ports
    mains (suc i) s = (follows flat dag valid h i s).main

    rep_own : (i : ℕ) → i < length flat.vertices → rep_of dag i ≡ i
    rep_own i m = own (rep_of dag) (length flat.vertices) (length dag.vertices) (counts flat dag f line valid h) i m

    fed : (i : ℕ) → i < length flat.vertices → (s : Stands flat dag i) → feeds_from dag.edges s.number 0 (kinds_of s.transform) ≡ line_feeds i
    fed zero m s = ap (feeds_from dag.edges s.number 0) (no_kind (kinds_of s.transform) s.ports)
    fed (suc i) m s = let g = follows flat dag valid h i s in g.feeds ∙ ap (λ n. record { from = n; pattern = OneToOne } ∷ []) (g.comes ∙ rep_own i (omega arith))

pub from_before : (flat : FlatForm) (dag : IrDag) → IsFlat flat → IsLine flat → Valid flat dag → is_uniform dag ≡ true → (i : ℕ) → suc i < length flat.vertices → FromBefore dag i
from_before flat dag f line valid h i l =
    let s = stands_at flat dag f line valid (suc i) l in
    let g = follows flat dag valid h i s in
    let c = counts flat dag f line valid h in
    let number : s.number ≡ suc i = sym s.rep ∙ own (rep_of dag) (length flat.vertices) (length dag.vertices) c (suc i) l in
    let comes : g.into.edge.from ≡ i = g.comes ∙ own (rep_of dag) (length flat.vertices) (length dag.vertices) c i (omega arith) in
    record {
      into = record { edge = g.into.edge; place = g.into.place; stands = g.into.stands; is = ap (λ n. edge_at dag.edges n 0) (sym number) ∙ g.into.is; to = g.into.to ∙ number; port = g.into.port };
      comes = comes;
    }
