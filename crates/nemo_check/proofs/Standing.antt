-- Producers found among a vertex's in-edges.
use Rattle.std.proofs.Common.{◌≡◌, ◌≢◌, ◌↔◌, IsTrue, subst, refl, ap, sym, ◌∙◌, ℕ, zero, suc, ◌+◌, ◌==◌, ◌&&◌, length, map, slice_get, slice_index_or, option_map, inl, inr, arith, Bool, true, false, List, [], ◌∷◌, filter, cond, if◌then◌else◌, Option, Some, None}
use Rattle.std.proofs.lemmas.Bool.{eqb-true, true≢false}
use Rattle.std.proofs.lemmas.Bool.Decides.{eqb_tells}
use Rattle.nemo_transform.specs.declared.shape.PortKind.{PortKind}
use Rattle.nemo_transform.specs.declared.transform.Transform.{Transform}
use Rattle.nemo_ir.specs.Flat.{FlatForm, transform_of}
use Rattle.nemo_ir.specs.Nodes.{deed_of, deed_or, edge_at, producer, feed_of, feeds_from, is_utility, node_of, nodes, nodes_from, rep_of, resolve, resolve_step, resolved}
use Rattle.nemo_ir.specs.Valid.{StandsFor, kinds_at}
use Rattle.nemo_ir.specs.declared.dag.IrDag.{IrDag}
use Rattle.nemo_ir.specs.declared.dag.IrVertex.{IrVertex}
use Rattle.nemo_ir.specs.declared.flat.FlatVertex.{FlatVertex}
use Rattle.nemo_ir.specs.declared.dag.IrEdge.{IrEdge}
use Rattle.nemo_check.specs.Tables.{ports_match}

both : (a b : Bool) → a ≡ true → b ≡ true → (a && b) ≡ true
both true b h k = k
both false b h k = h

first_of : (a b : Bool) → (a && b) ≡ true → a ≡ true
first_of true b h = refl
first_of false b h = h

second_of : (a b : Bool) → (a && b) ≡ true → b ≡ true
second_of true b h = h
second_of false b h = absurd (cc h)

is_equal : {a b : ℕ} → a ≡ b → (a == b) ≡ true
is_equal {a = a} {b = b} h = elim (eqb_tells a b) [ inl p ↦ p.0 | inr p ↦ absurd (p.1 h) ]

-- the Op behind a utility vertex
pub behind : (es : List IrEdge) (ops : List ℕ) (v p r : ℕ) (u : IrVertex) → p ≡ producer (edge_at es v 0) → r ≡ slice_index_or ops p 0 → length ops ≡ v → is_utility u.kind ≡ true → r ≡ resolve_step es ops u
behind es ops v p r u f g n t =
    g ∙ ap (λ q. slice_index_or ops q 0) (f ∙ ap (λ w. producer (edge_at es w 0)) (sym n))
    ∙ ap (λ b. if b then slice_index_or ops (producer (edge_at es (length ops) 0)) 0 else length ops) (sym t)

from_of : (o : Option IrEdge) → (feed_of o).from ≡ producer o
from_of (Some e) = refl
from_of None = refl

---- the Ops behind the ports, and those that stand for the inputs

-- the Op behind a port
behind_port : (dag : IrDag) (v port : ℕ) → resolve dag (feed_of (edge_at dag.edges v port)).from ≡ resolve dag (producer (edge_at dag.edges v port))
behind_port dag v port = ap (resolve dag) (from_of (edge_at dag.edges v port))

abbrev pub ops_behind : IrDag → ℕ → ℕ → List PortKind → List ℕ
ops_behind dag v port ks = map (λ f. resolve dag f.from) (feeds_from dag.edges v port ks)

pub same_length : (dag : IrDag) (v port : ℕ) (ks : List PortKind) (ys : List ℕ) → ops_behind dag v port ks ≡ map (rep_of dag) ys → length ks ≡ length ys
same_length dag v port [] [] h = refl
same_length dag v port [] (y ∷ ys) h = absurd (cc h)
same_length dag v port (k ∷ ks) [] h = absurd (cc h)
same_length dag v port (k ∷ ks) (y ∷ ys) h = ap suc (same_length dag v (port + 1) ks ys (cc h))

pub to_match : (dag : IrDag) (v port : ℕ) (ks : List PortKind) (ys : List ℕ) → ops_behind dag v port ks ≡ map (rep_of dag) ys → ports_match dag v port ys ≡ true
to_match dag v port [] [] h = refl
to_match dag v port [] (y ∷ ys) h = absurd (cc h)
to_match dag v port (k ∷ ks) [] h = absurd (cc h)
to_match dag v port (k ∷ ks) (y ∷ ys) h =
    let first : resolve dag (feed_of (edge_at dag.edges v port)).from ≡ rep_of dag y = cc h in
    both _ _ (is_equal (sym (behind_port dag v port) ∙ first)) (to_match dag v (port + 1) ks ys (cc h))

pub from_match : (dag : IrDag) (v port : ℕ) (ks : List PortKind) (ys : List ℕ) → length ks ≡ length ys → ports_match dag v port ys ≡ true → ops_behind dag v port ks ≡ map (rep_of dag) ys
from_match dag v port [] [] n h = refl
from_match dag v port [] (y ∷ ys) n h = absurd (cc n)
from_match dag v port (k ∷ ks) [] n h = absurd (cc n)
from_match dag v port (k ∷ ks) (y ∷ ys) n h =
    let first = behind_port dag v port ∙ eqb-true _ _ (first_of _ _ h) in
    let rest = from_match dag v (port + 1) ks ys (cc n) (second_of _ _ h) in
    λ i. first i ∷ rest i

---- a vertex with its in-edges

node_from : (ts : List Transform) (es : List IrEdge) (k i : ℕ) (us : List IrVertex) → slice_get (nodes_from ts es k us) i ≡ option_map (node_of ts es (k + i)) (slice_get us i)
node_from ts es k i [] = refl
node_from ts es k zero (u ∷ us) = ap (λ j. Some (node_of ts es j u)) (omega arith)
node_from ts es k (suc i) (u ∷ us) = node_from ts es (k + 1) i us ∙ ap (λ j. option_map (node_of ts es j) (slice_get us i)) (omega arith)

pub node_at : (ts : List Transform) (dag : IrDag) (v : ℕ) → slice_get (nodes ts dag) v ≡ option_map (node_of ts dag.edges v) (slice_get dag.vertices v)
node_at ts dag v = node_from ts dag.edges 0 v dag.vertices ∙ ap (λ j. option_map (node_of ts dag.edges j) (slice_get dag.vertices v)) (omega arith)

-- whether a vertex takes what a flat vertex takes
pub differ : (dag : IrDag) (v : ℕ) (ks : List PortKind) (ys : List ℕ) (n m : ℕ) → n ≡ length ks → m ≡ length ys → n ≢ m → IsTrue false ↔ (ops_behind dag v 0 ks ≡ map (rep_of dag) ys)
differ dag v ks ys n m e f d = (λ t. absurd (cc t), λ h. absurd (d (e ∙ same_length dag v 0 ks ys h ∙ sym f)))

pub agree : (dag : IrDag) (v : ℕ) (ks : List PortKind) (ys given : List ℕ) (b : Bool) (n m : ℕ) → given ≡ ys → b ≡ ports_match dag v 0 given → n ≡ length ks → m ≡ length ys → n ≡ m
    → IsTrue b ↔ (ops_behind dag v 0 ks ≡ map (rep_of dag) ys)
agree dag v ks ys given b n m g h e f d =
    let known : b ≡ ports_match dag v 0 ys = h ∙ ap (ports_match dag v 0) g in
    (λ t. from_match dag v 0 ks ys (sym e ∙ d ∙ f) (sym known ∙ t), λ s. known ∙ to_match dag v 0 ks ys s)

-- whether a vertex stands for a flat vertex
pub there : (flat : FlatForm) (dag : IrDag) (x : FlatVertex) (v : ℕ) (u : IrVertex) (a b : Bool) → Some u ≡ slice_get dag.vertices v → IsTrue a ↔ (deed_of flat.transforms u.kind ≡ deed_or (transform_of flat x)) → a ≡ true
    → IsTrue b ↔ (ops_behind dag v 0 (kinds_at flat u) ≡ map (rep_of dag) x.inputs) → IsTrue b ↔ StandsFor flat dag x (slice_get (nodes flat.transforms dag) v)
there flat dag x v u a b e d t s =
    let node : Some (node_of flat.transforms dag.edges v u) ≡ slice_get (nodes flat.transforms dag) v = ap (option_map (node_of flat.transforms dag.edges v)) e ∙ sym (node_at flat.transforms dag v) in
    subst (λ o. IsTrue b ↔ StandsFor flat dag x o) node (λ y. (d.0 t, s.0 y), λ y. s.1 y.1)

pub elsewhere : (flat : FlatForm) (dag : IrDag) (x : FlatVertex) (v : ℕ) (u : IrVertex) (a : Bool) → Some u ≡ slice_get dag.vertices v → IsTrue a ↔ (deed_of flat.transforms u.kind ≡ deed_or (transform_of flat x)) → a ≡ false → IsTrue a ↔ StandsFor flat dag x (slice_get (nodes flat.transforms dag) v)
elsewhere flat dag x v u a e d t =
    let node : Some (node_of flat.transforms dag.edges v u) ≡ slice_get (nodes flat.transforms dag) v = ap (option_map (node_of flat.transforms dag.edges v)) e ∙ sym (node_at flat.transforms dag v) in
    subst (λ o. IsTrue a ↔ StandsFor flat dag x o) node (λ y. absurd (true≢false (sym y ∙ t)), λ y. d.1 y.0)

pub nowhere : (flat : FlatForm) (dag : IrDag) (x : FlatVertex) (v : ℕ) → None ≡ slice_get dag.vertices v → IsTrue false ↔ StandsFor flat dag x (slice_get (nodes flat.transforms dag) v)
nowhere flat dag x v e =
    let node : None ≡ slice_get (nodes flat.transforms dag) v = ap (option_map (node_of flat.transforms dag.edges v)) e ∙ sym (node_at flat.transforms dag v) in
    subst (λ o. IsTrue false ↔ StandsFor flat dag x o) node (λ y. absurd (cc y), λ y. absurd y)
