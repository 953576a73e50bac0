-- The edges of the first DAG: those into a vertex come from its inputs, port by port.
use Rattle.std.proofs.Common.{arith, ◌≡◌, ◌≢◌, ◌∙◌, ap, sym, refl, ℕ, zero, suc, ◌+◌, ◌<◌, ◌==◌, ◌&&◌, List, [], ◌∷◌, ◌++◌, append-nil, length, map, filter, cond, slice_get, Bool, true, false, Some, eq-eqb}
use Rattle.std.proofs.lemmas.Bool.{ne_eqb}
use Rattle.std.proofs.lemmas.List.{map-append}
use Rattle.std.proofs.lemmas.List.Elements.{filter-append}
use Rattle.std.proofs.lemmas.List.Folds.{list_all-append}
use Rattle.std.specs.Cmp.Derive.{both_true}
use Rattle.std.specs.List.{list_all}
use Rattle.nemo_base.specs.Numbered.{map_at}
use Rattle.nemo_transform.specs.declared.shape.PortKind.{PortKind}
use Rattle.nemo_ir.specs.Along.{below, counted}
use Rattle.nemo_ir.specs.Flat.{FlatForm, transform_of}
use Rattle.nemo_ir.specs.Nodes.{edge_at}
use Rattle.nemo_ir.specs.Valid.{ports_named}
use Rattle.nemo_ir.specs.declared.dag.IrEdge.{IrEdge}
use Rattle.nemo_ir.specs.declared.flat.FlatVertex.{FlatVertex}
use Rattle.nemo_ir.proofs.Places.{list_all-whole, next, none, from_none, same_item}
use Rattle.nemo_flat.specs.FirstDag.{edge_into, edges_into, ports_of}
use Rattle.nemo_flat.proofs.LinePath.{edges_from}

-- the edge into a port of a flat vertex
abbrev pub edge_of : FlatForm → ℕ → FlatVertex → ℕ → ℕ → IrEdge
edge_of flat to x port input = edge_into (ports_of (transform_of flat x)) to port input

-- what holds of the edge from each input holds of each edge
pub each_edge : (flat : FlatForm) (p : IrEdge → Bool) (k : ℕ) (xs : List FlatVertex)
    → ((v : ℕ) (x : FlatVertex) (port input : ℕ) → slice_get xs v ≡ Some x → slice_get x.inputs port ≡ Some input → p (edge_of flat (k + v) x port input) ≡ true)
    → list_all p (edges_from flat k xs) ≡ true
each_edge flat p k [] f = refl
each_edge flat p k (x ∷ xs) f =
    list_all-append p (edges_into flat k x) (edges_from flat (k + 1) xs)
    ∙ both_true (list_all-whole p (edge_of flat k x) x.inputs (λ port input e. ap (λ n. p (edge_of flat n x port input)) (none k) ∙ f 0 x port input refl e))
    (each_edge flat p (k + 1) xs (λ v y port input g e. ap (λ n. p (edge_of flat n y port input)) (next k v) ∙ f (suc v) y port input g e))

---- the ports that they name

-- the edges into a vertex from a port on
abbrev into : List PortKind → ℕ → ℕ → List ℕ → List IrEdge
into kinds to port inputs = map_at (edge_into kinds to) port inputs

named-append : (es ds : List IrEdge) (v : ℕ) → ports_named (es ++ ds) v ≡ ports_named es v ++ ports_named ds v
named-append es ds v = ap (map (λ e. e.port)) (filter-append (λ e. e.to == v) es ds) ∙ map-append (λ e. e.port) (filter (λ e. e.to == v) es) (filter (λ e. e.to == v) ds)

named_own : (kinds : List PortKind) (to port : ℕ) (inputs : List ℕ) → ports_named (into kinds to port inputs) to ≡ counted port (length inputs)
named_own kinds to port [] = refl
named_own kinds to port (input ∷ inputs) =
    let rest = filter (λ d. d.to == to) (into kinds to (port + 1) inputs) in
    let up : port + 1 ≡ suc port = omega arith in
    ap (λ b. map (λ d. d.port) (cond b (edge_into kinds to port input ∷ rest) rest)) (eq-eqb to to refl)
    ∙ ap (λ ps. port ∷ ps) (named_own kinds to (port + 1) inputs ∙ ap (λ j. counted j (length inputs)) up)

named_other : (kinds : List PortKind) (to port : ℕ) (inputs : List ℕ) (v : ℕ) → to ≢ v → ports_named (into kinds to port inputs) v ≡ []
named_other kinds to port [] v d = refl
named_other kinds to port (input ∷ inputs) v d =
    let rest = filter (λ d. d.to == v) (into kinds to (port + 1) inputs) in
    ap (λ b. map (λ d. d.port) (cond b (edge_into kinds to port input ∷ rest) rest)) (ne_eqb to v d) ∙ named_other kinds to (port + 1) inputs v d

named_before : (flat : FlatForm) (k : ℕ) (xs : List FlatVertex) (v : ℕ) → v < k → ports_named (edges_from flat k xs) v ≡ []
named_before flat k [] v l = refl
named_before flat k (x ∷ xs) v l =
    let differs : k ≢ v = omega arith in
    named-append (edges_into flat k x) (edges_from flat (k + 1) xs) v
    ∙ ap (λ ps. ps ++ ports_named (edges_from flat (k + 1) xs) v) (named_other (ports_of (transform_of flat x)) k 0 x.inputs v differs)
    ∙ named_before flat (k + 1) xs v (omega arith)

-- those into a vertex name the numbers below the count of its inputs, in order
pub named_at : (flat : FlatForm) (k : ℕ) (xs : List FlatVertex) (v : ℕ) (x : FlatVertex) → slice_get xs v ≡ Some x → ports_named (edges_from flat k xs) (k + v) ≡ below (length x.inputs)
named_at flat k [] v x e = cc
named_at flat k (y ∷ ys) zero x e =
    ap (ports_named (edges_from flat k (y ∷ ys))) (sym (none k))
    ∙ named-append (edges_into flat k y) (edges_from flat (k + 1) ys) k
    ∙ ap (λ ps. ports_named (edges_into flat k y) k ++ ps) (named_before flat (k + 1) ys k (omega arith))
    ∙ append-nil (ports_named (edges_into flat k y) k)
    ∙ named_own (ports_of (transform_of flat y)) k 0 y.inputs
    ∙ ap (λ z. below (length z.inputs)) (same_item y x e)
named_at flat k (y ∷ ys) (suc v) x e =
    let differs : k ≢ k + suc v = omega arith in
    named-append (edges_into flat k y) (edges_from flat (k + 1) ys) (k + suc v)
    ∙ ap (λ ps. ps ++ ports_named (edges_from flat (k + 1) ys) (k + suc v)) (named_other (ports_of (transform_of flat y)) k 0 y.inputs (k + suc v) differs)
    ∙ ap (ports_named (edges_from flat (k + 1) ys)) (sym (next k v))
    ∙ named_at flat (k + 1) ys v x e

---- the edge into a port

skipped : (kinds : List PortKind) (to port : ℕ) (inputs : List ℕ) (es : List IrEdge) (v p : ℕ) → to ≢ v → edge_at (into kinds to port inputs ++ es) v p ≡ edge_at es v p
skipped kinds to port [] es v p d = refl
skipped kinds to port (input ∷ inputs) es v p d =
    ap (λ b. cond (b && (port == p)) (Some (edge_into kinds to port input)) (edge_at (into kinds to (port + 1) inputs ++ es) v p)) (ne_eqb to v d)
    ∙ skipped kinds to (port + 1) inputs es v p d

found : (kinds : List PortKind) (to port : ℕ) (inputs : List ℕ) (es : List IrEdge) (i input : ℕ) → slice_get inputs i ≡ Some input
    → edge_at (into kinds to port inputs ++ es) to (port + i) ≡ Some (edge_into kinds to (port + i) input)
found kinds to port [] es i input e = cc
found kinds to port (n ∷ inputs) es zero input e =
    let hit : ((to == to) && (port == port + 0)) ≡ true = both_true (eq-eqb to to refl) (eq-eqb port (port + 0) (none port)) in
    ap (λ b. cond b (Some (edge_into kinds to port n)) (edge_at (into kinds to (port + 1) inputs ++ es) to (port + 0))) hit
    ∙ ap (λ p. Some (edge_into kinds to p n)) (none port) ∙ ap (λ m. Some (edge_into kinds to (port + 0) m)) (same_item n input e)
found kinds to port (n ∷ inputs) es (suc i) input e =
    let differs : port ≢ port + suc i = omega arith in
    let miss : ((to == to) && (port == port + suc i)) ≡ false = ap (λ b. b && (port == port + suc i)) (eq-eqb to to refl) ∙ ne_eqb port (port + suc i) differs in
    ap (λ b. cond b (Some (edge_into kinds to port n)) (edge_at (into kinds to (port + 1) inputs ++ es) to (port + suc i))) miss
    ∙ ap (edge_at (into kinds to (port + 1) inputs ++ es) to) (sym (next port i))
    ∙ found kinds to (port + 1) inputs es i input e
    ∙ ap (λ p. Some (edge_into kinds to p input)) (next port i)

-- the edge into a port comes from the input of the port's number
pub edge_found : (flat : FlatForm) (k : ℕ) (xs : List FlatVertex) (v : ℕ) (x : FlatVertex) (port input : ℕ) → slice_get xs v ≡ Some x → slice_get x.inputs port ≡ Some input
    → edge_at (edges_from flat k xs) (k + v) port ≡ Some (edge_of flat (k + v) x port input)
edge_found flat k [] v x port input e g = cc
edge_found flat k (y ∷ ys) zero x port input e g =
    let same : y ≡ x = same_item y x e in
    let rest = edges_from flat (k + 1) ys in
    ap (λ n. edge_at (edges_into flat k y ++ rest) n port) (sym (none k))
    ∙ ap (λ z. edge_at (edges_into flat k z ++ rest) k port) same
    ∙ ap (edge_at (edges_into flat k x ++ rest) k) (sym (from_none port))
    ∙ found (ports_of (transform_of flat x)) k 0 x.inputs rest port input g
    ∙ ap (λ p. Some (edge_of flat k x p input)) (from_none port)
    ∙ ap (λ n. Some (edge_of flat n x port input)) (none k)
edge_found flat k (y ∷ ys) (suc v) x port input e g =
    let differs : k ≢ k + suc v = omega arith in
    skipped (ports_of (transform_of flat y)) k 0 y.inputs (edges_from flat (k + 1) ys) (k + suc v) port differs
    ∙ ap (λ n. edge_at (edges_from flat (k + 1) ys) n port) (sym (next k v))
    ∙ edge_found flat (k + 1) ys v x port input e g
    ∙ ap (λ n. Some (edge_of flat n x port input)) (next k v)
