-- The edges of a line: one from each vertex to the next.
use Rattle.std.proofs.Common.{arith, ◌≡◌, ◌≢◌, ◌∙◌, ap, sym, subst, refl, ℕ, zero, suc, ◌+◌, ◌<◌, ◌≤◌, ◌==◌, ◌&&◌, List, [], ◌∷◌, ◌++◌, length, map, filter, cond, slice_get, Bool, true, false, Some, eq-eqb}
use Rattle.std.proofs.lemmas.Bool.{ne_eqb}
use Rattle.std.specs.List.{flat_map}
use Rattle.nemo_ir.specs.Flat.{FlatForm, transform_of}
use Rattle.nemo_ir.specs.Nodes.{edge_at}
use Rattle.nemo_ir.specs.Valid.{ports_named}
use Rattle.nemo_ir.specs.declared.dag.IrEdge.{IrEdge}
use Rattle.nemo_ir.specs.declared.flat.FlatVertex.{FlatVertex}
use Rattle.nemo_flat.specs.FirstDag.{pattern_into, edge_into, edges_into, ports_of}
use Rattle.nemo_base.specs.Numbered.{map_at}
use Rattle.nemo_ir.specs.Line.{IsLine, one_before}
use Rattle.nemo_ir.proofs.Places.{from_none, same_item}
use Rattle.nemo_ir.proofs.Lines.{line_inputs}

-- from k on, one edge from each vertex into port 0 of the next
abbrev pub IsPath : ℕ → List IrEdge → Type 0
IsPath k [] = Unit {0}
IsPath k (e ∷ es) = (e.from ≡ k) × (e.to ≡ suc k) × (e.port ≡ 0) × IsPath (suc k) es

pub record IsStep (e : IrEdge) (k : ℕ) : Type 0 where
  pub from : e.from ≡ k
  pub to : e.to ≡ suc k
  pub port : e.port ≡ 0

pub path_get : (k : ℕ) (es : List IrEdge) (i : ℕ) (e : IrEdge) → IsPath k es → slice_get es i ≡ Some e → IsStep e (k + i)
path_get k [] i e h g = cc
path_get k (d ∷ es) zero e h g =
    let same : d ≡ e = same_item d e g in
    let here : k ≡ k + 0 = omega arith in
    subst (IsStep e) here (subst (λ c. IsStep c k) same (record { from = h.0; to = h.1; port = h.2 }))
path_get k (d ∷ es) (suc i) e h g = let n : suc k + i ≡ k + suc i = omega arith in subst (IsStep e) n (path_get (suc k) es i e h.3 g)

---- the edges into a vertex

neq-eqb : (m n : ℕ) → m ≢ n → (m == n) ≡ false
neq-eqb m n d = ne_eqb m n d

other : (m n : ℕ) (b : Bool) → m ≢ n → ((m == n) && b) ≡ false
other m n b d = ap (λ c. c && b) (neq-eqb m n d)

-- the edge into the port of a vertex
pub record HasEdge (es : List IrEdge) (v from : ℕ) : Type 0 where
  pub edge : IrEdge
  pub is : edge_at es v 0 ≡ Some edge
  pub comes : edge.from ≡ from

pub path_edge : (k : ℕ) (es : List IrEdge) (i : ℕ) → IsPath k es → i < length es → HasEdge es (suc (k + i)) (k + i)
path_edge k [] i h l = absurd (omega arith)
path_edge k (e ∷ es) zero h l =
    let here : k ≡ k + 0 = omega arith in
    let hit : ((e.to == suc (k + 0)) && (e.port == 0)) ≡ true = ap (λ b. b && (e.port == 0)) (eq-eqb e.to (suc (k + 0)) (h.1 ∙ ap suc here)) ∙ eq-eqb e.port 0 h.2 in
    record { edge = e; is = ap (λ b. cond b (Some e) (edge_at es (suc (k + 0)) 0)) hit; comes = h.0 ∙ here }
path_edge k (e ∷ es) (suc i) h l =
    let n : suc k + i ≡ k + suc i = omega arith in
    let to : e.to ≡ suc k = h.1 in
    let r : HasEdge es (suc (k + suc i)) (k + suc i) = subst (λ m. HasEdge es (suc m) m) n (path_edge (suc k) es i h.3 (omega arith)) in
    let differs : e.to ≢ suc (k + suc i) = omega arith in
    let miss : ((e.to == suc (k + suc i)) && (e.port == 0)) ≡ false = other e.to (suc (k + suc i)) (e.port == 0) differs in
    record { edge = r.edge; is = ap (λ b. cond b (Some e) (edge_at es (suc (k + suc i)) 0)) miss ∙ r.is; comes = r.comes }

pub none_named : (k : ℕ) (es : List IrEdge) (v : ℕ) → IsPath k es → v ≤ k → ports_named es v ≡ []
none_named k [] v h l = refl
none_named k (e ∷ es) v h l =
    let to : e.to ≡ suc k = h.1 in
    let differs : e.to ≢ v = omega arith in
    ap (λ b. map (λ d. d.port) (cond b (e ∷ filter (λ d. d.to == v) es) (filter (λ d. d.to == v) es))) (neq-eqb e.to v differs) ∙ none_named (suc k) es v h.3 (omega arith)

pub one_named : (k : ℕ) (es : List IrEdge) (i : ℕ) → IsPath k es → i < length es → ports_named es (suc (k + i)) ≡ 0 ∷ []
one_named k [] i h l = absurd (omega arith)
one_named k (e ∷ es) zero h l =
    let here : k ≡ k + 0 = omega arith in
    let v = suc (k + 0) in
    ap (λ b. map (λ d. d.port) (cond b (e ∷ filter (λ d. d.to == v) es) (filter (λ d. d.to == v) es))) (eq-eqb e.to v (h.1 ∙ ap suc here))
    ∙ ap (λ ps. e.port ∷ ps) (none_named (suc k) es v h.3 (omega arith)) ∙ ap (λ q. q ∷ []) h.2
one_named k (e ∷ es) (suc i) h l =
    let n : suc k + i ≡ k + suc i = omega arith in
    let to : e.to ≡ suc k = h.1 in
    let v = suc (k + suc i) in
    let differs : e.to ≢ suc (k + suc i) = omega arith in
    ap (λ b. map (λ d. d.port) (cond b (e ∷ filter (λ d. d.to == v) es) (filter (λ d. d.to == v) es))) (neq-eqb e.to v differs)
    ∙ subst (λ m. ports_named es (suc m) ≡ 0 ∷ []) n (one_named (suc k) es i h.3 (omega arith))

---- the first edges of a line

abbrev pub edges_from : FlatForm → ℕ → List FlatVertex → List IrEdge
edges_from flat k xs = flat_map (λ es. es) (map_at (edges_into flat) k xs)

-- the edge at a place has the pattern of the one port of the vertex there
pub record PortPattern (flat : FlatForm) (xs : List FlatVertex) (i : ℕ) (e : IrEdge) : Type 0 where
  pub copy : FlatVertex
  pub copy_at : slice_get xs i ≡ Some copy
  pub pattern : e.pattern ≡ pattern_into (slice_get (ports_of (transform_of flat copy)) e.port)

pub record FirstEdges (flat : FlatForm) (xs : List FlatVertex) (es : List IrEdge) (k : ℕ) : Type 0 where
  pub path : IsPath k es
  pub size : length es ≡ length xs
  pub patterns : (i : ℕ) (e : IrEdge) → slice_get es i ≡ Some e → PortPattern flat xs i e

port_patterns : (flat : FlatForm) (x : FlatVertex) (xs : List FlatVertex) (e : IrEdge) (es : List IrEdge) → e.pattern ≡ pattern_into (slice_get (ports_of (transform_of flat x)) e.port)
    → ((i : ℕ) (d : IrEdge) → slice_get es i ≡ Some d → PortPattern flat xs i d) → (i : ℕ) (d : IrEdge) → slice_get (e ∷ es) i ≡ Some d → PortPattern flat (x ∷ xs) i d
port_patterns flat x xs e es is rest zero d g = subst (PortPattern flat (x ∷ xs) 0) (same_item e d g) (record { copy = x; copy_at = refl; pattern = is })
port_patterns flat x xs e es is rest (suc i) d g = let r = rest i d g in record { copy = r.copy; copy_at = r.copy_at; pattern = r.pattern }

pub first_path : (flat : FlatForm) (k : ℕ) (xs : List FlatVertex) → ((i : ℕ) (x : FlatVertex) → slice_get xs i ≡ Some x → x.inputs ≡ (k + i) ∷ [])
    → FirstEdges flat xs (edges_from flat (suc k) xs) k
first_path flat k [] h = record { path = tt; size = refl; patterns = λ i e g. cc }
first_path flat k (x ∷ xs) h =
    let here : k + 0 ≡ k = omega arith in
    let up : suc k + 1 ≡ suc (suc k) = omega arith in
    let e = edge_into (ports_of (transform_of flat x)) (suc k) 0 k in
    let inputs : x.inputs ≡ k ∷ [] = h 0 x refl ∙ ap (λ n. n ∷ []) here in
    let rest = first_path flat (suc k) xs (λ i y g. let n : k + suc i ≡ suc k + i = omega arith in h (suc i) y g ∙ ap (λ m. m ∷ []) n) in
    let is : edges_from flat (suc k) (x ∷ xs) ≡ e ∷ edges_from flat (suc (suc k)) xs =
    ap (λ ins. map_at (edge_into (ports_of (transform_of flat x)) (suc k)) 0 ins ++ edges_from flat (suc k + 1) xs) inputs ∙ ap (λ n. e ∷ edges_from flat n xs) up in
    subst (λ es. FirstEdges flat (x ∷ xs) es k) (sym is) (record { path = (refl, refl, refl, rest.path); size = ap suc rest.size; patterns = port_patterns flat x xs e (edges_from flat (suc (suc k)) xs) refl rest.patterns })

-- the edges of a line
pub record LineEdges (flat : FlatForm) (xs : List FlatVertex) (es : List IrEdge) : Type 0 where
  pub path : IsPath 0 es
  pub size : suc (length es) ≡ length xs
  pub patterns : (i : ℕ) (e : IrEdge) → slice_get es i ≡ Some e → PortPattern flat xs (suc i) e

pub line_start : (flat : FlatForm) → IsLine flat → 1 ≤ length flat.vertices → LineEdges flat flat.vertices (edges_from flat 0 flat.vertices)
line_start flat line some = go flat.vertices (line_inputs flat line) some
  where
    go : (xs : List FlatVertex) → ((i : ℕ) (x : FlatVertex) → slice_get xs i ≡ Some x → x.inputs ≡ one_before i) → 1 ≤ length xs → LineEdges flat xs (edges_from flat 0 xs)
    go [] h s = absurd (omega arith)
    go (x ∷ xs) h s =
        let rest = first_path flat 0 xs (λ i y g. h (suc i) y g ∙ ap (λ m. m ∷ []) (sym (from_none i))) in
        let is : edges_from flat 0 (x ∷ xs) ≡ edges_from flat 1 xs = ap (λ ins. map_at (edge_into (ports_of (transform_of flat x)) 0) 0 ins ++ edges_from flat 1 xs) (h 0 x refl) in
        subst (LineEdges flat (x ∷ xs)) (sym is)
        (record {
          path = rest.path;
          size = ap suc rest.size;
          patterns = λ i e g. let r = rest.patterns i e g in record { copy = r.copy; copy_at = r.copy_at; pattern = r.pattern };
        })
