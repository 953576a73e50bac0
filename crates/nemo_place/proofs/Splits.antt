-- Edges in order, cut at the first one that leads to a vertex after a given one.
use Rattle.std.proofs.Common.{arith, ◌≡◌, ◌∙◌, ap, sym, refl, ℕ, zero, suc, ◌+◌, ◌<◌, ◌≤◌, ◌==◌, Bool, true, false, cond, nat_le, List, [], ◌∷◌, filter, take, drop}
use Rattle.std.proofs.lemmas.Bool.{le-leb, leb-true, leb-false, ne_eqb}
use Rattle.std.specs.Cmp.{first_so, second_so}
use Rattle.std.specs.Cmp.Derive.{both_true}
use Rattle.std.specs.List.{prefix_len}
use Rattle.nemo_ir.specs.declared.dag.IrEdge.{IrEdge}
use Rattle.nemo_place.specs.Runs.{rises_from}

low : (k : ℕ) (e : IrEdge) (es : List IrEdge) → rises_from k (e ∷ es) ≡ true → k ≤ e.to
low k e es h = leb-true k e.to (first_so (nat_le k e.to) (rises_from e.to es) h)

rest : (k : ℕ) (e : IrEdge) (es : List IrEdge) → rises_from k (e ∷ es) ≡ true → rises_from e.to es ≡ true
rest k e es h = second_so (nat_le k e.to) (rises_from e.to es) h

-- none of the edges from a later vertex on leads to this one
past : (v k : ℕ) (es : List IrEdge) → v < k → rises_from k es ≡ true → filter (λ e. e.to == v) es ≡ []
past v k [] l h = refl
past v k (e ∷ es) l h =
    let up : k ≤ e.to = low k e es h in
    ap (λ b. cond b (e ∷ filter (λ d. d.to == v) es) (filter (λ d. d.to == v) es)) (ne_eqb e.to v (λ s. absurd (omega arith))) ∙ past v e.to es (omega arith) (rest k e es h)

-- one edge more at the front
front_turn : (v : ℕ) (e : IrEdge) (es : List IrEdge) (n : ℕ) (b : Bool) → nat_le e.to v ≡ b → rises_from e.to es ≡ true
    → filter (λ d. d.to == v) (take n es) ≡ filter (λ d. d.to == v) es → filter (λ d. d.to == v) (take (cond b (1 + n) 0) (e ∷ es)) ≡ filter (λ d. d.to == v) (e ∷ es)
front_turn v e es n true s h more =
    let next : 1 + n ≡ suc n = omega arith in
    ap (λ m. filter (λ d. d.to == v) (take m (e ∷ es))) next ∙ ap (λ ds. cond (e.to == v) (e ∷ ds) ds) more
front_turn v e es n false s h more = sym (past v e.to (e ∷ es) (leb-false e.to v s) (both_true (le-leb e.to e.to (omega arith)) h))

-- the edges into a vertex are at the front
pub front : (v k : ℕ) (es : List IrEdge) → rises_from k es ≡ true → filter (λ e. e.to == v) (take (prefix_len (λ e. nat_le e.to v) es) es) ≡ filter (λ e. e.to == v) es
front v k [] h = refl
front v k (e ∷ es) h =
    let more = rest k e es h in
    front_turn v e es (prefix_len (λ d. nat_le d.to v) es) (nat_le e.to v) refl more (front v e.to es more)

back_turn : (v w : ℕ) (e : IrEdge) (es : List IrEdge) (n : ℕ) (b : Bool) → nat_le e.to v ≡ b → v < w
    → filter (λ d. d.to == w) (drop n es) ≡ filter (λ d. d.to == w) es → filter (λ d. d.to == w) (drop (cond b (1 + n) 0) (e ∷ es)) ≡ filter (λ d. d.to == w) (e ∷ es)
back_turn v w e es n true s l more =
    let next : 1 + n ≡ suc n = omega arith in
    let before : e.to ≤ v = leb-true e.to v s in
    ap (λ m. filter (λ d. d.to == w) (drop m (e ∷ es))) next ∙ more
    ∙ ap (λ b. cond b (e ∷ filter (λ d. d.to == w) es) (filter (λ d. d.to == w) es)) (sym (ne_eqb e.to w (λ q. absurd (omega arith))))
back_turn v w e es n false s l more = refl

-- those into later vertices are behind it
pub back : (v w : ℕ) (es : List IrEdge) → v < w → filter (λ e. e.to == w) (drop (prefix_len (λ e. nat_le e.to v) es) es) ≡ filter (λ e. e.to == w) es
back v w [] l = refl
back v w (e ∷ es) l = back_turn v w e es (prefix_len (λ d. nat_le d.to v) es) (nat_le e.to v) refl l (back v w es l)

lower : (k m : ℕ) (es : List IrEdge) → k ≤ m → rises_from m es ≡ true → rises_from k es ≡ true
lower k m [] l h = refl
lower k m (e ∷ es) l h = let up : m ≤ e.to = low m e es h in both_true (le-leb k e.to (omega arith)) (rest m e es h)

-- what is left is in order
pub left : (n k : ℕ) (es : List IrEdge) → rises_from k es ≡ true → rises_from k (drop n es) ≡ true
left zero k es h = h
left (suc n) k [] h = refl
left (suc n) k (e ∷ es) h = lower k e.to (drop n es) (low k e es h) (left n e.to es (rest k e es h))
