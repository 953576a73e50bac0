-- The table of marks, entry by entry, and tests of what an index gives.
use Rattle.std.proofs.Common.{◌≡◌, sym, ap, ◌∙◌, ℕ, suc, ◌+◌, ◌<◌, ◌==◌, ◌||◌, Bool, true, false, not, List, [], ◌∷◌, ◌++◌, filter, length, cond, arith, refl, take, get_or, slice_index_or, ◌-◌, ◌&&◌}
use Rattle.std.specs.List.{list_all, list_any}
use Rattle.nemo_ir.specs.Along.{counted}
use Rattle.nemo_ir.specs.declared.dag.IrDag.{IrDag}
use Rattle.nemo_ir.proofs.Tables.{at_below, changed_at, equal, front_more, long_below, unequal}
use Rattle.nemo_check.specs.Tables.{marked, standing, standing_in}

one_true : (b : Bool) → (b || true) ≡ true
one_true true = refl
one_true false = refl

none_more : (b : Bool) → b ≡ false → false ≡ (b || false)
none_more false h = refl
none_more true h = absurd (cc h)

some_more : (b : Bool) → b ≡ true → (b || false) ≡ true
some_more true h = refl
some_more false h = absurd (cc h)

any_more : {X : Type 0} (p : X → Bool) (xs : List X) (x : X) → p x ≡ false → list_any p xs ≡ list_any p (xs ++ x ∷ [])
any_more p [] x h = none_more (p x) h
any_more p (y ∷ ys) x h = ap (λ b. p y || b) (any_more p ys x h)

any_here : {X : Type 0} (p : X → Bool) (xs : List X) (x : X) → p x ≡ true → list_any p (xs ++ x ∷ []) ≡ true
any_here p [] x h = some_more (p x) h
any_here p (y ∷ ys) x h = ap (λ b. p y || b) (any_here p ys x h) ∙ one_true (p y)

pub standing_more : (n : ℕ) (rep : List ℕ) (r : ℕ) → marked (standing_in n rep) r ≡ standing_in n (rep ++ r ∷ [])
standing_more n rep r =
    changed_at (λ v. list_any (λ o. o == v) rep) (λ v. list_any (λ o. o == v) (rep ++ r ∷ [])) (λ b. true) n r
    (λ v d. any_more (λ o. o == v) rep r (unequal r v (λ q. d (sym q)))) (any_here (λ o. o == r) rep r (equal r))

pub standing_next : (n i : ℕ) (rep : List ℕ) (d : ℕ) (old new : List Bool) → i < length rep → old ≡ standing_in n (take i rep) → new ≡ marked old (slice_index_or rep i d) → new ≡ standing_in n (take (i + 1) rep)
standing_next n i rep d old new l e f =
    f ∙ ap (λ t. marked t (slice_index_or rep i d)) e ∙ standing_more n (take i rep) (slice_index_or rep i d) ∙ ap (standing_in n) (sym (front_more rep i d l))

---- what passes a test

any_one : {X : Type 0} (p : X → Bool) (x : X) (xs : List X) (b : Bool) → list_any p xs ≡ not (length (filter p xs) == 0) → (b || list_any p xs) ≡ not (length (cond b (x ∷ filter p xs) (filter p xs)) == 0)
any_one p x xs true ih = sym (ap not (unequal (suc (length (filter p xs))) 0 (λ e. absurd (omega arith))))
any_one p x xs false ih = ih

any_filter : {X : Type 0} (p : X → Bool) (xs : List X) → list_any p xs ≡ not (length (filter p xs) == 0)
any_filter p [] = refl
any_filter p (x ∷ xs) = any_one p x xs (p x) (any_filter p xs)

-- one passes where those that do aren't none
pub any_left : {X : Type 0} (p : X → Bool) (xs left : List X) (b : Bool) → left ≡ filter p xs → b ≡ (length left == 0) → not b ≡ list_any p xs
any_left p xs left b l e = ap not (e ∙ ap (λ o. length o == 0) l) ∙ sym (any_filter p xs)

---- what stands in the table

pub standing_long : (dag : IrDag) → length (standing dag) ≡ length dag.vertices
standing_long dag = long_below (λ v. list_any (λ r. r == v) dag.rep) (length dag.vertices)

pub standing_at : (dag : IrDag) (v : ℕ) (d : Bool) → v < length dag.vertices → get_or (standing dag) v d ≡ list_any (λ r. r == v) dag.rep
standing_at dag v d l = at_below (λ v. list_any (λ r. r == v) dag.rep) (length dag.vertices) v d l

-- the numbers from i on, up to n
pub one_less : (test : ℕ → Bool) (i n : ℕ) → i < n → list_all test (counted i (n - i)) ≡ (test i && list_all test (counted (i + 1) (n - (i + 1))))
one_less test i n l =
    let left : n - i ≡ suc (n - (i + 1)) = omega arith in
    let next : suc i ≡ i + 1 = omega arith in
    ap (λ m. list_all test (counted i m)) left ∙ ap (λ j. test i && list_all test (counted j (n - (i + 1)))) next
