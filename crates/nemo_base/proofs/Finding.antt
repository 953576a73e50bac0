-- What tests over lists find, and where.
use Rattle.std.proofs.Common.{arith, ◌≡◌, ◌∙◌, ap, sym, refl, ℕ, zero, suc, ◌+◌, List, [], ◌∷◌, slice_get, Bool, true, false, Option, Some, None, ⊎_elim}
use Rattle.std.specs.Prelude.{◌==◌, not}
use Rattle.std.specs.List.{list_all, list_any}
use Rattle.std.proofs.lemmas.Bool.{and_from, and_parts, and_cases, eq-eqb, eqb-true, not_from_false, or_cases, or_left, or_right}
use Rattle.nemo_base.specs.Places.{all_at, any_at, is_in, passes}

-- two tests that imply each other
pub same_if : (a b : Bool) → (a ≡ true → b ≡ true) → (b ≡ true → a ≡ true) → a ≡ b
same_if true b to from = sym (to refl)
same_if false true to from = from refl
same_if false false to from = refl

pub same_item : {X : Type 0} (x y : X) → Some x ≡ Some y → x ≡ y
same_item x y e = cc

next : (k i : ℕ) → (k + 1) + i ≡ k + suc i
next k i = omega arith

none : (k : ℕ) → k ≡ k + 0
none k = omega arith

from_none : (k : ℕ) → 0 + k ≡ k
from_none k = omega arith

---- one item

-- there is an item, and it passes
pub record Passing {X : Type 0} (test : X → Bool) (o : Option X) : Type 0 where
  pub item : X
  pub there : o ≡ Some item
  pub ok : test item ≡ true

pub passing : {X : Type 0} (test : X → Bool) (o : Option X) → passes test o ≡ true → Passing test o
passing test (Some x) h = record { item = x; there = refl; ok = h }
passing test None h = cc

pub passes_at : {X : Type 0} (test : X → Bool) (o : Option X) (x : X) → o ≡ Some x → test x ≡ true → passes test o ≡ true
passes_at test o x there ok = ap (passes test) there ∙ ok

---- lists

-- an item passes at its place
pub record Found {X : Type 0} (test : ℕ → X → Bool) (xs : List X) : Type 0 where
  pub place : ℕ
  pub item : X
  pub there : slice_get xs place ≡ Some item
  pub ok : test place item ≡ true

find_from : {X : Type 0} (test : ℕ → X → Bool) (k : ℕ) (xs : List X) → any_at test k xs ≡ true → Found (λ i. test (k + i)) xs
find_from test k [] h = cc
find_from test k (x ∷ xs) h = ⊎_elim
    (λ here. record { place = 0; item = x; there = refl; ok = ap (λ n. test n x) (sym (none k)) ∙ here })
    (λ later. let f = find_from test (k + 1) xs later in record { place = suc f.place; item = f.item; there = f.there; ok = ap (λ n. test n f.item) (sym (next k f.place)) ∙ f.ok })
    (or_cases (test k x) (any_at test (k + 1) xs) h)

pub find_at : {X : Type 0} (test : ℕ → X → Bool) (xs : List X) → any_at test 0 xs ≡ true → Found test xs
find_at test xs h = let f = find_from test 0 xs h in record { place = f.place; item = f.item; there = f.there; ok = ap (λ n. test n f.item) (sym (from_none f.place)) ∙ f.ok }

any_from : {X : Type 0} (test : ℕ → X → Bool) (k : ℕ) (xs : List X) (i : ℕ) (x : X) → slice_get xs i ≡ Some x → test (k + i) x ≡ true → any_at test k xs ≡ true
any_from test k [] i x e h = cc
any_from test k (y ∷ ys) zero x e h =
    or_left (test k y) (any_at test (k + 1) ys) (ap (test k) (same_item y x e) ∙ ap (λ n. test n x) (none k) ∙ h)
any_from test k (y ∷ ys) (suc i) x e h = or_right (test k y) (any_at test (k + 1) ys) (any_from test (k + 1) ys i x e (ap (λ n. test n x) (next k i) ∙ h))

pub any_at_found : {X : Type 0} (test : ℕ → X → Bool) (xs : List X) (i : ℕ) (x : X) → slice_get xs i ≡ Some x → test i x ≡ true → any_at test 0 xs ≡ true
any_at_found test xs i x e h = any_from test 0 xs i x e (ap (λ n. test n x) (from_none i) ∙ h)

pub find : {X : Type 0} (test : X → Bool) (xs : List X) → list_any test xs ≡ true → Found (λ i. test) xs
find test [] h = cc
find test (x ∷ xs) h = ⊎_elim
    (λ here. record { place = 0; item = x; there = refl; ok = here })
    (λ later. let f = find test xs later in record { place = suc f.place; item = f.item; there = f.there; ok = f.ok })
    (or_cases (test x) (list_any test xs) h)

pub any_found : {X : Type 0} (test : X → Bool) (xs : List X) (i : ℕ) (x : X) → slice_get xs i ≡ Some x → test x ≡ true → list_any test xs ≡ true
any_found test [] i x e h = cc
any_found test (y ∷ ys) zero x e h = or_left (test y) (list_any test ys) (ap test (same_item y x e) ∙ h)
any_found test (y ∷ ys) (suc i) x e h = or_right (test y) (list_any test ys) (any_found test ys i x e h)

pub all_found : {X : Type 0} (test : X → Bool) (xs : List X) (i : ℕ) (x : X) → list_all test xs ≡ true → slice_get xs i ≡ Some x → test x ≡ true
all_found test [] i x h e = cc
all_found test (y ∷ ys) zero x h e = ap test (sym (same_item y x e)) ∙ (and_parts (test y) (list_all test ys) h).0
all_found test (y ∷ ys) (suc i) x h e = all_found test ys i x (and_parts (test y) (list_all test ys) h).1 e

all_from : {X : Type 0} (test : ℕ → X → Bool) (k : ℕ) (xs : List X) (i : ℕ) (x : X) → all_at test k xs ≡ true → slice_get xs i ≡ Some x → test (k + i) x ≡ true
all_from test k [] i x h e = cc
all_from test k (y ∷ ys) zero x h e = ap (λ n. test n x) (sym (none k)) ∙ ap (test k) (sym (same_item y x e)) ∙ (and_parts (test k y) (all_at test (k + 1) ys) h).0
all_from test k (y ∷ ys) (suc i) x h e = ap (λ n. test n x) (sym (next k i)) ∙ all_from test (k + 1) ys i x (and_parts (test k y) (all_at test (k + 1) ys) h).1 e

pub all_at_found : {X : Type 0} (test : ℕ → X → Bool) (xs : List X) (i : ℕ) (x : X) → all_at test 0 xs ≡ true → slice_get xs i ≡ Some x → test i x ≡ true
all_at_found test xs i x h e = ap (λ n. test n x) (sym (from_none i)) ∙ all_from test 0 xs i x h e

pub all_each : {X : Type 0} (test : X → Bool) (xs : List X) → ((i : ℕ) (x : X) → slice_get xs i ≡ Some x → test x ≡ true) → list_all test xs ≡ true
all_each test [] f = refl
all_each test (x ∷ xs) f = and_from (test x) (list_all test xs) (f 0 x refl) (all_each test xs (λ i y e. f (suc i) y e))

-- where not all pass, one fails
pub find_failing : {X : Type 0} (test : X → Bool) (xs : List X) → list_all test xs ≡ false → Found (λ i x. not (test x)) xs
find_failing test [] h = cc
find_failing test (x ∷ xs) h = ⊎_elim
    (λ here. record { place = 0; item = x; there = refl; ok = not_from_false (test x) here })
    (λ later. let f = find_failing test xs later in record { place = suc f.place; item = f.item; there = f.there; ok = f.ok })
    (and_cases (test x) (list_all test xs) h)

-- a test that is implied
pub any_more : {X : Type 0} (p q : X → Bool) (xs : List X) → ((x : X) → p x ≡ true → q x ≡ true) → list_any p xs ≡ true → list_any q xs ≡ true
any_more p q xs more h = let f = find p xs h in any_found q xs f.place f.item f.there (more f.item f.ok)

---- numbers

pub in_at : (n : ℕ) (ns : List ℕ) (i : ℕ) → slice_get ns i ≡ Some n → is_in n ns ≡ true
in_at n ns i e = any_found (λ m. m == n) ns i n e (eq-eqb n n refl)

-- a number of the list passes
pub any_in : (test : ℕ → Bool) (n : ℕ) (ns : List ℕ) → is_in n ns ≡ true → test n ≡ true → list_any test ns ≡ true
any_in test n ns within h =
    let f = find (λ m. m == n) ns within in
    any_found test ns f.place f.item f.there (ap test (eqb-true f.item n f.ok) ∙ h)
