-- The members of a list against its tests, and lists of numbers that differ.
use Rattle.std.proofs.Common.{arith, ◌≡◌, ◌∙◌, ap, sym, refl, ℕ, zero, suc, ◌+◌, ◌<◌, ◌≤◌, ◌==◌, Bool, true, false, not, cond, List, [], ◌∷◌, length, map, filter, slice_get, Some, inl, inr, eq-eqb}
use Rattle.std.proofs.lemmas.Bool.{and_from, cases_eq, eqb-true, false_from_ne_true, not_from_false, or_cases, or_left, or_parts, or_right}
use Rattle.std.specs.Cmp.{first_so, second_so}
use Rattle.std.specs.List.{list_all, list_any}
use Rattle.nemo_base.specs.Places.{differ, is_in}
use Rattle.nemo_value.specs.Members.{In}
use Rattle.nemo_value.proofs.MemberLists.{in_filter}
use Rattle.nemo_ir.specs.Along.{all_at, below, counted}
use Rattle.nemo_ir.proofs.Places.{next, none}

---- places

pub at_in : {X : Type 0} (xs : List X) (i : ℕ) (x : X) → slice_get xs i ≡ Some x → In x xs
at_in [] i x e = cc
at_in (y ∷ ys) zero x e = let same : y ≡ x = cc in inl (sym same)
at_in (y ∷ ys) (suc i) x e = inr (at_in ys i x e)

pub record StandsAt {X : Type 0} (xs : List X) (x : X) : Type 0 where
  pub place : ℕ
  pub is : slice_get xs place ≡ Some x

pub in_at : {X : Type 0} (xs : List X) (x : X) → In x xs → StandsAt xs x
in_at [] x m = absurd m
in_at (y ∷ ys) x (inl e) = record { place = 0; is = ap Some (sym e) }
in_at (y ∷ ys) x (inr m) = let s = in_at ys x m in record { place = suc s.place; is = s.is }

---- tests

module _ {X : Type 0} (p : X → Bool) where
  pub all_in : (xs : List X) (x : X) → list_all p xs ≡ true → In x xs → p x ≡ true
  all_in [] x h m = absurd m
  all_in (y ∷ ys) x h (inl e) = ap p e ∙ first_so (p y) (list_all p ys) h
  all_in (y ∷ ys) x h (inr m) = all_in ys x (second_so (p y) (list_all p ys) h) m

  pub all_from : (xs : List X) → ((x : X) → In x xs → p x ≡ true) → list_all p xs ≡ true
  all_from [] f = refl
  all_from (y ∷ ys) f = and_from (p y) (list_all p ys) (f y (inl refl)) (all_from ys (λ x m. f x (inr m)))

  pub none_in : (xs : List X) (x : X) → list_any p xs ≡ false → In x xs → p x ≡ false
  none_in [] x h m = absurd m
  none_in (y ∷ ys) x h (inl e) = ap p e ∙ (or_parts (p y) (list_any p ys) h).0
  none_in (y ∷ ys) x h (inr m) = none_in ys x (or_parts (p y) (list_any p ys) h).1 m

  pub any_in : (xs : List X) (x : X) → In x xs → p x ≡ true → list_any p xs ≡ true
  any_in [] x m h = absurd m
  any_in (y ∷ ys) x (inl e) h = or_left (p y) (list_any p ys) (ap p (sym e) ∙ h)
  any_in (y ∷ ys) x (inr m) h = or_right (p y) (list_any p ys) (any_in ys x m h)

pub all_at-each : {X : Type 0} (test : ℕ → X → Bool) (k : ℕ) (xs : List X) → ((i : ℕ) (x : X) → slice_get xs i ≡ Some x → test (k + i) x ≡ true) → all_at test k xs ≡ true
all_at-each test k [] f = refl
all_at-each test k (x ∷ xs) f = and_from (test k x) (all_at test (k + 1) xs) (ap (λ n. test n x) (none k) ∙ f 0 x refl) (all_at-each test (k + 1) xs (λ i y e. ap (λ n. test n y) (next k i) ∙ f (suc i) y e))

pub map_same : {X Y : Type 0} (f g : X → Y) (xs : List X) → ((x : X) → In x xs → f x ≡ g x) → map f xs ≡ map g xs
map_same f g [] h = refl
map_same f g (x ∷ xs) h = let rest = map_same f g xs (λ y m. h y (inr m)) in λ i. h x (inl refl) i ∷ rest i

---- numbers

pub is_in_in : (n : ℕ) (ns : List ℕ) → is_in n ns ≡ true → In n ns
is_in_in n [] h = cc
is_in_in n (m ∷ ms) h = elim (or_cases (m == n) (is_in n ms) h) [ inl here ↦ inl (sym (eqb-true m n here)) | inr more ↦ inr (is_in_in n ms more) ]

pub in_is_in : (n : ℕ) (ns : List ℕ) → In n ns → is_in n ns ≡ true
in_is_in n ns m = any_in (λ k. k == n) ns n m (eq-eqb n n refl)

in_counted : (k n v : ℕ) → In v (counted k n) → (k ≤ v) × (v < k + n)
in_counted k zero v m = absurd m
in_counted k (suc n) v (inl e) = (omega arith, omega arith)
in_counted k (suc n) v (inr m) = let r = in_counted (suc k) n v m in let low : suc k ≤ v = r.0 in let high : v < suc k + n = r.1 in (omega arith, omega arith)

counted_in : (k n v : ℕ) → k ≤ v → v < k + n → In v (counted k n)
counted_in k zero v l h = absurd (omega arith)
counted_in k (suc n) v l h = elim (cases_eq k v) [
  | inl same ↦ inl (sym same)
  | inr other ↦ inr (counted_in (suc k) n v (omega arith) (omega arith))
]

pub in_below : (n v : ℕ) → In v (below n) → v < n
in_below n v m = let r = in_counted 0 n v m in let high : v < 0 + n = r.1 in omega arith

pub below_in : (n v : ℕ) → v < n → In v (below n)
below_in n v l = counted_in 0 n v (omega arith) (omega arith)

counted_differ : (k n : ℕ) → differ (counted k n) ≡ true
counted_differ k zero = refl
counted_differ k (suc n) =
    and_from (not (is_in k (counted (suc k) n))) (differ (counted (suc k) n))
    (not_from_false (is_in k (counted (suc k) n))
    (false_from_ne_true (is_in k (counted (suc k) n)) (λ h. let low : suc k ≤ k = (in_counted (suc k) n k (is_in_in k (counted (suc k) n) h)).0 in absurd (omega arith))))
    (counted_differ (suc k) n)

pub below_differ : (n : ℕ) → differ (below n) ≡ true
below_differ n = counted_differ 0 n

no_more : (p : ℕ → Bool) (n : ℕ) (ns : List ℕ) → not (is_in n ns) ≡ true → not (is_in n (filter p ns)) ≡ true
no_more p n ns h =
    not_from_false (is_in n (filter p ns))
    (false_from_ne_true (is_in n (filter p ns)) (λ g. absurd (let there = in_is_in n ns (in_filter p n ns (is_in_in n (filter p ns) g)) in let none = ap not there in cc)))

pub filter_differ : (p : ℕ → Bool) (ns : List ℕ) → differ ns ≡ true → differ (filter p ns) ≡ true
filter_differ p [] h = refl
filter_differ p (n ∷ ns) h = go (p n) (filter_differ p ns (second_so (not (is_in n ns)) (differ ns) h)) (no_more p n ns (first_so (not (is_in n ns)) (differ ns) h))
  where
    go : (b : Bool) → differ (filter p ns) ≡ true → not (is_in n (filter p ns)) ≡ true → differ (cond b (n ∷ filter p ns) (filter p ns)) ≡ true
    go true rest new = and_from (not (is_in n (filter p ns))) (differ (filter p ns)) new rest
    go false rest new = rest

pub some_member : {X : Type 0} (xs : List X) (x : X) → In x xs → 1 ≤ length xs
some_member [] x m = absurd m
some_member (y ∷ ys) x m = omega arith
