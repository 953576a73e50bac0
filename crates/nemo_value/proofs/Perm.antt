-- Lists up to order, as derivations: a form of std's `IsPermutation` by which one can reason by cases.
use Rattle.std.proofs.Common.{ℕ, zero, suc, ◌<◌, List, [], ◌∷◌, length, get_or, arith}
use Rattle.std.proofs.Math.ListN.{set}
use Rattle.std.specs.List.{swap as list_swap}
use Rattle.std.specs.List.Sorted.{IsPermutation}
use Rattle.std.proofs.lemmas.List.Sorted.{IsPermutation-refl, IsPermutation-cons, IsPermutation-trans, IsPermutation-append_left, IsPermutation-append_comm, IsPermutation-keeps}

pub data Perm {A : Type 0} : List A → List A → Type 0 where
  none : Perm [] []
  keep : (x : A) {xs ys : List A} → Perm xs ys → Perm (x ∷ xs) (x ∷ ys)
  swap : (x y : A) (l : List A) → Perm (x ∷ y ∷ l) (y ∷ x ∷ l)
  then : {xs ys zs : List A} → Perm xs ys → Perm ys zs → Perm xs zs

module _ {A : Type 0} where
  pub unmoved : (xs : List A) → Perm xs xs
  unmoved [] = none
  unmoved (x ∷ xs) = keep x (unmoved xs)

  pub back : {xs ys : List A} → Perm xs ys → Perm ys xs
  back none = none
  back (keep x p) = keep x (back p)
  back (swap x y l) = swap y x l
  back (then p q) = then (back q) (back p)

  pub to_std : {xs ys : List A} → Perm xs ys → IsPermutation xs ys
  to_std {xs = xs} none = IsPermutation-refl []
  to_std (keep x {xs} {ys} p) = IsPermutation-cons x xs ys (to_std p)
  to_std (swap x y l) = IsPermutation-append_left l (x ∷ y ∷ []) (y ∷ x ∷ []) (IsPermutation-append_comm (x ∷ []) (y ∷ []))
  to_std (then {xs} {ys} {zs} p q) = IsPermutation-trans xs ys zs (to_std p) (to_std q)

  -- the first item and a later one change places
  exchanged : (d x : A) (xs : List A) (j : ℕ) → j < length xs → Perm (x ∷ xs) (get_or xs j d ∷ set xs j x)
  exchanged d x [] j h = absurd (omega arith)
  exchanged d x (y ∷ xs) zero h = swap x y xs
  exchanged d x (y ∷ xs) (suc j) h = then (swap x y xs) (then (keep y (exchanged d x xs j (omega arith))) (swap y (get_or xs j d) (set xs j x)))

  swapped : (d : A) (l : List A) (i j : ℕ) → i < length l → j < length l → Perm l (set (set l i (get_or l j d)) j (get_or l i d))
  swapped d [] i j h g = absurd (omega arith)
  swapped d (x ∷ xs) zero zero h g = unmoved (x ∷ xs)
  swapped d (x ∷ xs) zero (suc j) h g = exchanged d x xs j (omega arith)
  swapped d (x ∷ xs) (suc i) zero h g = exchanged d x xs i (omega arith)
  swapped d (x ∷ xs) (suc i) (suc j) h g = keep x (swapped d xs i j (omega arith) (omega arith))

  swap_step : (l : List A) (i j : ℕ) → i < length l → j < length l → Perm l (list_swap l i j)
  swap_step [] i j h g = none
  swap_step (d ∷ l) i j h g = swapped d (d ∷ l) i j h g

  pub from_std : (xs ys : List A) → IsPermutation xs ys → Perm xs ys
  from_std xs ys p = IsPermutation-keeps xs (λ l. Perm xs l) (unmoved xs) (λ l i j h g q. then q (swap_step l i j h g)) ys p
