-- `sorted` gives the one list that has the same items in order.
use Rattle.std.proofs.Common.{◌≡◌, ◌∙◌, refl, sym, ap, zero, suc, List, [], ◌∷◌, Bool, true, false, cond, arith, add-one}
use Rattle.std.specs.List.Sorted.{IsSorted, IsPermutation}
use Rattle.std.specs.Ordering.{is_lt, ordering_reverse}
use Rattle.std.specs.declared.cmp.Ordering.{Ordering}
use Rattle.std.specs.declared.cmp.Ordering.TheVariants.{Less, Equal, Greater}
use Rattle.nemo_value.specs.Sorting.{placed, sorted}
pub use Rattle.nemo_value.specs.Sorting.{IsStrict}
use Rattle.nemo_value.proofs.Perm.{Perm, none, keep, swap, then, unmoved, to_std, from_std}

lt_is : (r : Ordering) → is_lt r ≡ true → r ≡ Less
lt_is Less h = refl
lt_is Equal h = cc
lt_is Greater h = cc

module _ {X : Type 0} (R : X → X → Ordering) where
  -- the first of a list isn't below x
  abbrev pub Leads : X → List X → Type 0
  Leads x [] = Unit {0}
  Leads x (y ∷ ys) = is_lt (R y x) ≡ false

  -- no item is below the one before it
  abbrev pub Ascends : List X → Type 0
  Ascends [] = Unit {0}
  Ascends (x ∷ xs) = Leads x xs × Ascends xs

  at_below : (x z : X) (zs : List X) → is_lt (R z x) ≡ true → placed R x (z ∷ zs) ≡ z ∷ placed R x zs
  at_below x z zs h = ap (λ b. cond b (z ∷ placed R x zs) (x ∷ z ∷ zs)) h

  at_front : (x z : X) (zs : List X) → is_lt (R z x) ≡ false → placed R x (z ∷ zs) ≡ x ∷ z ∷ zs
  at_front x z zs h = ap (λ b. cond b (z ∷ placed R x zs) (x ∷ z ∷ zs)) h

  moved : (x : X) (ys : List X) → Perm (x ∷ ys) (placed R x ys)
  moved x [] = keep x none
  moved x (y ∷ ys) = go (moved x ys) (is_lt (R y x))
    where
      go : Perm (x ∷ ys) (placed R x ys) → (b : Bool) → Perm (x ∷ y ∷ ys) (cond b (y ∷ placed R x ys) (x ∷ y ∷ ys))
      go ih true = then (swap x y ys) (keep y ih)
      go ih false = unmoved (x ∷ y ∷ ys)

  pub sorted_moves : (xs : List X) → Perm xs (sorted R xs)
  sorted_moves [] = none
  sorted_moves (x ∷ xs) = then (keep x (sorted_moves xs)) (moved x (sorted R xs))

  pub ascends_sorted : (xs : List X) → Ascends xs → IsSorted R xs
  ascends_sorted [] h k d low high = absurd (omega arith)
  ascends_sorted (x ∷ []) h k d low high = absurd (omega arith)
  ascends_sorted (x ∷ y ∷ ys) h zero d low high = h.0
  ascends_sorted (x ∷ y ∷ ys) h (suc k) d low high = rw add-one (let rest = ascends_sorted (y ∷ ys) h.1 k d (omega arith) (omega arith) in rw add-one at rest)

  pub sorted_ascends : (xs : List X) → IsSorted R xs → Ascends xs
  sorted_ascends [] h = tt
  sorted_ascends (x ∷ []) h = (tt, tt)
  sorted_ascends (x ∷ y ∷ ys) h = (h 0 x (omega arith) (omega arith), sorted_ascends (y ∷ ys) (λ k d low high. rw add-one (let more = h (suc k) d (omega arith) (omega arith) in rw add-one at more)))

  fixed : (xs : List X) → Ascends xs → sorted R xs ≡ xs
  fixed [] h = refl
  fixed (x ∷ []) h = refl
  fixed (x ∷ y ∷ ys) h = ap (placed R x) (fixed (y ∷ ys) h.1) ∙ at_front x y ys h.0

module _ {X : Type 0} (R : X → X → Ordering) (o : IsStrict R) where
  turned : (x y : X) → R x y ≡ Less → is_lt (R y x) ≡ false
  turned x y e = ap is_lt (o.total.antisymm y x ∙ ap ordering_reverse e)

  below : (x y z : X) → is_lt (R x y) ≡ true → R y z ≡ Less → is_lt (R x z) ≡ true
  below x y z p q = ap is_lt (o.total.trans x y z (lt_is (R x y) p) q)

  -- to put the lesser in last or first is one
  placed_less : (x y : X) (l : List X) → R x y ≡ Less → placed R x (placed R y l) ≡ placed R y (placed R x l)
  placed_less x y [] e = at_front R x y [] (turned x y e) ∙ sym (at_below R y x [] (ap is_lt e))
  placed_less x y (z ∷ zs) e = go (placed_less x y zs e) (is_lt (R z x)) refl (is_lt (R z y)) refl
    where
      go : placed R x (placed R y zs) ≡ placed R y (placed R x zs) → (b : Bool) → is_lt (R z x) ≡ b → (c : Bool) → is_lt (R z y) ≡ c
          → placed R x (placed R y (z ∷ zs)) ≡ placed R y (placed R x (z ∷ zs))
      go ih true p c q =
          let under : is_lt (R z y) ≡ true = below z x y p e in
          ap (placed R x) (at_below R y z zs under) ∙ at_below R x z (placed R y zs) p ∙ ap (λ l. z ∷ l) ih
          ∙ sym (ap (placed R y) (at_below R x z zs p) ∙ at_below R y z (placed R x zs) under)
      go ih false p true q =
          ap (placed R x) (at_below R y z zs q) ∙ at_front R x z (placed R y zs) p
          ∙ sym (ap (placed R y) (at_front R x z zs p) ∙ at_below R y x (z ∷ zs) (ap is_lt e) ∙ ap (λ l. x ∷ l) (at_below R y z zs q))
      go ih false p false q =
          ap (placed R x) (at_front R y z zs q) ∙ at_front R x y (z ∷ zs) (turned x y e)
          ∙ sym (ap (placed R y) (at_front R x z zs p) ∙ at_below R y x (z ∷ zs) (ap is_lt e) ∙ ap (λ l. x ∷ l) (at_front R y z zs q))

  placed_both : (x y : X) (l : List X) → placed R x (placed R y l) ≡ placed R y (placed R x l)
  placed_both x y l = go (R x y) refl
    where
      go : (r : Ordering) → R x y ≡ r → placed R x (placed R y l) ≡ placed R y (placed R x l)
      go Less e = placed_less x y l e
      go Equal e = let same = o.one x y e in ap (λ w. placed R w (placed R y l)) same ∙ sym (ap (λ w. placed R y (placed R w l)) same)
      go Greater e = sym (placed_less y x l (o.total.antisymm y x ∙ ap ordering_reverse e))

  pub sorted_alike : {xs ys : List X} → Perm xs ys → sorted R xs ≡ sorted R ys
  sorted_alike none = refl
  sorted_alike (keep x p) = ap (placed R x) (sorted_alike p)
  sorted_alike (swap x y l) = placed_both x y (sorted R l)
  sorted_alike (then p q) = sorted_alike p ∙ sorted_alike q

  leads_placed : (x y : X) (ys : List X) → is_lt (R y x) ≡ true → Leads R y ys → Leads R y (placed R x ys)
  leads_placed x y [] p h = turned y x (lt_is (R y x) p)
  leads_placed x y (z ∷ zs) p h = go (is_lt (R z x))
    where
      go : (b : Bool) → Leads R y (cond b (z ∷ placed R x zs) (x ∷ z ∷ zs))
      go true = h
      go false = turned y x (lt_is (R y x) p)

  ascends_placed : (x : X) (ys : List X) → Ascends R ys → Ascends R (placed R x ys)
  ascends_placed x [] h = (tt, tt)
  ascends_placed x (y ∷ ys) h = go (ascends_placed x ys h.1) (is_lt (R y x)) refl
    where
      go : Ascends R (placed R x ys) → (b : Bool) → is_lt (R y x) ≡ b → Ascends R (cond b (y ∷ placed R x ys) (x ∷ y ∷ ys))
      go ih true p = (leads_placed x y ys p h.0, ih)
      go ih false p = (p, h)

  ascends_all : (xs : List X) → Ascends R (sorted R xs)
  ascends_all [] = tt
  ascends_all (x ∷ xs) = ascends_placed x (sorted R xs) (ascends_all xs)

  pub sorted_in_order : (xs : List X) → IsSorted R (sorted R xs)
  sorted_in_order xs = ascends_sorted R (sorted R xs) (ascends_all xs)

  -- no other list with the same items is in order
  pub sorted_only : (xs ys : List X) → IsPermutation xs ys → IsSorted R ys → ys ≡ sorted R xs
  sorted_only xs ys p h = sym (fixed R ys (sorted_ascends R ys h)) ∙ sym (sorted_alike (from_std xs ys p))

pub sorted_same : {X : Type 0} (R : X → X → Ordering) (xs : List X) → IsPermutation xs (sorted R xs)
sorted_same R xs = to_std (sorted_moves R xs)
