-- Lists of which no two items tie, in order.
use Rattle.std.proofs.Common.{◌≡◌, ◌∙◌, refl, ap, List, [], ◌∷◌, Bool, true, false, cond, map, Some, Ordering}
use Rattle.std.specs.List.{IsDistinct, AllByRecursion}
use Rattle.std.specs.List.Sorted.{IsStrictlySortedBy}
use Rattle.std.specs.Map.{lookup, keys_of}
use Rattle.std.specs.Ordering.{eq_by_cmp, is_eq, is_lt, ordering_reverse}
use Rattle.std.specs.declared.cmp.Ordering.TheVariants.{Less, Equal, Greater}
use Rattle.std.proofs.lemmas.List.Sorted.{IsPermutation-map}
use Rattle.std.proofs.lemmas.Map.Keys.{IsDistinct-head, IsDistinct-tail, IsDistinct-IsPermutation, sorted_head, sorted_tail}
use Rattle.nemo_value.specs.Ascending.{ascending}
use Rattle.nemo_value.specs.Sorting.{sorted}
use Rattle.nemo_value.proofs.AscendingLists.{Before, Rises, before_less, one_rise, rises_ascending, in_ascending}
use Rattle.nemo_value.proofs.Members.{in_perm}
use Rattle.nemo_value.proofs.Perm.{Perm, none, keep, swap, then, back, to_std}
use Rattle.nemo_value.proofs.SortedLists.{IsStrict, Leads, Ascends, sorted_ascends, sorted_in_order, sorted_moves, sorted_same}

turned_eq : (r : Ordering) → is_eq (ordering_reverse r) ≡ is_eq r
turned_eq Less = refl
turned_eq Equal = refl
turned_eq Greater = refl

module _ {K : Type 0} (R : K → K → Ordering) (o : IsStrict R) where
  pub ties_flip : (x y : K) → eq_by_cmp R x y ≡ eq_by_cmp R y x
  ties_flip x y = ap is_eq (o.total.antisymm x y) ∙ turned_eq (R y x)

  below : (x y : K) → is_lt (R y x) ≡ false → eq_by_cmp R x y ≡ false → R x y ≡ Less
  below x y l n = go (R x y) refl
    where
      go : (r : Ordering) → R x y ≡ r → R x y ≡ Less
      go Less e = e
      go Equal e = let tie = ap is_eq e in absurd (cc)
      go Greater e = let less : is_lt (R y x) ≡ true = ap is_lt (o.total.antisymm y x ∙ ap ordering_reverse e) in absurd (cc)

  pub rises_apart : (xs : List K) → Ascends R xs → IsDistinct (eq_by_cmp R) xs → Rises R xs
  rises_apart [] a d = tt
  rises_apart (x ∷ xs) a d = let rest = rises_apart xs a.1 (IsDistinct-tail (eq_by_cmp R) x xs d) in (before xs a.0 (IsDistinct-head (eq_by_cmp R) x xs d) rest, rest)
    where
      before : (ys : List K) → Leads R x ys → AllByRecursion (λ y. eq_by_cmp R x y ≡ false) ys → Rises R ys → Before R x ys
      before [] l n r = tt
      before (y ∷ ys) l n r = let e = below x y l n.0 in (e, before_less R o x y ys e r.0)

  -- the items in order are the different items in order
  pub sorted_apart : (xs : List K) → IsDistinct (eq_by_cmp R) xs → sorted R xs ≡ ascending R xs
  sorted_apart xs d =
      let apart = IsDistinct-IsPermutation (eq_by_cmp R) ties_flip xs (sorted R xs) (sorted_same R xs) d in
      one_rise R o (sorted R xs) (ascending R xs) (rises_apart (sorted R xs) (sorted_ascends R (sorted R xs) (sorted_in_order R o xs)) apart) (rises_ascending R o xs)
      (record { members = λ z. (λ m. (in_ascending R o xs z).1 (in_perm z (back (sorted_moves R xs)) m), λ m. in_perm z (sorted_moves R xs) ((in_ascending R o xs z).0 m)) })

-- the two words for rising lists
module _ {K : Type 0} (R : K → K → Ordering) where
  pub rises_strictly : (xs : List K) → Rises R xs → IsStrictlySortedBy R xs
  unfolding IsStrictlySortedBy
  rises_strictly [] h = tt
  rises_strictly (x ∷ xs) h = (before xs h.0, rises_strictly xs h.1)
    where
      before : (ys : List K) → Before R x ys → AllByRecursion (λ y. R x y ≡ Less) ys
      before [] b = tt
      before (y ∷ ys) b = (b.0, before ys b.1)

  pub strictly_rises : (xs : List K) → IsStrictlySortedBy R xs → Rises R xs
  strictly_rises [] h = tt
  strictly_rises (x ∷ xs) h = (before xs (sorted_head R x xs h), strictly_rises xs (sorted_tail R x xs h))
    where
      before : (ys : List K) → AllByRecursion (λ y. R x y ≡ Less) ys → Before R x ys
      before [] b = tt
      before (y ∷ ys) b = (b.0, before ys b.1)

-- a look-up finds the same in any order, where no two keys that are equal pass its test
module _ {K X : Type 0} (eq : K → K → Bool) (flips : (x y : K) → eq x y ≡ eq y x) (test : K → Bool) (one : (x y : K) → test x ≡ true → test y ≡ true → eq x y ≡ true) where
  pub lookup_moved : {es fs : List (K × X)} → Perm es fs → IsDistinct eq (keys_of es) → lookup test es ≡ lookup test fs
  lookup_moved none d = refl
  lookup_moved (keep e {xs} {ys} p) d = ap (λ found. cond (test e.0) (Some e.1) found) (lookup_moved p (IsDistinct-tail eq e.0 (keys_of xs) d))
  lookup_moved (swap x y l) d = go (test x.0) refl (test y.0) refl
    where
      go : (a : Bool) → test x.0 ≡ a → (b : Bool) → test y.0 ≡ b → cond a (Some x.1) (cond b (Some y.1) (lookup test l)) ≡ cond b (Some y.1) (cond a (Some x.1) (lookup test l))
      go true e true f = let same = one x.0 y.0 e f in let apart = (IsDistinct-head eq x.0 (keys_of (y ∷ l)) d).0 in absurd (cc)
      go true e false f = refl
      go false e b f = refl
  lookup_moved (then {xs} {ys} {zs} p q) d =
      lookup_moved p d ∙ lookup_moved q (IsDistinct-IsPermutation eq flips (keys_of xs) (keys_of ys) (IsPermutation-map (λ (e : K × X). e.0) xs ys (to_std p)) d)

-- keys that are seen by `see`
module _ {J K : Type 0} (see : J → K) (R : K → K → Ordering) where
  pub ascends_seen : (es : List J) → Ascends (λ x y. R (see x) (see y)) es → Ascends R (map see es)
  ascends_seen [] h = tt
  ascends_seen (e ∷ []) h = (tt, tt)
  ascends_seen (e ∷ d ∷ es) h = (h.0, ascends_seen (d ∷ es) h.1)

  pub apart_seen : (es : List J) → IsDistinct (λ x y. eq_by_cmp R (see x) (see y)) es → IsDistinct (eq_by_cmp R) (map see es)
  unfolding IsDistinct
  apart_seen [] h = tt
  apart_seen (e ∷ es) h = (all es h.0, apart_seen es h.1)
    where
      all : (ds : List J) → AllByRecursion (λ d. eq_by_cmp R (see e) (see d) ≡ false) ds → AllByRecursion (λ k. eq_by_cmp R (see e) k ≡ false) (map see ds)
      all [] n = tt
      all (d ∷ ds) n = (n.0, all ds n.1)
