-- Keys with their groups, put in order.
use Rattle.std.proofs.Common.{◌≡◌, refl, sym, ap, subst, List, [], ◌∷◌, Bool, true, map, Bor}
use Rattle.std.specs.Cmp.{Equal-is}
use Rattle.std.specs.List.{IsDistinct}
use Rattle.std.specs.List.Sorted.{IsStrictlySortedBy, IsPermutation, IsSortedByKey}
use Rattle.std.specs.Map.{lookup, keys_of}
use Rattle.std.specs.Ordering.{eq_by_cmp}
use Rattle.std.proofs.lemmas.List.Sorted.{IsPermutation-map}
use Rattle.std.proofs.lemmas.Map.Keys.{IsDistinct-IsPermutation}
use Rattle.nemo_value.proofs.Perm.{from_std}
use Rattle.nemo_value.proofs.RecordOrder.{field_strict}
use Rattle.nemo_value.proofs.SortedLists.{sorted_ascends}
use Rattle.nemo_value.specs.FieldOrder.{field_one}
use Rattle.nemo_value.specs.Order.{field_cmp}
use Rattle.nemo_value.specs.declared.field.Field.{Field}
use Rattle.nemo_transform.specs.Groups.{at_key, key_of}
use Rattle.nemo_transform.specs.declared.grouping.Group.{Group}
use Rattle.nemo_transform.proofs.ApartLists.{ties_flip, rises_apart, rises_strictly, lookup_moved, ascends_seen, apart_seen}

abbrev ties : Bor Field → Bor Field → Bool
ties x y = eq_by_cmp field_cmp x.now y.now

flips : (x y : Bor Field) → ties x y ≡ ties y x
flips x y = ties_flip field_cmp field_strict x.now y.now

one_key : (k : Field) (x y : Bor Field) → at_key k x ≡ true → at_key k y ≡ true → ties x y ≡ true
one_key k x y e f = subst (λ q. eq_by_cmp field_cmp q y.now ≡ true) (field_one k x.now ((Equal-is (field_cmp k x.now)).0 e)) f

borrowed : (es : List (Bor Field × Group)) → map (λ (q : Bor Field). q.now) (keys_of es) ≡ map key_of es
borrowed [] = refl
borrowed (e ∷ es) = ap (λ ks. e.0.now ∷ ks) (borrowed es)

module _ (es fs : List (Bor Field × Group)) (p : IsPermutation es fs) (d : IsDistinct ties (keys_of es)) where
  pub keys_rise : IsSortedByKey (λ (e : Bor Field × Group). e.0) (λ x y. field_cmp x.now y.now) fs → IsStrictlySortedBy field_cmp (map key_of fs)
  keys_rise h =
      let apart = IsDistinct-IsPermutation ties flips (keys_of es) (keys_of fs) (IsPermutation-map (λ (e : Bor Field × Group). e.0) es fs p) d in
      rises_strictly field_cmp (map key_of fs)
      (rises_apart field_cmp field_strict (map key_of fs) (ascends_seen key_of field_cmp fs (sorted_ascends (λ x y. field_cmp (key_of x) (key_of y)) fs h))
      (subst (IsDistinct (eq_by_cmp field_cmp)) (borrowed fs) (apart_seen (λ (q : Bor Field). q.now) field_cmp (keys_of fs) apart)))

  pub same_groups : (k : Field) → lookup (at_key k) fs ≡ lookup (at_key k) es
  same_groups k = sym (lookup_moved ties flips (at_key k) (one_key k) (from_std es fs p) d)
