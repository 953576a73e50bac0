-- What a reduce keeps of the rows of a key, and how it changes with a row more.
use Rattle.std.proofs.Common.{◌≡◌, ◌∙◌, ℕ, ◌+ℤ◌, refl, sym, ap, subst, List, [], ◌∷◌, ◌++◌, true, arith, Ordering, Some, Result, Ok, Err}
use Rattle.std.specs.Prelude.{reverse}
use Rattle.std.specs.List.{cons_option}
use Rattle.std.specs.BTreeSet.{insert_key}
use Rattle.std.specs.Ordering.{match_ordering}
use Rattle.std.specs.declared.cmp.Ordering.TheVariants.{Less, Equal, Greater}
use Rattle.std.proofs.lemmas.List.{append-nil}
use Rattle.std.proofs.lemmas.List.Elements.{filter_map-append}
use Rattle.std.proofs.lemmas.Int.{ints}
use mathlib.Core.List.{reverse_aux}
use Rattle.nemo_value.specs.Ascending.{ascending}
use Rattle.nemo_value.specs.Order.{field_cmp}
use Rattle.nemo_value.specs.declared.expr.Kind.{Kind}
use Rattle.nemo_value.specs.declared.field.Field.{Field}
use Rattle.nemo_value.proofs.AscendingLists.{ascending_more, Rises, rises_ascending}
use Rattle.nemo_transform.specs.Folds.{sum_of, count_of, least, greatest, folding_of, greater, with_field, with_read, start_of}
use Rattle.nemo_transform.specs.Gives.{Row, number, total, good, bad, fault, is_filled}
use Rattle.nemo_transform.specs.declared.transform.Folding.{Folding}
use Rattle.nemo_transform.specs.declared.transform.Folding.TheVariants.{Sum, Min, Max, Count}
use Rattle.nemo_value.proofs.RecordOrder.{field_strict}
use Rattle.nemo_transform.specs.Groups.{front, fold_of, read_at, goods, bads, made}

abbrev pub end_of : {X : Type 0} → X → List X → X
end_of x [] = x
end_of x (y ∷ ys) = end_of y ys

pub made_nothing : (by : Folding) (field : ℕ) → made by field [] ≡ start_of by
made_nothing Sum field = refl
made_nothing Min field = refl
made_nothing Max field = refl
made_nothing Count field = refl

pub folding_of_fold : (by : Folding) (fs : List Field) → folding_of (fold_of by fs) ≡ by
folding_of_fold Sum fs = refl
folding_of_fold Min fs = refl
folding_of_fold Max fs = refl
folding_of_fold Count fs = refl

total_more : (fs : List Field) (f : Field) → total (fs ++ f ∷ []) ≡ total fs +ℤ number f
total_more [] f = omega (arith, ints)
total_more (g ∷ fs) f = let more = total_more fs f in omega (arith, ints)

-- the first of a list in order, with an item more
front_placed : (l : List Field) (f : Field) → least (front (insert_key field_cmp l f)) ≡ with_field (least (front l)) f
front_placed [] f = refl
front_placed (y ∷ ys) f = go (field_cmp f y)
  where
    go : (r : Ordering) → least (front (match_ordering r (f ∷ y ∷ ys) (y ∷ ys) (y ∷ insert_key field_cmp ys f))) ≡ least (Some (match_ordering r f y y))
    go Less = refl
    go Equal = refl
    go Greater = refl

front_reversed : {X : Type 0} (xs : List X) (y : X) (ys : List X) → front (reverse_aux xs (y ∷ ys)) ≡ Some (end_of y xs)
front_reversed [] y ys = refl
front_reversed (z ∷ zs) y ys = front_reversed zs z (y ∷ ys)

-- an item below the first of a list in order is below its last
below_end : (f y : Field) (ys : List Field) → field_cmp f y ≡ Less → Rises field_cmp (y ∷ ys) → field_cmp f (end_of y ys) ≡ Less
below_end f y [] e h = e
below_end f y (z ∷ zs) e h = below_end f z zs (field_strict.total.trans f y z e h.0.0) h.1

-- the last stays where an item is below it or ties with it
kept_below : (r : Ordering) (b f : Field) → r ≡ Less → b ≡ match_ordering r b b f
kept_below Less b f e = refl
kept_below Equal b f e = refl
kept_below Greater b f e = cc

end_placed : (x y : Field) (ys : List Field) (f : Field) → Rises field_cmp (y ∷ ys) → end_of x (insert_key field_cmp (y ∷ ys) f) ≡ greater (end_of y ys) f
end_placed x y [] f h = go (field_cmp f y)
  where
    go : (r : Ordering) → end_of x (match_ordering r (f ∷ y ∷ []) (y ∷ []) (y ∷ f ∷ [])) ≡ match_ordering r y y f
    go Less = refl
    go Equal = refl
    go Greater = refl
end_placed x y (z ∷ zs) f h = go (end_placed y z zs f h.1) (field_cmp f y) refl
  where
    go : end_of y (insert_key field_cmp (z ∷ zs) f) ≡ greater (end_of z zs) f → (r : Ordering) → field_cmp f y ≡ r
        → end_of x (match_ordering r (f ∷ y ∷ z ∷ zs) (y ∷ z ∷ zs) (y ∷ insert_key field_cmp (z ∷ zs) f)) ≡ greater (end_of z zs) f
    go ih Less e = kept_below (field_cmp f (end_of z zs)) (end_of z zs) f (below_end f y (z ∷ zs) e h)
    go ih Equal e = kept_below (field_cmp f (end_of z zs)) (end_of z zs) f (below_end f z zs (subst (λ w. field_cmp w z ≡ Less) (sym (field_strict.one f y e)) h.0.0) h.1)
    go ih Greater e = ih

-- the last of a list in order, with an item more
front_of_reversed : (l : List Field) (d : Field) → (l ≡ [] → ⊥) → front (reverse l) ≡ Some (end_of d l)
front_of_reversed [] d h = absurd (h refl)
front_of_reversed (y ∷ ys) d h = front_reversed ys y []

placed_some : (l : List Field) (f : Field) → insert_key field_cmp l f ≡ [] → ⊥
placed_some [] f e = cc
placed_some (y ∷ ys) f e = go (field_cmp f y) e
  where
    go : (r : Ordering) → match_ordering r (f ∷ y ∷ ys) (y ∷ ys) (y ∷ insert_key field_cmp ys f) ≡ [] → ⊥
    go Less e = cc
    go Equal e = cc
    go Greater e = cc

back_placed : (l : List Field) (f : Field) → Rises field_cmp l → greatest (front (reverse (insert_key field_cmp l f))) ≡ with_field (greatest (front (reverse l))) f
back_placed [] f h = refl
back_placed (y ∷ ys) f h =
    ap greatest (front_of_reversed (insert_key field_cmp (y ∷ ys) f) f (placed_some (y ∷ ys) f) ∙ ap Some (end_placed f y ys f h))
    ∙ ap (λ o. with_field (greatest o) f) (sym (front_reversed ys y []))

-- a field more
fold_more : (by : Folding) (fs : List Field) (f : Field) → fold_of by (fs ++ f ∷ []) ≡ with_field (fold_of by fs) f
fold_more Sum fs f = ap sum_of (total_more fs f)
fold_more Count fs f = ap count_of (total_more fs f)
fold_more Min fs f = ap (λ l. least (front l)) (ascending_more field_cmp field_strict fs f) ∙ front_placed (ascending field_cmp fs) f
fold_more Max fs f = ap (λ l. greatest (front (reverse l))) (ascending_more field_cmp field_strict fs f) ∙ back_placed (ascending field_cmp fs) f (rises_ascending field_cmp field_strict fs)

filled_end : {X : Type 0} (xs : List X) (x : X) → is_filled (xs ++ x ∷ []) ≡ true
filled_end [] x = refl
filled_end (y ∷ ys) x = refl

-- a row more
pub made_more : (by : Folding) (field : ℕ) (us : List Row) (r : Row) → made by field (us ++ r ∷ []) ≡ with_read (made by field us) (read_at by field r)
made_more by field us r =
    (λ i. record { fold = fold_of by (filter_map-append (λ u. good (read_at by field u)) us (r ∷ []) i); is_bad = is_filled (filter_map-append (λ u. bad u (read_at by field u)) us (r ∷ []) i) })
    ∙ go (read_at by field r)
  where
    go : (v : Result Field Kind) → record { fold = fold_of by (goods by field us ++ cons_option (good v) []); is_bad = is_filled (bads by field us ++ cons_option (bad r v) []) } ≡ with_read (made by field us) v
    go (Ok f) = λ i. record { fold = fold_more by (goods by field us) f i; is_bad = is_filled (append-nil (bads by field us) i) }
    go (Err k) = λ i. record { fold = fold_of by (append-nil (goods by field us) i); is_bad = filled_end (bads by field us) (fault k r) i }
