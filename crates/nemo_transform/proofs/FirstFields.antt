-- Rows that all have a first field: what is given by the key list of that field alone.
use Rattle.std.proofs.Common.{◌≡◌, ◌∙◌, refl, ap, ℕ, suc, ◌+◌, ◌<◌, ◌==◌, arith, false, List, [], ◌∷◌, ◌++◌, cond, map, length, get_or, take, drop, Some, Ordering, Result}
use Rattle.std.specs.Prelude.{◌||◌}
use Rattle.std.proofs.lemmas.Bool.Decides.{nat_tests}
use Rattle.std.specs.BTreeSet.{insert_key}
use Rattle.std.specs.List.{cons_option, filter_map, flat_map, slice_get}
use Rattle.std.specs.Ordering.{is_eq, match_ordering, ordering_then}
use Rattle.std.specs.declared.cmp.Ordering.TheVariants.{Less, Equal, Greater}
use Rattle.std.proofs.lemmas.List.Elements.{filter_map-append}
use Rattle.nemo_value.specs.Ascending.{ascending}
use Rattle.nemo_value.specs.Order.{field_cmp, record_cmp}
use Rattle.nemo_value.specs.declared.expr.Kind.{Kind}
use Rattle.nemo_value.specs.declared.field.Field.{Field}
use Rattle.nemo_value.proofs.JoinedLists.{flat_over_map, flat_same}
use Rattle.nemo_transform.specs.FirstField.{firsts, has_first, key, side_by_side, with_first}
use Rattle.nemo_transform.specs.Gives.{Answer, Row, by_key, fault_without, fitting, is_key, joined, keyless, keys, of_key, pair, pairs_at, unnamed, unnamed_from, with_key}
use Rattle.nemo_value.specs.Key.{first_key, key_by}
use Rattle.nemo_transform.proofs.Keeping.{take_item}

abbrev pub single : Field → List Field
single f = f ∷ []

key_by_first : (row : Row) (f : Field) → slice_get row 0 ≡ Some f → key_by first_key row ≡ Some (single f)
key_by_first [] f e = absurd (cc)
key_by_first (g ∷ gs) f e = let same : g ≡ f = cc in ap (λ x. Some (single x)) same

-- a row more that has a key
pub keyless_more : (rows : List Row) (i : ℕ) (r : Row) (k : Field) → i < length rows → r ≡ get_or rows i r → slice_get r 0 ≡ Some k → keyless first_key (take i rows) ≡ [] → keyless first_key (take (i + 1) rows) ≡ []
keyless_more rows i r k within is at e =
    ap (keyless first_key) (take_item rows i r within is) ∙ filter_map-append (λ s. fault_without s (key_by first_key s)) (take i rows) (r ∷ [])
    ∙ (λ j. e j ++ cons_option (fault_without r (key_by_first r k at j)) [])

-- the key of the first of rows that all have one
first_keyed : (r : Row) (rows : List Row) → keyless first_key (r ∷ rows) ≡ [] → (key_by first_key r ≡ Some (single (key r))) × (keyless first_key rows ≡ [])
first_keyed [] rows h = absurd (cc)
first_keyed (f ∷ fs) rows h = (refl, h)

---- the keys

chosen_keys : (rows : List Row) → keyless first_key rows ≡ [] → filter_map (key_by first_key) rows ≡ map single (map key rows)
chosen_keys [] h = refl
chosen_keys (r ∷ rows) h =
    let s = first_keyed r rows h in ap (λ o. cons_option o (filter_map (key_by first_key) rows)) s.0 ∙ ap (λ l. single (key r) ∷ l) (chosen_keys rows s.1)

placed : (f : Field) (l : List Field) → insert_key record_cmp (map single l) (single f) ≡ map single (insert_key field_cmp l f)
placed f [] = refl
placed f (g ∷ l) = go (field_cmp f g) (placed f l)
  where
    go : (r : Ordering) → insert_key record_cmp (map single l) (single f) ≡ map single (insert_key field_cmp l f)
        → match_ordering (ordering_then r Equal) (single f ∷ single g ∷ map single l) (single g ∷ map single l) (single g ∷ insert_key record_cmp (map single l) (single f)) ≡ map single (match_ordering r (f ∷ g ∷ l) (g ∷ l) (g ∷ insert_key field_cmp l f))
    go Less ih = refl
    go Equal ih = refl
    go Greater ih = ap (λ m. single g ∷ m) ih

all_placed : (fs : List Field) → ascending record_cmp (map single fs) ≡ map single (ascending field_cmp fs)
all_placed [] = refl
all_placed (f ∷ fs) = ap (λ l. insert_key record_cmp l (single f)) (all_placed fs) ∙ placed f (ascending field_cmp fs)

keys_are_firsts : (rows : List Row) → keyless first_key rows ≡ [] → keys first_key rows ≡ map single (firsts rows)
keys_are_firsts rows h = ap (ascending record_cmp) (chosen_keys rows h) ∙ all_placed (map key rows)

same_test : (r : Ordering) → is_eq (ordering_then r Equal) ≡ is_eq r
same_test Less = refl
same_test Equal = refl
same_test Greater = refl

with_key_is : (k : Field) (rows : List Row) → keyless first_key rows ≡ [] → with_key first_key (single k) rows ≡ with_first k rows
with_key_is k [] h = refl
with_key_is k (r ∷ rows) h =
    let s = first_keyed r rows h in
    let test : is_key (single k) (key_by first_key r) ≡ has_first k r = ap (is_key (single k)) s.0 ∙ same_test (field_cmp (key r) k) in
    let rest = with_key_is k rows s.1 in
    λ j. cond (test j) (r ∷ rest j) (rest j)

---- what is given

pub by_first : {X : Type 0} (reads : Row → Result X Kind) (gives : List Field → List X → List Answer) (rows : List Row) → keyless first_key rows ≡ []
    → by_key first_key reads gives rows ≡ flat_map (λ k. of_key reads gives (single k) (with_first k rows)) (firsts rows)
by_first reads gives rows h =
    let each = λ (k : List Field). of_key reads gives k (with_key first_key k rows) in
    (λ j. h j ++ flat_map each (keys_are_firsts rows h j)) ∙ flat_over_map each single (firsts rows)
    ∙ flat_same (λ k. each (single k)) (λ k. of_key reads gives (single k) (with_first k rows)) (firsts rows) (λ k. ap (of_key reads gives (single k)) (with_key_is k rows h))

all_stay : (n : ℕ) (fs : Row) → unnamed_from (suc n) first_key fs ≡ fs
all_stay n [] = refl
all_stay n (f ∷ fs) =
    let later : (0 == suc n) ≡ false = grind (arith, nat_tests) in
    ap (λ b. cond (b || false) (unnamed_from (suc (suc n)) first_key fs) (f ∷ unnamed_from (suc (suc n)) first_key fs)) later ∙ ap (λ l. f ∷ l) (all_stay (suc n) fs)

first_unnamed : (r : Row) → unnamed first_key r ≡ drop 1 r
first_unnamed [] = refl
first_unnamed (f ∷ fs) = all_stay 0 fs

pair_is : (l r : Row) → pair first_key l r ≡ side_by_side l r
pair_is l r = ap (λ m. fitting l (l ++ m)) (first_unnamed r)

pub joined_is : (right : List Row) (l : Row) (k : Field) → keyless first_key right ≡ [] → slice_get l 0 ≡ Some k → joined first_key first_key right l ≡ map (side_by_side l) (with_first k right)
joined_is right l k h at =
    ap (pairs_at first_key right l) (key_by_first l k at) ∙ (λ j. map (λ r. pair_is l r j) (with_key_is k right h j))
