-- Sinks whose names differ, by name.
use Rattle.std.proofs.Common.{◌≡◌, ◌∙◌, refl, sym, ap, ℕ, List, [], ◌∷◌, map, Bool, true, false, not, ◌&&◌, ◌||◌, cond, Ordering}
use Rattle.std.proofs.lemmas.Map.Text.{is_eq-slice_cmp}
use Rattle.std.specs.Cmp.{IsTotalOrder, nat_cmp_total, on_total, partial_order_from_total, then_agrees, then_po, total}
use Rattle.std.specs.Cmp.Lexicographic.{lists_total, nat_list_eq_equiv, slice_cmp}
use Rattle.std.specs.FinMap.{IsAntisymmetric, nat_cmp-IsAntisymmetric, slice_cmp-IsAntisymmetric}
use Rattle.std.specs.List.{list_any}
use Rattle.std.specs.List.Sorted.{IsPermutation, IsSorted}
use Rattle.std.specs.Ordering.{is_eq, is_lt, ordering_then}
use Rattle.std.specs.declared.cmp.Ordering.TheVariants.{Less, Equal, Greater}
use Rattle.nemo_value.proofs.Perm.{Perm, none, keep, swap, then, from_std}
use Rattle.nemo_value.proofs.RecordOrder.{record_strict}
use Rattle.nemo_value.proofs.SortedLists.{Ascends, IsStrict, ascends_sorted, sorted_ascends, sorted_moves, sorted_only}
use Rattle.nemo_value.specs.Order.{record_cmp, text_cmp}
use Rattle.nemo_value.specs.Sorting.{placed, sorted}
use Rattle.nemo_value.specs.Texts.{same_text, all_new}
use Rattle.nemo_value.specs.declared.record.SinkRows.{SinkRows}
use Rattle.nemo_value.specs.SinkOrder.{by_name}
use Rattle.nemo_transform.proofs.FaultOrders.{first_ties, second_ties}

-- by name, and then by rows: sinks that tie are equal
sink_cmp : SinkRows → SinkRows → Ordering
sink_cmp a b = ordering_then (text_cmp a.name b.name) (slice_cmp record_cmp a.rows b.rows)

sink_total : IsTotalOrder sink_cmp
unfolding sink_cmp
sink_total =
    total (then_po (partial_order_from_total (on_total (λ (s : SinkRows). s.name) (lists_total nat_cmp_total))) (partial_order_from_total (on_total (λ (s : SinkRows). s.rows) (lists_total record_strict.total))))
    (then_agrees (λ a b. refl) (λ a b. refl))

sink_one : IsAntisymmetric sink_cmp
unfolding sink_cmp
sink_one a b h =
    let names : a.name ≡ b.name = slice_cmp-IsAntisymmetric nat_cmp-IsAntisymmetric a.name b.name (first_ties (text_cmp a.name b.name) (slice_cmp record_cmp a.rows b.rows) h) in
    let rows : a.rows ≡ b.rows = slice_cmp-IsAntisymmetric record_strict.one a.rows b.rows (second_ties (text_cmp a.name b.name) (slice_cmp record_cmp a.rows b.rows) h) in
    λ i. record { name = names i; rows = rows i }

sink_strict : IsStrict sink_cmp
sink_strict = record { total = sink_total; one = sink_one }

---- names that differ

-- no name of a list is this one
abbrev pub Unlike : SinkRows → List SinkRows → Type 0
Unlike s [] = Unit {0}
Unlike s (x ∷ xs) = (same_text x.name s.name ≡ false) × Unlike s xs

abbrev pub Different : List SinkRows → Type 0
Different [] = Unit {0}
Different (x ∷ xs) = Unlike x xs × Different xs

new_first : (b c : Bool) → (not b && c) ≡ true → (b ≡ false) × (c ≡ true)
new_first true c h = cc
new_first false c h = (refl, h)

never : (b c : Bool) → (b ≡ true → c ≡ true) → c ≡ false → b ≡ false
never true c f h = sym (f refl) ∙ h
never false c f h = refl

or_second : (b c : Bool) → c ≡ true → (b || c) ≡ true
or_second true c h = refl
or_second false c h = h

or_first : (b c : Bool) → b ≡ true → (b || c) ≡ true
or_first true c h = refl
or_first false c h = cc

unlike_seen : (s : SinkRows) (seen : List (List ℕ)) (xs : List SinkRows) → ((q : List ℕ) → same_text q s.name ≡ true → list_any (same_text q) seen ≡ true) → all_new seen (map (λ x. x.name) xs) ≡ true → Unlike s xs
unlike_seen s seen [] has h = tt
unlike_seen s seen (x ∷ xs) has h =
    let parts = new_first (list_any (same_text x.name) seen) (all_new (x.name ∷ seen) (map (λ y. y.name) xs)) h in (
      never (same_text x.name s.name) (list_any (same_text x.name) seen) (has x.name) parts.0,
      unlike_seen s (x.name ∷ seen) xs (λ q same. or_second (same_text q x.name) (list_any (same_text q) seen) (has q same)) parts.1,
    )

all_different : (seen : List (List ℕ)) (xs : List SinkRows) → all_new seen (map (λ x. x.name) xs) ≡ true → Different xs
all_different seen [] h = tt
all_different seen (x ∷ xs) h =
    let parts = new_first (list_any (same_text x.name) seen) (all_new (x.name ∷ seen) (map (λ y. y.name) xs)) h in
    (unlike_seen x (x.name ∷ seen) xs (λ q same. or_first (same_text q x.name) (list_any (same_text q) seen) same) parts.1, all_different (x.name ∷ seen) xs parts.1)

unlike_moved : (s : SinkRows) {xs ys : List SinkRows} → Perm xs ys → Unlike s xs → Unlike s ys
unlike_moved s none h = h
unlike_moved s (keep x p) h = (h.0, unlike_moved s p h.1)
unlike_moved s (swap x y l) h = (h.1.0, (h.0, h.1.1))
unlike_moved s (then p q) h = unlike_moved s q (unlike_moved s p h)

different_moved : {xs ys : List SinkRows} → Perm xs ys → Different xs → Different ys
different_moved none h = h
different_moved (keep x p) h = (unlike_moved x p h.0, different_moved p h.1)
different_moved (swap x y l) h = ((nat_list_eq_equiv.symm x.name y.name ∙ h.0.0, h.1.0), (h.0.1, h.1.1))
different_moved (then p q) h = different_moved q (different_moved p h)

---- either order puts them alike

lt_alike : (y x : SinkRows) → same_text y.name x.name ≡ false → is_lt (sink_cmp y x) ≡ is_lt (by_name y x)
unfolding sink_cmp
lt_alike y x apart = go (text_cmp y.name x.name) (is_eq-slice_cmp y.name x.name ∙ apart)
  where
    go : (r : Ordering) → is_eq r ≡ false → is_lt (ordering_then r (slice_cmp record_cmp y.rows x.rows)) ≡ is_lt r
    go Less h = refl
    go Equal h = cc
    go Greater h = refl

placed_alike : (x : SinkRows) (l : List SinkRows) → Unlike x l → placed sink_cmp x l ≡ placed by_name x l
placed_alike x [] h = refl
placed_alike x (y ∷ ys) h = λ i. cond (lt_alike y x h.0 i) (y ∷ placed_alike x ys h.1 i) (x ∷ y ∷ ys)

sorted_alike : (xs : List SinkRows) → Different xs → sorted sink_cmp xs ≡ sorted by_name xs
sorted_alike [] h = refl
sorted_alike (x ∷ xs) h = ap (placed sink_cmp x) (sorted_alike xs h.1) ∙ placed_alike x (sorted by_name xs) (unlike_moved x (sorted_moves by_name xs) h.0)

ascends_alike : (xs : List SinkRows) → Different xs → Ascends by_name xs → Ascends sink_cmp xs
ascends_alike [] h a = tt
ascends_alike (x ∷ []) h a = (tt, tt)
ascends_alike (x ∷ y ∷ ys) h a = (lt_alike y x h.0.0 ∙ a.0, ascends_alike (y ∷ ys) h.1 a.1)

-- a list with the same sinks in order by name is the sorted one
pub only_by_name : (xs ys : List SinkRows) → all_new [] (map (λ s. s.name) xs) ≡ true → IsPermutation xs ys → IsSorted by_name ys → ys ≡ sorted by_name xs
only_by_name xs ys new moved order =
    let here = all_different [] xs new in
    let there = different_moved (from_std xs ys moved) here in
    sorted_only sink_cmp sink_strict xs ys moved (ascends_sorted sink_cmp ys (ascends_alike ys there (sorted_ascends by_name ys order)))
    ∙ sorted_alike xs here
