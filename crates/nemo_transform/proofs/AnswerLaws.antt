-- The laws of what transforms give, of the answers as they stand: rows and faults in one list.
use Rattle.std.proofs.Common.{◌≡◌, ◌∙◌, refl, sym, ap, ℕ, zero, suc, ◌<◌, ◌==◌, ◌++◌, List, [], ◌∷◌, Bool, true, false, map, Option, Some, None, Result, Ok}
use Rattle.std.specs.Prelude.{◌+ℤ◌, replicate, reverse, slice_get}
use Rattle.std.specs.List.{cons_option, filter, filter_map, flat_map, list_all, list_any}
use Rattle.std.proofs.lemmas.List.Concat.{flat_map_single}
use Rattle.std.proofs.lemmas.List.Elements.{filter_map-append}
use lib.IntN.{+ℤ_assoc, +ℤ_comm}
use Rattle.nemo_value.specs.Ascending.{ascending}
use Rattle.nemo_value.specs.Counted.{below}
use Rattle.nemo_value.specs.Order.{field_cmp, record_cmp}
use Rattle.nemo_value.specs.Val.{val}
use Rattle.nemo_value.specs.declared.expr.Kind.{Kind}
use Rattle.nemo_value.specs.declared.field.Field.{Field}
use Rattle.nemo_value.proofs.AscendingLists.{ascending_perm}
use Rattle.nemo_value.proofs.AscendingParts.{ascending_filter}
use Rattle.nemo_value.proofs.JoinedLists.{chosen_flat, flat_flat, flat_same, map_flat}
use Rattle.nemo_value.proofs.MemberLists.{chosen_in, in_chosen, same_append, same_each, same_is, same_perm, same_then}
use Rattle.nemo_value.proofs.Members.{SameMembers, members_back}
use Rattle.nemo_value.proofs.Perm.{Perm, back, keep, none, swap, then}
use Rattle.nemo_value.proofs.Permuted.{apart, chosen, is, mapped, not_empty, through}
use Rattle.nemo_value.proofs.RecordOrder.{field_strict, record_strict}
use Rattle.nemo_value.proofs.Split.{split_flat}
use Rattle.nemo_transform.specs.Gives.{Answer, Row, alone, answers, bad, emitted, fault_in, fault_without, first_of, folded, good, joined, keyless, number, of_key, read, row_in, row_of, rows_in, rows_or, summed, total, unless, where_so, words_in}
use Rattle.nemo_value.specs.Key.{first_key, key_by}
use Rattle.nemo_transform.specs.Laws.{MeetByKey, chained, is_source, meets, share}
use Rattle.nemo_transform.specs.Ports.{Main, is_keyed, is_main, kinds_of}
use Rattle.nemo_transform.specs.declared.transform.Folding.{Folding}
use Rattle.nemo_transform.specs.declared.transform.Folding.TheVariants.{Count, Max, Min, Sum}
use Rattle.nemo_transform.specs.declared.transform.Transform.{Transform}
use Rattle.nemo_transform.specs.declared.transform.Transform.TheVariants.{Distinct, Emit, Filter, Join, Map, Reduce, SideJoin, Sink, Source, Union, Words}
use Rattle.nemo_transform.proofs.LawsByKey.{by_key_order, by_key_split, join_order, join_split}
use Rattle.nemo_transform.proofs.SameGiven.{SameRows, rows_same}

abbrev ok : Row → Answer
ok r = Ok r

-- Main rows alone: lists joined give what each gives, joined
pub row_answers : (t : Transform) (lists : List (List Row)) (second : List Row) → list_all is_main (kinds_of t) ≡ true → is_source t ≡ false → answers t (chained lists) second ≡ flat_map (λ l. answers t l second) lists
row_answers (Source rows) lists second k s = cc
row_answers (Map out) lists second k s = flat_flat (λ r. rows_or r (alone (row_of out r))) (λ l. l) lists
row_answers (Filter c) lists second k s = flat_flat (λ r. rows_or r (where_so (val c r) (Ok (r ∷ [])))) (λ l. l) lists
row_answers (Emit outs) lists second k s = flat_flat (λ r. rows_or r (emitted outs r)) (λ l. l) lists
row_answers (Words field) lists second k s = flat_flat (λ r. rows_or r (words_in (slice_get r field))) (λ l. l) lists
row_answers (Union ports) lists second k s = map_flat ok (λ l. l) lists
row_answers (Reduce by field) lists second k s = cc
row_answers Distinct lists second k s = cc
row_answers Join lists second k s = cc
row_answers SideJoin lists second k s = cc
row_answers (Sink name) lists second k s = map_flat ok (λ l. l) lists

-- faults in front of each list's answers, as a set
module _ (same : List Answer) (f : Row → List Answer) (rowless : rows_in same ≡ []) where
  behind_faults : (rest : List Answer) → rows_in (same ++ rest) ≡ rows_in rest
  behind_faults rest = filter_map-append row_in same rest ∙ ap (λ l. l ++ rows_in rest) rowless

  side_rows : (lists : List (List Row)) → rows_in (same ++ flat_map f (chained lists)) ≡ rows_in (flat_map (λ l. same ++ flat_map f l) lists)
  side_rows lists =
      behind_faults (flat_map f (chained lists)) ∙ ap rows_in (flat_flat f (λ l. l) lists) ∙ chosen_flat row_in (flat_map f) lists
      ∙ sym (flat_same (λ l. rows_in (same ++ flat_map f l)) (λ l. rows_in (flat_map f l)) lists (λ l. behind_faults (flat_map f l))) ∙ sym (chosen_flat row_in (λ l. same ++ flat_map f l) lists)

  side_faults : (list : List Row) (lists : List (List Row)) → SameMembers (same ++ flat_map f (chained (list ∷ lists))) (flat_map (λ l. same ++ flat_map f l) (list ∷ lists))
  side_faults list lists =
      members_back (same_then (same_perm (apart (λ l. same) (flat_map f) (list ∷ lists)))
      (same_append (same_each (λ l. same) same list lists (λ l. same_is refl)) (same_is (sym (flat_flat f (λ l. l) (list ∷ lists))))))

-- the members of two lists of answers choose the same
same_chosen : {B : Type 0} (h : Answer → Option B) {xs ys : List Answer} → SameMembers xs ys → SameMembers (filter_map h xs) (filter_map h ys)
same_chosen h {xs} {ys} s = record {
  members = λ z. (
    λ m. let x = in_chosen h z xs m in chosen_in h z x.0 ys ((s.members x.0).0 x.1) x.2,
    λ m. let y = in_chosen h z ys m in chosen_in h z y.0 xs ((s.members y.0).1 y.1) y.2,
  );
}

-- rows without a key give no rows
keyless_rows : (names : List ℕ) (rows : List Row) → rows_in (keyless names rows) ≡ []
keyless_rows names [] = refl
keyless_rows names (r ∷ rows) = go (key_by names r) (keyless_rows names rows)
  where
    go : (o : Option (List Field)) → rows_in (keyless names rows) ≡ [] → rows_in (cons_option (fault_without r o) (keyless names rows)) ≡ []
    go None e = e
    go (Some k) e = e

pub main_all : (m : ℕ) → list_all is_main (replicate m Main) ≡ true
main_all zero = refl
main_all (suc m) = main_all m

-- the same where a Side port brings the same each time, of one list or more
pub row_same : (t : Transform) (list : List Row) (lists : List (List Row)) (second : List Row) → meets t ≡ false → is_source t ≡ false
    → SameRows (answers t (chained (list ∷ lists)) second) (flat_map (λ l. answers t l second) (list ∷ lists))
row_same (Source rows) list lists second k s = cc
row_same (Map out) list lists second k s = rows_same (row_answers (Map out) (list ∷ lists) second refl refl)
row_same (Filter c) list lists second k s = rows_same (row_answers (Filter c) (list ∷ lists) second refl refl)
row_same (Emit outs) list lists second k s = rows_same (row_answers (Emit outs) (list ∷ lists) second refl refl)
row_same (Words field) list lists second k s = rows_same (row_answers (Words field) (list ∷ lists) second refl refl)
row_same (Union ports) list lists second k s = rows_same (row_answers (Union ports) (list ∷ lists) second (main_all ports) refl)
row_same (Reduce by field) list lists second k s = cc
row_same Distinct list lists second k s = cc
row_same Join list lists second k s = cc
row_same SideJoin list lists second k s =
    let same = keyless first_key second in
    let f = joined first_key first_key second in
    let rowless = keyless_rows first_key second in
    record { rows = side_rows same f rowless (list ∷ lists); faults = same_chosen fault_in (side_faults same f rowless list lists) }
row_same (Sink name) list lists second k s = rows_same (row_answers (Sink name) (list ∷ lists) second refl refl)

distinct_split : (task : Row → ℕ) (n : ℕ) (rows : List Row) → ((r : Row) → task r < n)
    → Perm (map ok (ascending record_cmp rows)) (flat_map (λ i. map ok (ascending record_cmp (share task i rows))) (below n))
distinct_split task n rows low =
    let at : ℕ → Row → Bool = λ i r. task r == i in
    let one : Row → List Answer = λ r. Ok r ∷ [] in
    then (is (sym (flat_map_single ok (ascending record_cmp rows))))
    (then (split_flat one task n (ascending record_cmp rows) (λ r m. low r))
    (is (flat_same (λ i. flat_map one (filter (at i) (ascending record_cmp rows))) (λ i. map ok (ascending record_cmp (share task i rows))) (below n)
    (λ i. flat_map_single ok (filter (at i) (ascending record_cmp rows)) ∙ ap (map ok) (sym (ascending_filter record_cmp record_strict (at i) rows))))))

main_meets : (n : ℕ) → list_any is_keyed (replicate n Main) ≡ false
main_meets zero = refl
main_meets (suc n) = main_meets n

pub key_answers : (t : Transform) (first_task second_task : Row → ℕ) (n : ℕ) (first second : List Row) → meets t ≡ true → MeetByKey t first_task second_task → ((r : Row) → first_task r < n) → ((r : Row) → second_task r < n)
    → Perm (answers t first second) (flat_map (λ i. answers t (share first_task i first) (share second_task i second)) (below n))
key_answers (Source rows) f s n first second h m low below_n = cc
key_answers (Map out) f s n first second h m low below_n = cc
key_answers (Filter c) f s n first second h m low below_n = cc
key_answers (Emit outs) f s n first second h m low below_n = cc
key_answers (Words field) f s n first second h m low below_n = cc
key_answers (Union ports) f s n first second h m low below_n = absurd (let e = main_meets ports in cc)
key_answers (Reduce by field) f s n first second h m low below_n = by_key_split n first_key (λ r. read by (slice_get r field)) (folded by) f first m.first low
key_answers Distinct f s n first second h m low below_n = distinct_split f n first low
key_answers Join f s n first second h m low below_n = join_split n first_key first_key f s m.both low below_n first second
key_answers SideJoin f s n first second h m low below_n = cc
key_answers (Sink name) f s n first second h m low below_n = cc

total_perm : {fs gs : List Field} → Perm fs gs → total fs ≡ total gs
total_perm none = refl
total_perm (keep f p) = ap (λ z. number f +ℤ z) (total_perm p)
total_perm (swap f g l) = sym (+ℤ_assoc (number f) (number g) (total l)) ∙ ap (λ z. z +ℤ total l) (+ℤ_comm (number f) (number g)) ∙ +ℤ_assoc (number g) (number f) (total l)
total_perm (then p q) = total_perm p ∙ total_perm q

folded_perm : (by : Folding) (k : List Field) {fs gs : List Field} → Perm fs gs → folded by k fs ≡ folded by k gs
folded_perm Sum k p = ap (summed k) (total_perm p)
folded_perm Count k p = ap (summed k) (total_perm p)
folded_perm Min k p = ap (first_of k) (ascending_perm field_cmp field_strict p)
folded_perm Max k p = ap (λ l. first_of k (reverse l)) (ascending_perm field_cmp field_strict p)

unless_perm : (us vs cs ds : List Answer) → Perm us vs → Perm cs ds → Perm (unless us cs) (unless vs ds)
unless_perm [] [] cs ds p q = q
unless_perm [] (v ∷ vs) cs ds p q = absurd (not_empty v vs p)
unless_perm (u ∷ us) [] cs ds p q = absurd (not_empty u us (back p))
unless_perm (u ∷ us) (v ∷ vs) cs ds p q = p

-- what is given of the rows of a key, where the order of what was read doesn't count
of_key_perm : {X : Type 0} (reads : Row → Result X Kind) (gives : List Field → List X → List Answer) → ((k : List Field) (fs gs : List X) → Perm fs gs → gives k fs ≡ gives k gs)
    → (k : List Field) (us vs : List Row) → Perm us vs → Perm (of_key reads gives k us) (of_key reads gives k vs)
of_key_perm reads gives respects k us vs p =
    let b = λ (r : Row). bad r (reads r) in
    let g = λ (r : Row). good (reads r) in
    unless_perm (filter_map b us) (filter_map b vs) (gives k (filter_map g us)) (gives k (filter_map g vs)) (chosen b p) (is (respects k (filter_map g us) (filter_map g vs) (chosen g p)))

pub order_answers : (t : Transform) (xs ys us vs : List Row) → is_source t ≡ false → Perm xs ys → Perm us vs → Perm (answers t xs us) (answers t ys vs)
order_answers (Source rows) xs ys us vs s p q = cc
order_answers (Map out) xs ys us vs s p q = mapped (λ r. rows_or r (alone (row_of out r))) p
order_answers (Filter c) xs ys us vs s p q = mapped (λ r. rows_or r (where_so (val c r) (Ok (r ∷ [])))) p
order_answers (Emit outs) xs ys us vs s p q = mapped (λ r. rows_or r (emitted outs r)) p
order_answers (Words field) xs ys us vs s p q = mapped (λ r. rows_or r (words_in (slice_get r field))) p
order_answers (Union ports) xs ys us vs s p q = through ok p
order_answers (Reduce by field) xs ys us vs s p q = by_key_order first_key (λ r. read by (slice_get r field)) (folded by) xs ys (of_key_perm (λ r. read by (slice_get r field)) (folded by) (λ k fs gs q. folded_perm by k q)) p
order_answers Distinct xs ys us vs s p q = is (ap (map ok) (ascending_perm record_cmp record_strict p))
order_answers Join xs ys us vs s p q = join_order first_key first_key xs ys us vs p q
order_answers SideJoin xs ys us vs s p q = join_order first_key first_key xs ys us vs p q
order_answers (Sink name) xs ys us vs s p q = through ok p
