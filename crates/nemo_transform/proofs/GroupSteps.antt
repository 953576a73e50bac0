-- The steps of a loop that keeps a group for each key, and what its groups give.
use Rattle.std.proofs.Common.{◌≡◌, ◌∙◌, ℕ, ◌+◌, ◌<◌, ◌≤◌, refl, sym, ap, subst, List, [], ◌∷◌, ◌++◌, Bool, true, false, cond, map, length, get_or, take, append_assoc, Option, Some, None, Result, Ok, Err, Bor, arith}
use Rattle.std.specs.Prelude.{unwrap_or, slice_get}
use Rattle.std.specs.List.{filter_map, flat_map, cons_option}
use Rattle.std.specs.List.Sorted.{IsStrictlySortedBy}
use Rattle.std.specs.Map.{lookup}
use Rattle.std.specs.Option.{option_map}
use Rattle.std.specs.Ordering.{is_eq}
use Rattle.std.proofs.lemmas.List.{append-nil, map-append}
use Rattle.std.proofs.lemmas.List.Concat.{flat_map-append}
use Rattle.nemo_value.specs.Ascending.{ascending}
use Rattle.std.proofs.lemmas.List.Elements.{filter_map-append}
use Rattle.nemo_value.specs.Order.{field_cmp}
use Rattle.nemo_value.specs.declared.expr.Kind.{Kind}
use Rattle.nemo_value.specs.declared.field.Field.{Field}
use Rattle.nemo_value.proofs.AscendingLists.{Rises}
use Rattle.nemo_transform.specs.Folds.{KnownGroup, known, known_group, folding_of, with_read, why, size, start_of}
use Rattle.nemo_transform.specs.FirstField.{with_first}
use Rattle.nemo_transform.specs.Gives.{Row, keyless, read, answers, row_in, rows_in, fault_in, own_faults}
use Rattle.nemo_value.specs.Key.{first_key}
use Rattle.nemo_transform.specs.Groups.{goods, read_at, made, group_of, fault_read, fault_of, at_key, key_of, seen, answer_at}
use Rattle.nemo_transform.specs.FaultOrder.{fault_cmp}
use Rattle.nemo_transform.specs.declared.transform.Transform.TheVariants.{Reduce}
use Rattle.nemo_transform.specs.declared.fault.Fault.{Fault}
use Rattle.nemo_transform.specs.declared.grouping.Group.{Group}
use Rattle.nemo_transform.specs.declared.transform.Folding.{Folding}
use Rattle.nemo_transform.proofs.ApartLists.{strictly_rises}
use Rattle.nemo_transform.proofs.FoldSteps.{made_nothing, made_more, folding_of_fold}
use Rattle.nemo_transform.proofs.GroupEntries.{grouped, entries_are, seen_lookup, seen_keys}
use Rattle.nemo_transform.proofs.Keeping.{take_item}
use Rattle.nemo_transform.proofs.ReduceAnswers.{rows_from_groups, faults_from_groups}
use Rattle.nemo_transform.proofs.RowsByKey.{with_first-more}

-- a group that isn't further than n from 0
abbrev pub small_in : ℕ → Option Group → Type 0
small_in n None = Unit {0}
small_in n (Some g) = size g.fold ≤ n

-- what stands at a key is the group of the rows `us`
pub record Kept (by : Folding) (field : ℕ) (us : List Row) (n : ℕ) (o : Option Group) : Type 0 where
  pub known : option_map known_group o ≡ group_of by field us
  pub small : small_in n o

small_more : (n m : ℕ) (o : Option Group) → n ≤ m → small_in n o → small_in m o
small_more n m None l s = tt
small_more n m (Some g) l s = omega arith

group_end : (by : Folding) (field : ℕ) (us : List Row) (r : Row) → group_of by field (us ++ r ∷ []) ≡ Some (made by field (us ++ r ∷ []))
group_end by field [] r = refl
group_end by field (u ∷ us) r = refl

module _ (by : Folding) (field : ℕ) (us : List Row) (n : ℕ) (start old : Group) (o : Option Group) (e : old ≡ unwrap_or o start) (s : known_group start ≡ start_of by) (kept : Kept by field us n o) where
  -- what stood at the key of the row
  was : known_group old ≡ made by field us
  was = ap known_group e ∙ go o us kept.known
    where
      go : (p : Option Group) (vs : List Row) → option_map known_group p ≡ group_of by field vs → known_group (unwrap_or p start) ≡ made by field vs
      go None [] h = s ∙ sym (made_nothing by field)
      go None (v ∷ vs) h = absurd (cc)
      go (Some g) [] h = absurd (cc)
      go (Some g) (v ∷ vs) h = cc

  pub folding_stays : folding_of (known old.fold) ≡ by
  folding_stays = ap (λ (g : KnownGroup). folding_of g.fold) was ∙ folding_of_fold by (goods by field us)

  pub old_small : size start.fold ≤ n → size old.fold ≤ n
  old_small z = let same : size old.fold ≡ size (unwrap_or o start).fold = ap (λ g. size g.fold) e in omega (arith, same, go o kept.small)
    where
      go : (p : Option Group) → small_in n p → size (unwrap_or p start).fold ≤ n
      go None h = z
      go (Some g) h = h

  new_made : (r : Row) (new : Group) → known_group new ≡ with_read (known_group old) (read (folding_of (known old.fold)) (slice_get r field)) → known_group new ≡ made by field (us ++ r ∷ [])
  new_made r new w = w ∙ (λ j. with_read (was j) (read (folding_stays j) (slice_get r field))) ∙ sym (made_more by field us r)

-- what stands at each key, with a row more
pub kept_more : (by : Folding) (field : ℕ) (rows : List Row) (i : ℕ) (r : Row) (k q : Field) (start old new : Group) (look : Field → Option Group) (now : Option Group) (n m : ℕ)
    → i < length rows → r ≡ get_or rows i r → slice_get r 0 ≡ Some k
    → ((p : Field) → Kept by field (with_first p (take i rows)) n (look p)) → old ≡ unwrap_or (look k) start → known_group start ≡ start_of by
    → known_group new ≡ with_read (known_group old) (read (folding_of (known old.fold)) (slice_get r field)) → size new.fold ≤ m → n ≤ m
    → now ≡ cond (is_eq (field_cmp k q)) (Some new) (look q) → Kept by field (with_first q (take (i + 1) rows)) m now
kept_more by field rows i r k q start old new look now n m within is at h e s w z l a =
    let after = go (is_eq (field_cmp k q)) in
    record { known = ap (option_map known_group) a ∙ after.known ∙ ap (group_of by field) (sym (with_first-more q k r rows i within is at)); small = subst (small_in m) (sym a) after.small }
  where
    go : (b : Bool) → Kept by field (cond b (with_first k (take i rows) ++ r ∷ []) (with_first q (take i rows))) m (cond b (Some new) (look q))
    go true = record { known = ap Some (new_made by field (with_first k (take i rows)) n start old (look k) e s (h k) r new w) ∙ sym (group_end by field (with_first k (take i rows)) r); small = z }
    go false = record { known = (h q).known; small = small_more n m (look q) l (h q).small }

---- the faults of bad rows

abbrev pub fault_with : Row → Option Kind → Option Fault
fault_with r w = option_map (λ k. record { kind = k; rec = r }) w

fault_why : (r : Row) (v : Result Field Kind) → fault_read r v ≡ fault_with r (why v)
fault_why r (Ok f) = refl
fault_why r (Err k) = refl

-- the faults of bad rows, with a row more
pub bad_more : (by : Folding) (field : ℕ) (rows : List Row) (i : ℕ) (r : Row) (before fs : List Fault) (of : Folding) (w : Option Kind) → i < length rows → r ≡ get_or rows i r → of ≡ by
    → w ≡ why (read of (slice_get r field)) → fs ≡ before ++ filter_map (fault_of by field) (take i rows) → fs ++ cons_option (fault_with r w) [] ≡ before ++ filter_map (fault_of by field) (take (i + 1) rows)
bad_more by field rows i r before fs of w h e b we f =
    (λ j. f j ++ cons_option (fault_with r ((we ∙ ap (λ x. why (read x (slice_get r field))) b) j)) [])
    ∙ append_assoc before (filter_map (fault_of by field) (take i rows)) (cons_option (fault_with r (why (read_at by field r))) [])
    ∙ ap (λ l. before ++ l)
    (ap (λ o. filter_map (fault_of by field) (take i rows) ++ cons_option o []) (sym (fault_why r (read_at by field r)))
    ∙ sym (filter_map-append (fault_of by field) (take i rows) (r ∷ []))
    ∙ ap (filter_map (fault_of by field)) (sym (take_item rows i r h e)))

pub fault_pushed : (fs more : List Fault) (r rec : Row) (k : Kind) (w : Option Kind) → w ≡ Some k → rec ≡ r → more ≡ fs ++ record { kind = k; rec = rec } ∷ [] → more ≡ fs ++ cons_option (fault_with r w) []
fault_pushed fs more r rec k w e same m = m ∙ (λ j. fs ++ record { kind = k; rec = same j } ∷ []) ∙ ap (λ o. fs ++ cons_option (fault_with r o) []) (sym e)

pub none_pushed : (fs : List Fault) (r : Row) (w : Option Kind) → w ≡ None → fs ≡ fs ++ cons_option (fault_with r w) []
none_pushed fs r w e = sym (append-nil fs) ∙ ap (λ o. fs ++ cons_option (fault_with r o) []) (sym e)

---- what the groups give

module _ (by : Folding) (field : ℕ) (rows : List Row) (es : List (Bor Field × Group)) (look : Field → Option Group) (order : IsStrictlySortedBy field_cmp (map key_of es)) (same : (k : Field) → lookup (at_key k) es ≡ look k)
    (h : (k : Field) → option_map known_group (look k) ≡ group_of by field (with_first k rows)) (keyed : keyless first_key rows ≡ []) where
  all_seen : map seen es ≡ grouped by field rows
  all_seen =
      entries_are by field rows (map seen es) (subst (Rises field_cmp) (sym (seen_keys es)) (strictly_rises field_cmp (map key_of es) order))
      (λ k. seen_lookup k es ∙ ap (option_map known_group) (same k) ∙ h k)

  pub all_rows : rows_in (flat_map answer_at (map seen es)) ≡ rows_in (answers (Reduce by field) rows [])
  all_rows = ap (λ entries. rows_in (flat_map answer_at entries)) all_seen ∙ rows_from_groups by field rows keyed

  pub all_faults : (none bad all : List Fault) → none ≡ [] → bad ≡ none ++ filter_map (fault_of by field) rows → all ≡ bad ++ filter_map fault_in (flat_map answer_at (map seen es))
      → ascending fault_cmp all ≡ own_faults (answers (Reduce by field) rows [])
  all_faults none bad all z b a =
      ap (ascending fault_cmp) (a ∙ (λ j. (b ∙ ap (λ l. l ++ filter_map (fault_of by field) rows) z) j ++ filter_map fault_in (flat_map answer_at (all_seen j))))
      ∙ faults_from_groups by field rows keyed

---- the answers of the keys, one entry after another

module _ (es : List (Bor Field × Group)) (i : ℕ) (e : Bor Field × Group) (within : i < length es) (is : e ≡ get_or es i e) where
  one_more : flat_map answer_at (map seen (take (i + 1) es)) ≡ flat_map answer_at (map seen (take i es)) ++ answer_at (seen e)
  one_more =
      ap (λ l. flat_map answer_at (map seen l)) (take_item es i e within is) ∙ ap (flat_map answer_at) (map-append seen (take i es) (e ∷ [])) ∙ flat_map-append answer_at (map seen (take i es)) (seen e ∷ [])
      ∙ ap (λ l. flat_map answer_at (map seen (take i es)) ++ l) (append-nil (answer_at (seen e)))

  pub given_more : (rows after : List Row) → after ≡ rows ++ rows_in (answer_at (seen e)) → rows ≡ rows_in (flat_map answer_at (map seen (take i es))) → after ≡ rows_in (flat_map answer_at (map seen (take (i + 1) es)))
  given_more rows after a h = a ∙ ap (λ l. l ++ rows_in (answer_at (seen e))) h ∙ sym (ap rows_in one_more ∙ filter_map-append row_in (flat_map answer_at (map seen (take i es))) (answer_at (seen e)))

  pub faults_more : (before fs after : List Fault) → after ≡ fs ++ filter_map fault_in (answer_at (seen e)) → fs ≡ before ++ filter_map fault_in (flat_map answer_at (map seen (take i es)))
      → after ≡ before ++ filter_map fault_in (flat_map answer_at (map seen (take (i + 1) es)))
  faults_more before fs after a h =
      a ∙ ap (λ l. l ++ filter_map fault_in (answer_at (seen e))) h ∙ append_assoc before (filter_map fault_in (flat_map answer_at (map seen (take i es)))) (filter_map fault_in (answer_at (seen e)))
      ∙ ap (λ l. before ++ l) (sym (ap (filter_map fault_in) one_more ∙ filter_map-append fault_in (flat_map answer_at (map seen (take i es))) (answer_at (seen e))))
