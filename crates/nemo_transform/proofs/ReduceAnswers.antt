-- The answers of a reduce, from what is kept for each key.
use Rattle.std.proofs.Common.{◌≡◌, ◌∙◌, ℕ, ℤ, refl, sym, ap, List, [], ◌∷◌, ◌++◌, Bool, true, false, cond, map, inl, inr, Option, Some, Result, Ok, Err}
use Rattle.std.specs.Prelude.{◌↔◌, reverse}
use Rattle.std.specs.List.{filter_map, flat_map, cons_option}
use Rattle.std.proofs.lemmas.List.{append-nil}
use Rattle.nemo_value.specs.Ascending.{ascending}
use Rattle.nemo_value.specs.Order.{field_cmp}
use Rattle.nemo_value.specs.Val.{fits_i64}
use Rattle.nemo_value.specs.declared.expr.Kind.{Kind}
use Rattle.nemo_value.specs.declared.expr.Kind.TheVariants.{Overflow}
use Rattle.nemo_value.specs.declared.field.Field.{Field}
use Rattle.nemo_value.specs.declared.field.Field.TheVariants.{Int}
use Rattle.nemo_value.proofs.AscendingLists.{in_ascending}
use Rattle.nemo_value.proofs.Members.{In}
use Rattle.nemo_transform.specs.FaultOrder.{fault_cmp}
use Rattle.nemo_transform.specs.Folds.{value_in, number_in}
use Rattle.nemo_transform.specs.FirstField.{firsts, has_first, key, with_first}
use Rattle.nemo_transform.specs.Gives.{Row, Answer, fault, bad, total, is_filled, first_of, summed, folded, unless, keyless, of_key, answers, row_in, fault_in, rows_in, own_faults}
use Rattle.nemo_value.specs.Key.{first_key}
use Rattle.nemo_transform.specs.declared.transform.Folding.{Folding}
use Rattle.nemo_transform.specs.declared.transform.Folding.TheVariants.{Sum, Min, Max, Count}
use Rattle.nemo_transform.specs.declared.transform.Transform.TheVariants.{Reduce}
use Rattle.nemo_transform.proofs.FaultOrders.{fault_strict}
use Rattle.nemo_value.proofs.RecordOrder.{field_strict}
use Rattle.nemo_transform.specs.Groups.{front, fold_of, read_at, goods, bads, made, fault_read, fault_of, valued, answer_at}
use Rattle.nemo_value.proofs.AscendingParts.{ascending_same}
use Rattle.nemo_value.proofs.JoinedLists.{flat_same, flat_over_map, chosen_flat}
use Rattle.nemo_value.proofs.MemberLists.{either, in_map, in_flat, flat_in, in_chosen, chosen_in, in_filter, filter_in}
use Rattle.nemo_transform.proofs.FirstFields.{by_first}
use Rattle.nemo_transform.proofs.GroupEntries.{with_value, grouped, own_key}

summed_is : (k : Field) (z : ℤ) (b : Bool) → fits_i64 z ≡ b → summed (k ∷ []) z ≡ valued k (number_in z)
summed_is k z true e = ap (λ c. cond c (Ok (k ∷ Int z ∷ []) ∷ []) (fault Overflow (k ∷ []) ∷ [])) e ∙ sym (ap (λ c. valued k (cond c (Ok (Some (Int z))) (Err Overflow))) e)
summed_is k z false e = ap (λ c. cond c (Ok (k ∷ Int z ∷ []) ∷ []) (fault Overflow (k ∷ []) ∷ [])) e ∙ sym (ap (λ c. valued k (cond c (Ok (Some (Int z))) (Err Overflow))) e)

first_is : (k : Field) (l : List Field) → first_of (k ∷ []) l ≡ valued k (Ok (front l))
first_is k [] = refl
first_is k (v ∷ vs) = refl

folded_is : (by : Folding) (k : Field) (fs : List Field) → folded by (k ∷ []) fs ≡ valued k (value_in (fold_of by fs))
folded_is Sum k fs = summed_is k (total fs) (fits_i64 (total fs)) refl
folded_is Count k fs = summed_is k (total fs) (fits_i64 (total fs)) refl
folded_is Min k fs = first_is k (ascending field_cmp fs)
folded_is Max k fs = first_is k (reverse (ascending field_cmp fs))

-- what rows give key by key, they give all together
by_key_all : {B : Type 0} (h : Row → Option B) (more : Field → List B) (rows : List Row) (z : B)
    → In z (flat_map (λ k. filter_map h (with_first k rows) ++ more k) (firsts rows)) ↔ In z (filter_map h rows ++ flat_map more (firsts rows))
by_key_all h more rows z =
    let each = λ (k : Field). filter_map h (with_first k rows) ++ more k in (
      λ m. let s = in_flat each z (firsts rows) m in
          (either z (filter_map h rows) (flat_map more (firsts rows))).1 (elim ((either z (filter_map h (with_first s.0 rows)) (more s.0)).0 s.2) [
            | inl a ↦ (let r = in_chosen h z (with_first s.0 rows) a in inl (chosen_in h z r.0 rows (in_filter (has_first s.0) r.0 rows r.1) r.2))
            | inr b ↦ inr (flat_in more z s.0 (firsts rows) s.1 b)
          ]),
      λ m. elim ((either z (filter_map h rows) (flat_map more (firsts rows))).0 m) [
        | inl a ↦ (let r = in_chosen h z rows a in
            flat_in each z (key r.0) (firsts rows) ((in_ascending field_cmp field_strict (map key rows) (key r.0)).1 (in_map key r.0 rows r.1))
            ((either z (filter_map h (with_first (key r.0) rows)) (more (key r.0))).1 (inl (chosen_in h z r.0 (with_first (key r.0) rows) (filter_in (has_first (key r.0)) r.0 rows r.1 (own_key r.0)) r.2))))
        | inr b ↦ (let s = in_flat more z (firsts rows) b in flat_in each z s.0 (firsts rows) s.1 ((either z (filter_map h (with_first s.0 rows)) (more s.0)).1 (inr s.2)))
      ],
    )

---- the answers of a key

module _ (by : Folding) (field : ℕ) where
  abbrev reduced : Field → List Row → List Answer
  reduced k us = of_key (read_at by field) (folded by) (k ∷ []) us

  no_rows_bad : (us : List Row) → filter_map row_in (bads by field us) ≡ []
  no_rows_bad [] = refl
  no_rows_bad (r ∷ us) = go (read_at by field r) (no_rows_bad us)
    where
      go : (v : Result Field Kind) → filter_map row_in (bads by field us) ≡ [] → filter_map row_in (cons_option (bad r v) (bads by field us)) ≡ []
      go (Ok f) ih = ih
      go (Err k) ih = ih

  faults_bad : (us : List Row) → filter_map fault_in (bads by field us) ≡ filter_map (fault_of by field) us
  faults_bad [] = refl
  faults_bad (r ∷ us) = go (read_at by field r) (faults_bad us)
    where
      go : (v : Result Field Kind) → filter_map fault_in (bads by field us) ≡ filter_map (fault_of by field) us → filter_map fault_in (cons_option (bad r v) (bads by field us)) ≡ cons_option (fault_read r v) (filter_map (fault_of by field) us)
      go (Ok f) ih = ih
      go (Err k) ih = ap (λ l. record { kind = k; rec = r } ∷ l) ih

  rows_reduced : (k : Field) (us : List Row) → rows_in (reduced k us) ≡ rows_in (answer_at (k, made by field us))
  rows_reduced k us = go (bads by field us) (no_rows_bad us)
    where
      go : (bs : List Answer) → filter_map row_in bs ≡ [] → rows_in (unless bs (folded by (k ∷ []) (goods by field us))) ≡ rows_in (cond (is_filled bs) [] (valued k (value_in (fold_of by (goods by field us)))))
      go [] e = ap rows_in (folded_is by k (goods by field us))
      go (b ∷ bs) e = e

  faults_reduced : (k : Field) (us : List Row) → filter_map fault_in (reduced k us) ≡ filter_map (fault_of by field) us ++ filter_map fault_in (answer_at (k, made by field us))
  faults_reduced k us = go (bads by field us) (faults_bad us)
    where
      go : (bs : List Answer) → filter_map fault_in bs ≡ filter_map (fault_of by field) us
          → filter_map fault_in (unless bs (folded by (k ∷ []) (goods by field us))) ≡ filter_map (fault_of by field) us ++ filter_map fault_in (cond (is_filled bs) [] (valued k (value_in (fold_of by (goods by field us)))))
      go [] e = ap (filter_map fault_in) (folded_is by k (goods by field us)) ∙ ap (λ l. l ++ filter_map fault_in (valued k (value_in (fold_of by (goods by field us))))) e
      go (b ∷ bs) e = e ∙ sym (append-nil (filter_map (fault_of by field) us))

  -- the rows of a reduce, from what is kept for each key
  pub rows_from_groups : (rows : List Row) → keyless first_key rows ≡ [] → rows_in (flat_map answer_at (grouped by field rows)) ≡ rows_in (answers (Reduce by field) rows [])
  rows_from_groups rows keyed =
      let each = λ (k : Field). answer_at (k, made by field (with_first k rows)) in
      let each_reduced = λ (k : Field). reduced k (with_first k rows) in
      ap rows_in (flat_over_map answer_at (with_value (λ k. made by field (with_first k rows))) (firsts rows))
      ∙ chosen_flat row_in each (firsts rows)
      ∙ sym (flat_same (λ k. rows_in (each_reduced k)) (λ k. rows_in (each k)) (firsts rows) (λ k. rows_reduced k (with_first k rows)))
      ∙ sym (chosen_flat row_in each_reduced (firsts rows)) ∙ ap rows_in (sym (by_first (read_at by field) (folded by) rows keyed))

  -- and the faults, from those of bad rows in any order and those of the folds
  pub faults_from_groups : (rows : List Row) → keyless first_key rows ≡ [] → ascending fault_cmp (filter_map (fault_of by field) rows ++ filter_map fault_in (flat_map answer_at (grouped by field rows))) ≡ own_faults (answers (Reduce by field) rows [])
  faults_from_groups rows keyed =
      let each = λ (k : Field). answer_at (k, made by field (with_first k rows)) in
      let each_reduced = λ (k : Field). reduced k (with_first k rows) in
      let over = λ (k : Field). filter_map fault_in (each k) in
      ap (λ l. ascending fault_cmp (filter_map (fault_of by field) rows ++ l))
      (ap (filter_map fault_in) (flat_over_map answer_at (with_value (λ k. made by field (with_first k rows))) (firsts rows)) ∙ chosen_flat fault_in each (firsts rows))
      ∙ sym (ascending_same fault_cmp fault_strict (flat_map (λ k. filter_map (fault_of by field) (with_first k rows) ++ over k) (firsts rows)) (filter_map (fault_of by field) rows ++ flat_map over (firsts rows)) (by_key_all (fault_of by field) over rows))
      ∙ ap (ascending fault_cmp) (sym (chosen_flat fault_in each_reduced (firsts rows)
      ∙ flat_same (λ k. filter_map fault_in (each_reduced k)) (λ k. filter_map (fault_of by field) (with_first k rows) ++ over k) (firsts rows) (λ k. faults_reduced k (with_first k rows)))) ∙ ap own_faults (sym (by_first (read_at by field) (folded by) rows keyed))
