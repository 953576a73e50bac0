-- The laws of the rows and of the own faults, from those of the answers.
use Rattle.std.proofs.Common.{◌≡◌, ◌∙◌, sym, ap, ℕ, ◌<◌, List, ◌∷◌, true, false, map}
use Rattle.std.specs.List.{filter_map, flat_map}
use Rattle.std.specs.List.Sorted.{IsPermutation}
use Rattle.nemo_value.specs.Ascending.{ascending}
use Rattle.nemo_value.specs.Counted.{below}
use Rattle.nemo_value.proofs.AscendingLists.{ascending_perm}
use Rattle.nemo_value.proofs.AscendingParts.{ascending_flat, ascending_same}
use Rattle.nemo_value.proofs.JoinedLists.{chosen_flat, flat_over_map}
use Rattle.nemo_value.proofs.Perm.{Perm, back, from_std, then, to_std}
use Rattle.nemo_value.proofs.Permuted.{chosen, is}
use Rattle.nemo_transform.specs.FaultOrder.{fault_cmp}
use Rattle.nemo_transform.specs.Gives.{Answer, Row, answers, fault_in, own_faults, row_in, rows_in}
use Rattle.nemo_transform.specs.Laws.{MeetByKey, chained, is_source, meets, share, united}
use Rattle.nemo_transform.specs.declared.transform.Transform.{Transform}
use Rattle.nemo_transform.proofs.AnswerLaws.{key_answers, order_answers, row_same}
use Rattle.nemo_transform.proofs.FaultOrders.{fault_strict}

-- the own faults of all answers are those of each
pub gathered : {X : Type 0} (f : X → List Answer) (xs : List X) → own_faults (flat_map f xs) ≡ united (map (λ x. own_faults (f x)) xs)
gathered f xs =
    ap (ascending fault_cmp) (chosen_flat fault_in f xs)
    ∙ ascending_flat fault_cmp fault_strict (λ x. filter_map fault_in (f x)) xs
    ∙ ap (ascending fault_cmp) (sym (flat_over_map (λ l. l) (λ x. own_faults (f x)) xs))

pub same_faults : {given other : List Answer} → Perm given other → own_faults given ≡ own_faults other
same_faults p = ascending_perm fault_cmp fault_strict (chosen fault_in p)

module _ (t : Transform) where
  pub row_rows : (list : List Row) (lists : List (List Row)) (second : List Row) → meets t ≡ false → is_source t ≡ false
      → rows_in (answers t (chained (list ∷ lists)) second) ≡ flat_map (λ l. rows_in (answers t l second)) (list ∷ lists)
  row_rows list lists second k s = (row_same t list lists second k s).rows ∙ chosen_flat row_in (λ l. answers t l second) (list ∷ lists)

  pub row_faults : (list : List Row) (lists : List (List Row)) (second : List Row) → meets t ≡ false → is_source t ≡ false
      → own_faults (answers t (chained (list ∷ lists)) second) ≡ united (map (λ l. own_faults (answers t l second)) (list ∷ lists))
  row_faults list lists second k s =
      let each = λ (l : List Row). answers t l second in
      ascending_same fault_cmp fault_strict (filter_map fault_in (answers t (chained (list ∷ lists)) second)) (filter_map fault_in (flat_map each (list ∷ lists))) (row_same t list lists second k s).faults.members
      ∙ gathered each (list ∷ lists)

  module _ (first_task second_task : Row → ℕ) (n : ℕ) (first second : List Row) (h : meets t ≡ true) (m : MeetByKey t first_task second_task) (low : (r : Row) → first_task r < n) (other_low : (r : Row) → second_task r < n) where
    abbrev part : ℕ → List Answer
    part i = answers t (share first_task i first) (share second_task i second)

    pub key_rows : IsPermutation (flat_map (λ i. rows_in (answers t (share first_task i first) (share second_task i second))) (below n)) (rows_in (answers t first second))
    key_rows = to_std (then (is (sym (chosen_flat row_in part (below n)))) (chosen row_in (back (key_answers t first_task second_task n first second h m low other_low))))

    pub key_faults : own_faults (answers t first second) ≡ united (map (λ i. own_faults (answers t (share first_task i first) (share second_task i second))) (below n))
    key_faults = same_faults (key_answers t first_task second_task n first second h m low other_low) ∙ gathered part (below n)

  module _ (first other second another : List Row) (s : is_source t ≡ false) (p : IsPermutation first other) (q : IsPermutation second another) where
    both_orders : Perm (answers t first second) (answers t other another)
    both_orders = order_answers t first other second another s (from_std first other p) (from_std second another q)

    pub order_rows : IsPermutation (rows_in (answers t first second)) (rows_in (answers t other another))
    order_rows = to_std (chosen row_in both_orders)

    pub order_faults : own_faults (answers t first second) ≡ own_faults (answers t other another)
    order_faults = same_faults both_orders
