use Rattle.std.proofs.Common.{◌≡◌, IfOk, subst}
use Rattle.std.specs.List.Sorted.{IsPermutation}
use Rattle.nemo_value.specs.Order.{record_cmp}
use Rattle.nemo_value.proofs.RecordOrder.{record_strict}
use Rattle.nemo_value.proofs.SortedLists.{sorted_only}
use Rattle.nemo_value.proofs.sorting.sorted_rows.Goals as goal

pub returns : goal.returns
returns c =
    let all = c.sort_unstable.new.self.items in
    let moved : IsPermutation c.args.rows.items all = subst (λ rows. IsPermutation rows all) c.in_ok-keyed.ensures c.sort_unstable.ensures.permutation in
    subst (λ rows. IfOk c.without_numbers.result (λ given. given.items ≡ rows)) (sorted_only record_cmp record_strict c.args.rows.items all moved c.sort_unstable.ensures.sorted) c.without_numbers.ensures
