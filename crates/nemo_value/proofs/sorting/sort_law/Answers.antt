use Rattle.nemo_value.specs.Order.{record_cmp}
use Rattle.nemo_value.proofs.RecordOrder.{record_strict}
use Rattle.nemo_value.proofs.SortedLists.{sorted_same, sorted_in_order, sorted_only}
use Rattle.nemo_value.proofs.sorting.sort_law.Goals as goal

pub returns : goal.returns
returns c = record {
  same = sorted_same record_cmp;
  order = sorted_in_order record_cmp record_strict;
  only = sorted_only record_cmp record_strict;
}
