-- The orders of fields and of records are total, and what ties is equal.
use Rattle.std.specs.Cmp.Lexicographic.{lists_total}
use Rattle.std.specs.FinMap.{slice_cmp-IsAntisymmetric}
use Rattle.nemo_value.specs.FieldOrder.{field_one, field_total}
use Rattle.nemo_value.specs.Order.{field_cmp, record_cmp}
use Rattle.nemo_value.proofs.SortedLists.{IsStrict}

pub field_strict : IsStrict field_cmp
field_strict = record { total = field_total; one = field_one }

pub record_strict : IsStrict record_cmp
record_strict = record { total = lists_total field_total; one = slice_cmp-IsAntisymmetric field_one }
