-- The order of faults.
use Rattle.std.specs.Ordering.{ordering_then}
use Rattle.std.specs.declared.cmp.Ordering.{Ordering}
use Rattle.nemo_value.specs.KindOrder.{kind_cmp}
use Rattle.nemo_value.specs.Order.{record_cmp}
use Rattle.nemo_transform.specs.declared.fault.Fault.{Fault}

-- by kind, and then by record
abbrev pub fault_cmp : Fault → Fault → Ordering
fault_cmp a b = ordering_then (kind_cmp a.kind b.kind) (record_cmp a.rec b.rec)
