-- What sinks get, in order.
use Rattle.std.specs.Prelude.{List, map}
use Rattle.std.specs.declared.cmp.Ordering.{Ordering}
use Rattle.nemo_value.specs.Order.{record_cmp, text_cmp}
use Rattle.nemo_value.specs.Sorting.{sorted}
use Rattle.nemo_value.specs.declared.record.SinkRows.{SinkRows}

-- a sink with its rows in order
abbrev pub with_sorted : SinkRows → SinkRows
with_sorted s = record { name = s.name; rows = sorted record_cmp s.rows }

abbrev pub by_name : SinkRows → SinkRows → Ordering
by_name a b = text_cmp a.name b.name

-- the sinks by name, each with its rows in order
abbrev pub in_order : List SinkRows → List SinkRows
in_order sinks = sorted by_name (map with_sorted sinks)
