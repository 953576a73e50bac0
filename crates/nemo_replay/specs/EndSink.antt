-- The one sink of a line.
use Rattle.std.specs.Prelude.{ℕ, ◌-◌, List, [], ◌∷◌, length, slice_get, option_and_then, option_map, Option}
use Rattle.nemo_value.specs.Order.{record_cmp}
use Rattle.nemo_value.specs.Sorting.{sorted}
use Rattle.nemo_value.specs.declared.record.SinkRows.{SinkRows}
use Rattle.nemo_transform.specs.Gives.{Row}
use Rattle.nemo_ir.specs.Flat.{FlatForm, sink_name, transform_of}

-- the name of the sink that the last vertex is, if it is one
abbrev pub end_name : FlatForm → Option (List ℕ)
end_name flat = sink_name (option_and_then (transform_of flat) (slice_get flat.vertices (length flat.vertices - 1)))

-- that sink alone, with these rows in order
abbrev pub one_sink : FlatForm → List Row → Option (List SinkRows)
one_sink flat rows = option_map (λ name. record { name = name; rows = sorted record_cmp rows } ∷ []) (end_name flat)
