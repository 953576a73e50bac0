-- Rows by their first field, which is the key of a record in memory.
use Rattle.std.specs.Prelude.{pos, List, [], ◌∷◌, ◌++◌, map, drop, slice_get, unwrap_or, filter, Bool, if◌then◌else◌}
use Rattle.std.specs.List.{filter_map}
use Rattle.std.specs.Ordering.{is_eq}
use Rattle.nemo_value.specs.Ascending.{ascending}
use Rattle.nemo_value.specs.Order.{field_cmp}
use Rattle.nemo_value.specs.declared.expr.Kind.TheVariants.{Wide}
use Rattle.nemo_value.specs.declared.field.Field.{Field}
use Rattle.nemo_value.specs.declared.field.Field.TheVariants.{Int}
use Rattle.nemo_transform.specs.Gives.{Row, Answer, fault_in, fitting, is_filled}
use Rattle.nemo_transform.specs.declared.fault.Fault.{Fault}

-- the first field; each record in memory has one
abbrev pub key : Row → Field
key r = unwrap_or (slice_get r 0) (Int (pos 0))

-- the first fields of the rows, in ascending order
abbrev pub firsts : List Row → List Field
firsts rows = ascending field_cmp (map key rows)

abbrev pub has_first : Field → Row → Bool
has_first k r = is_eq (field_cmp (key r) k)

abbrev pub with_first : Field → List Row → List Row
with_first k rows = filter (has_first k) rows

-- the left fields, and then the right ones from field 1
abbrev pub side_by_side : Row → Row → Answer
side_by_side l r = fitting l (l ++ drop 1 r)

-- the fault of a left row once, where one of its answers is a fault
abbrev pub wide_once : Row → List Answer → List Fault
wide_once l given = if is_filled (filter_map fault_in given) then record { kind = Wide; rec = l } ∷ [] else []
