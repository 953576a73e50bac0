use Rattle.std.proofs.Common.{◌≡◌, [], map, take}
use Rattle.std.specs.Option.{option_map_or}
use Rattle.std.specs.HashMap.{get_by}
use Rattle.std.specs.Ordering.{is_eq}
use Rattle.nemo_value.specs.Order.{field_cmp}
use Rattle.nemo_value.specs.declared.field.Field.{Field}
use Rattle.nemo_transform.specs.FirstField.{with_first}
use Rattle.nemo_transform.specs.Gives.{keyless}
use Rattle.nemo_value.specs.Key.{first_key}
use Rattle.nemo_transform.proofs.joining.rows_by_key.Given as goal

-- at each key the rows so far that have it
abbrev pub invariant-loop-row : goal.invariant-loop-row
invariant-loop-row l = record {
  rows : (q : Field) → option_map_or (λ g. map (λ r. r.now) g.items) (get_by (λ k. is_eq (field_cmp q k.now)) l.by_key) [] ≡ with_first q (take l.row-index l.rows);
  keyed : keyless first_key (take l.row-index l.rows) ≡ [];
}
