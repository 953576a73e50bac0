use Rattle.std.proofs.Common.{◌≡◌, ◌++◌, ◌*◌, [], take}
use Rattle.std.specs.HashMap.{get_by}
use Rattle.std.specs.List.{filter_map}
use Rattle.nemo_value.specs.declared.field.Field.{Field}
use Rattle.nemo_transform.specs.FirstField.{with_first}
use Rattle.nemo_transform.specs.Gives.{keyless}
use Rattle.nemo_value.specs.Key.{first_key}
use Rattle.nemo_transform.specs.Groups.{at_key, fault_of}
use Rattle.nemo_transform.proofs.GroupSteps.{Kept}
use Rattle.nemo_transform.proofs.grouping.groups_of.Given as goal

-- at each key the group of the rows so far, and the faults of those
abbrev pub invariant-loop-row : goal.invariant-loop-row
invariant-loop-row l = record {
  groups : (k : Field) → Kept l.fn.by l.field (with_first k (take l.row-index l.rows)) (9223372036854775808 * l.row-index) (get_by (at_key k) l.groups);
  keyed : keyless first_key (take l.row-index l.rows) ≡ [];
  faults : l.faults.items ≡ l.initial.faults.items ++ filter_map (fault_of l.fn.by l.field) (take l.row-index l.rows);
}
