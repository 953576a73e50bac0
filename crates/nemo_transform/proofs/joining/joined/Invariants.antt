use Rattle.std.proofs.Common.{◌≡◌, ◌++◌, drop}
use Rattle.std.specs.List.{flat_map, filter_map}
use Rattle.nemo_value.specs.Ascending.{ascending}
use Rattle.nemo_transform.specs.FaultOrder.{fault_cmp}
use Rattle.nemo_transform.specs.Gives.{join, joined, rows_in, fault_in, own_faults}
use Rattle.nemo_value.specs.Key.{first_key}
use Rattle.nemo_transform.proofs.joining.joined.Given as goal

-- what was given so far, in front of what the other left rows give
abbrev pub invariant-loop-row : goal.invariant-loop-row
invariant-loop-row l = record {
  rows : l.rows ++ rows_in (flat_map (joined first_key first_key l.fn.right) (drop l.row-index l.left)) ≡ rows_in (join first_key first_key l.left l.fn.right);
  faults : ascending fault_cmp (l.faults.items ++ filter_map fault_in (flat_map (joined first_key first_key l.fn.right) (drop l.row-index l.left))) ≡ own_faults (join first_key first_key l.left l.fn.right);
}
