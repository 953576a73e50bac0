use Rattle.std.proofs.Common.{◌≡◌, ◌++◌, map, take, drop}
use Rattle.std.specs.List.{filter_map}
use Rattle.nemo_transform.specs.Gives.{rows_in, fault_in, is_filled}
use Rattle.nemo_transform.specs.FirstField.{side_by_side}
use Rattle.nemo_transform.proofs.joining.push_pairs.Given as goal

-- the rows so far, in front of those of the other pairs
abbrev pub invariant-loop-other : goal.invariant-loop-other
invariant-loop-other l = record {
  rows : l.rows ++ rows_in (map (side_by_side l.left) (map (λ r. r.now) (drop l.other-index l.right))) ≡ l.initial.rows ++ rows_in (map (side_by_side l.left) (map (λ r. r.now) l.right));
  wide : l.wide ≡ is_filled (filter_map fault_in (map (side_by_side l.left) (map (λ r. r.now) (take l.other-index l.right))));
}
