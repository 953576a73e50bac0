use Rattle.std.proofs.Common.{◌≡◌, ◌++◌, map, take}
use Rattle.std.specs.List.{flat_map, filter_map}
use Rattle.nemo_transform.specs.Gives.{rows_in, fault_in}
use Rattle.nemo_transform.specs.Groups.{seen, answer_at}
use Rattle.nemo_transform.proofs.grouping.rows_of.Given as goal

-- what the keys so far give
abbrev pub invariant-loop-entry : goal.invariant-loop-entry
invariant-loop-entry l = record {
  given : l.given ≡ rows_in (flat_map answer_at (map seen (take l.entry-index l.entries)));
  faults : l.faults.items ≡ l.initial.faults.items ++ filter_map fault_in (flat_map answer_at (map seen (take l.entry-index l.entries)));
}
