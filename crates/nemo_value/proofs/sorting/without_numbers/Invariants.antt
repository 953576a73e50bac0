use Rattle.std.proofs.Common.{◌≡◌}
use Rattle.nemo_value.proofs.sorting.without_numbers.Given as goal

-- the records so far are those that were taken
abbrev pub invariant-loop-row : goal.invariant-loop-row
invariant-loop-row l = l.rows.items ≡ l.yielded
