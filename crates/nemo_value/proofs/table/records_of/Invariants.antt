use Rattle.std.proofs.Common.{◌≡◌, take}
use Rattle.nemo_value.proofs.table.records_of.Given as goal

-- the records so far
abbrev pub invariant-loop-row : goal.invariant-loop-row
invariant-loop-row l = l.records ≡ take l.row-index l.rows
