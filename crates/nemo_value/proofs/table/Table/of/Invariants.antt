use Rattle.std.proofs.Common.{◌≡◌, take}
use Rattle.nemo_value.proofs.table.Table.of.Given as goal

-- the rows so far
abbrev pub invariant-loop-row : goal.invariant-loop-row
invariant-loop-row l = l.table ≡ take l.row-index l.rows
