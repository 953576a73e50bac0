use Rattle.std.proofs.Common.{◌≡◌, take}
use Rattle.nemo_value.proofs.table.rows_of.Given as goal

-- the rows so far
abbrev pub invariant-loop-record : goal.invariant-loop-record
invariant-loop-record l = l.rows.items ≡ take l.record-index l.records
