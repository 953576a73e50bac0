use Rattle.std.proofs.Common.{◌≡◌, ◌+◌, ◌++◌, drop}
use Rattle.nemo_ir.specs.Part.{dealt}
use Rattle.nemo_ir.proofs.part.spread_part.Given as goal

-- the rows so far, and then those of the rows that are left, are all rows of the task
abbrev pub invariant-loop-k : goal.invariant-loop-k
invariant-loop-k l = l.part.items ++ dealt l.tasks l.task (l.producer + l.k) (drop l.k l.rows) ≡ dealt l.tasks l.task l.producer l.rows
