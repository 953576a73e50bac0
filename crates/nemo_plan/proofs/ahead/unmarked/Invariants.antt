use Rattle.std.proofs.Common.{◌≡◌, false, replicate}
use Rattle.nemo_plan.proofs.ahead.unmarked.Given as goal

abbrev pub invariant-loop : goal.invariant-loop
invariant-loop l = l.table.items ≡ replicate l.counter false
