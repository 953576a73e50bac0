use Rattle.std.proofs.Common.{◌≡◌, false, replicate}
use Rattle.nemo_check.proofs.tables.unmarked.Given as goal

abbrev pub invariant-loop : goal.invariant-loop
invariant-loop l = l.marks.items ≡ replicate l.counter false
