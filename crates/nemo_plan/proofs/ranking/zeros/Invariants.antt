use Rattle.std.proofs.Common.{◌≡◌, replicate}
use Rattle.nemo_plan.proofs.ranking.zeros.Given as goal

abbrev pub invariant-loop : goal.invariant-loop
invariant-loop l = l.ranks.items ≡ replicate l.counter 0
