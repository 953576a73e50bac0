use Rattle.nemo_plan.proofs.Closing.{IsClosedSoFar}
use Rattle.nemo_plan.proofs.ahead.closed.Given as goal

-- the last stages are right
abbrev pub invariant-loop-behind : goal.invariant-loop-behind
invariant-loop-behind l = IsClosedSoFar l.index l.made.stages l.made.order l.v l.table.items l.behind
