use Rattle.nemo_plan.proofs.LastSource.{IsLastSoFar}
use Rattle.nemo_plan.proofs.ahead.is_last.Given as goal

abbrev pub invariant-loop-other : goal.invariant-loop-other
invariant-loop-other l = IsLastSoFar l.order l.sources l.stage l.other-index l.passed
