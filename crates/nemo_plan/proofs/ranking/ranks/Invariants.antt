use Rattle.nemo_plan.proofs.RankTable.{IsRankedUpTo}
use Rattle.nemo_plan.proofs.ranking.ranks.Given as goal

abbrev pub invariant-loop-stage : goal.invariant-loop-stage
invariant-loop-stage l = IsRankedUpTo l.fn.flat l.dag l.order l.stage-index l.ranks.items
