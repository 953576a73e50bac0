use Rattle.std.proofs.Common.{◌≡◌, map, take}
use Rattle.nemo_plan.specs.Graph.{greatest}
use Rattle.nemo_plan.specs.Ranking.{rank_over}
use Rattle.nemo_plan.proofs.ranking.rank.Given as goal

abbrev pub invariant-loop-read : goal.invariant-loop-read
invariant-loop-read l = l.most ≡ greatest (map (rank_over l.stages l.ranks) (take l.read-index l.reads))
