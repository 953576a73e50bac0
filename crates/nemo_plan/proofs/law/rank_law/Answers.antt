use Rattle.nemo_plan.proofs.Ranks.{ranked}
use Rattle.nemo_plan.proofs.law.rank_law.Goals as goal

pub returns : goal.returns
returns c = ranked
