use Rattle.nemo_plan.proofs.OverParts.{over_is}
use Rattle.nemo_plan.proofs.law.over_law.Goals as goal

pub returns : goal.returns
returns c = over_is
