use Rattle.nemo_plan.proofs.CutLaws.{reach}
use Rattle.nemo_plan.proofs.law.reach_law.Goals as goal

pub returns : goal.returns
returns c = reach
