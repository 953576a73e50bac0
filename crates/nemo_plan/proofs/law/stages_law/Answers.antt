use Rattle.nemo_plan.proofs.CutLaws.{stages}
use Rattle.nemo_plan.proofs.law.stages_law.Goals as goal

pub returns : goal.returns
returns c = stages
