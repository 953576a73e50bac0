use Rattle.nemo_base.proofs.NeededTasks.{need_law}
use Rattle.nemo_base.proofs.need.need_law.Goals as goal

pub returns : goal.returns
returns c = need_law
