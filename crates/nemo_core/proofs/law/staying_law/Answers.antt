use Rattle.nemo_core.proofs.Keeping.{staying}
use Rattle.nemo_core.proofs.law.staying_law.Goals as goal

pub returns : goal.returns
returns c = staying
