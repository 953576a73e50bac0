use Rattle.nemo_core.proofs.Launchable.{ready}
use Rattle.nemo_core.proofs.law.ready_law.Goals as goal

pub returns : goal.returns
returns c = ready
