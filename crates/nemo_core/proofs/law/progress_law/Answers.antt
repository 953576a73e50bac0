use Rattle.nemo_core.proofs.Progress.{progress}
use Rattle.nemo_core.proofs.law.progress_law.Goals as goal

pub returns : goal.returns
returns c = progress
