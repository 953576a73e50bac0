use Rattle.nemo_laws.proofs.LossesKept.{losses_kept}
use Rattle.nemo_laws.proofs.losses.losses_law.Goals as goal

pub returns : goal.returns
returns c = losses_kept
