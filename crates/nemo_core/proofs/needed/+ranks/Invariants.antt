use Rattle.std.proofs.Common.{length}
use Rattle.nemo_core.proofs.needed.+ranks.Given as goal

abbrev pub decreases-ranks : goal.decreases-ranks
decreases-ranks l = length l.stages.now
