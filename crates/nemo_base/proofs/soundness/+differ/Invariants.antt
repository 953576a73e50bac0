use Rattle.std.proofs.Common.{length}
use Rattle.nemo_base.proofs.soundness.+differ.Given as goal

abbrev pub decreases-differ : goal.decreases-differ
decreases-differ l = length l.numbers.now
