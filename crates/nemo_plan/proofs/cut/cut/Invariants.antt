use Rattle.nemo_plan.proofs.Growing.{IsCutUpTo}
use Rattle.nemo_plan.proofs.cut.cut.Given as goal

abbrev pub invariant-loop-u : goal.invariant-loop-u
invariant-loop-u l = IsCutUpTo l.flat l.index l.u-index l.made
