use Rattle.std.proofs.Common.{◌≡◌, drop}
use Rattle.nemo_core.specs.Step.{are_holders}
use Rattle.nemo_core.proofs.refusal.are_holders.Given as goal

abbrev pub invariant-loop-i : goal.invariant-loop-i
invariant-loop-i l = are_holders l.blocks l.names ≡ are_holders (drop l.i l.blocks) (drop l.i l.names)
