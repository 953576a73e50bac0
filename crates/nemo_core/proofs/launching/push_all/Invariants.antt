use Rattle.std.proofs.Common.{◌≡◌, ◌++◌, drop, map}
use Rattle.nemo_core.specs.State.{holder}
use Rattle.nemo_core.proofs.launching.push_all.Given as goal

abbrev pub invariant-loop-held : goal.invariant-loop-held
invariant-loop-held l = l.names ++ map holder (drop l.held-index l.blocks) ≡ l.initial.names ++ map holder l.blocks
