use Rattle.std.proofs.Common.{◌≡◌, map, take}
use Rattle.nemo_core.specs.State.{fresh_cuts}
use Rattle.nemo_core.proofs.machine.fresh_cuts.Given as goal

abbrev pub invariant-loop-row : goal.invariant-loop-row
invariant-loop-row l = l.cuts.items ≡ map fresh_cuts (take l.row-index l.row-items)
