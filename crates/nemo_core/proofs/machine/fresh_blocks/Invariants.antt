use Rattle.std.proofs.Common.{◌≡◌, ◌++◌, drop}
use Rattle.nemo_core.specs.Numbered.{map_at}
use Rattle.nemo_core.specs.State.{fresh_blocks}
use Rattle.nemo_core.proofs.machine.fresh_blocks.Given as goal

-- those so far, with what the rest gives
abbrev pub invariant-loop-v : goal.invariant-loop-v
invariant-loop-v l = l.blocks.items ++ map_at (fresh_blocks l.graph) l.v (drop l.v l.row-items) ≡ map_at (fresh_blocks l.graph) 0 l.row-items
