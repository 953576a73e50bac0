use Rattle.std.proofs.Common.{◌≡◌, map, take}
use Rattle.nemo_core.specs.State.{fresh_tasks}
use Rattle.nemo_core.proofs.machine.fresh_tasks.Given as goal

abbrev pub invariant-loop-row : goal.invariant-loop-row
invariant-loop-row l = l.tasks.items ≡ map fresh_tasks (take l.row-index l.stages)
