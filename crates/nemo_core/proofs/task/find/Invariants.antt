use Rattle.std.proofs.Common.{◌≡◌, drop}
use Rattle.std.specs.List.{list_any}
use Rattle.nemo_core.specs.State.{runs}
use Rattle.nemo_core.proofs.task.find.Given as goal

abbrev pub invariant-loop-stage : goal.invariant-loop-stage
invariant-loop-stage l = list_any (list_any (runs l.attempt)) (drop l.stage l.rows-items) ≡ list_any (list_any (runs l.attempt)) l.rows-items
