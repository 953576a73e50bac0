use Rattle.std.proofs.Common.{◌≡◌, drop}
use Rattle.std.specs.List.{list_any}
use Rattle.nemo_core.specs.State.{runs}
use Rattle.nemo_core.proofs.task.find_in.Given as goal

abbrev pub invariant-loop-i : goal.invariant-loop-i
invariant-loop-i l = list_any (runs l.attempt) (drop l.i l.rows) ≡ list_any (runs l.attempt) l.rows
