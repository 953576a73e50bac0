use Rattle.std.proofs.Common.{◌≡◌, ◌++◌, map, take, drop, length}
use Rattle.nemo_core.specs.Step as spec
use Rattle.nemo_core.proofs.task.end_in.Given as goal

-- those so far, with what becomes of the rest
abbrev pub invariant-loop-i : goal.invariant-loop-i
invariant-loop-i l = record {
  done : take l.i l.rows ++ map spec.idle (drop l.i l.rows) ≡ map spec.idle l.initial.rows;
  size : length l.rows ≡ length l.initial.rows;
}
