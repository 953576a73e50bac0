use Rattle.std.proofs.Common.{◌≡◌, ◌++◌, map, take, drop, length}
use Rattle.nemo_core.specs.Step as spec
use Rattle.nemo_core.proofs.task.end_rows.Given as goal

-- those so far, with what becomes of the rest
abbrev pub invariant-loop-stage : goal.invariant-loop-stage
invariant-loop-stage l = record {
  done : take l.stage l.rows.items ++ map (map spec.idle) (drop l.stage l.rows.items) ≡ map (map spec.idle) l.initial.rows.items;
  size : length l.rows.items ≡ length l.initial.rows.items;
}
