use Rattle.std.proofs.Common.{◌≡◌, ◌==◌, filter, take}
use Rattle.nemo_ir.specs.Part.{task_of}
use Rattle.nemo_ir.proofs.part.hash_part.Given as goal

-- those of the rows so far that lie on the task
abbrev pub invariant-loop-row : goal.invariant-loop-row
invariant-loop-row l = l.part.items ≡ filter (λ r. task_of l.cuts r == l.task) (take l.row-index l.rows)
