use Rattle.std.proofs.Common.{◌≡◌, ◌+◌, ◌-◌, ◌<◌, ◌≤◌, drop, slice_index}
use Rattle.nemo_base.specs.Cuts.{task_at}
use Rattle.nemo_base.proofs.cuts.Cuts.task_of.Given as goal

-- the bucket has passed the cuts so far
abbrev pub invariant-loop-task : goal.invariant-loop-task
invariant-loop-task l = record {
  counted : task_at l.cut-items l.bucket ≡ l.task + task_at (drop l.task l.cut-items) l.bucket;
  above : 0 < l.task → slice_index l.cut-items (l.task - 1) ≤ l.bucket;
}
