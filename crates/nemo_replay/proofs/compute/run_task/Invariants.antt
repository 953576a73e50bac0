use Rattle.std.proofs.Common.{◌≡◌, [], drop}
use Rattle.nemo_replay.specs.StageRun.{task_rows}
use Rattle.nemo_replay.proofs.compute.run_task.Given as goal

-- the rows so far, after the vertices that are left, are those after all
abbrev pub invariant-loop-vertex : goal.invariant-loop-vertex
invariant-loop-vertex l = task_rows l.flat l.tasks l.task (drop l.vertex-index l.flat.vertices) l.rows.items ≡ task_rows l.flat l.tasks l.task l.flat.vertices []
