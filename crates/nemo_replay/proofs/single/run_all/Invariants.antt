use Rattle.std.proofs.Common.{◌≡◌, []}
use Rattle.std.specs.List.{flat_map}
use Rattle.nemo_ir.specs.Along.{below}
use Rattle.nemo_replay.specs.StageRun.{task_rows, tasks_in, turns}
use Rattle.nemo_replay.specs.StageStates.{ready_core}
use Rattle.nemo_replay.proofs.single.run_all.Given as goal

-- the tasks so far have run
abbrev pub invariant-loop-task : goal.invariant-loop-task
invariant-loop-task l = record {
  core : l.run.core ≡ ready_core l.plan l.settings l.task;
  log : l.run.log.items ≡ turns l.settings l.task;
  rows : l.rows.items ≡ flat_map (λ i. task_rows l.plan.flat (tasks_in l.plan) i l.plan.flat.vertices []) (below l.task);
}
