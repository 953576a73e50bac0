use Rattle.std.proofs.Common.{[], ◌∙◌}
use Rattle.nemo_replay.specs.StageRun.{task_rows, tasks_in}
use Rattle.nemo_replay.proofs.Turns.{log_more, rows_more}
use Rattle.nemo_replay.proofs.single.run_all.Goals as goal

pub loop-task-preserved : goal.loop-task-preserved
loop-task-preserved c = record {
  core = c.in_ok-part.ensures.core;
  log = log_more c.args.settings c.loop-task.task c.loop-task.run.log.items c.take_turn.new.run.log.items c.loop-task.invariant.log c.in_ok-part.ensures.log;
  rows = c.in_ok-append.ensures.items ∙ rows_more (λ i. task_rows c.args.plan.now.flat (tasks_in c.args.plan.now) i c.args.plan.now.flat.vertices []) c.loop-task.task c.loop-task.rows.items c.in_ok-part.part.items c.loop-task.invariant.rows c.in_ok-part.ensures.rows;
}
