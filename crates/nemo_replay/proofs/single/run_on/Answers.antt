use Rattle.std.proofs.Common.{◌≡◌, ◌∙◌, ap, [], ◌∷◌, ◌++◌, sym, subst, ◌≤◌, Some, IfOk, length}
use Rattle.std.specs.Prelude.{IsSome}
use Rattle.nemo_core.specs.declared.event.Event.TheVariants.{Finish}
use Rattle.nemo_replay.specs.EndSink.{end_name, one_sink}
use Rattle.nemo_replay.specs.StageRun.{IsOneStage}
use Rattle.nemo_replay.proofs.OneStage.{stage_plan}
use Rattle.nemo_replay.proofs.Runs.{ended_sinks, ended_written, has_end, may_finish, on_ok, start_core}
use Rattle.nemo_replay.proofs.SoloRuns.{solo_runs}
use Rattle.nemo_replay.proofs.single.run_on.Goals as goal

pub task_count-tasks-requires : goal.task_count-tasks-requires
task_count-tasks-requires c =
    let o : IsOneStage c.args.plan.now = record { flat = c.flat-flat.ensures.keeps; line = c.requires.line; valid = c.dag.ensures.valid; uniform = c.requires.uniform } in
    subst (λ d. 1 ≤ length d.vertices) (sym c.dag.ensures.dag) (stage_plan c.args.plan.now o).some

pub run_all-requires-clause-plan : goal.run_all-requires-clause-plan
run_all-requires-clause-plan c = record { flat = c.flat-flat.ensures.keeps; line = c.requires.line; valid = c.dag.ensures.valid; uniform = c.requires.uniform }

pub run_all-requires-clause-start : goal.run_all-requires-clause-start
run_all-requires-clause-start c =
    let o : IsOneStage c.args.plan.now = record { flat = c.flat-flat.ensures.keeps; line = c.requires.line; valid = c.dag.ensures.valid; uniform = c.requires.uniform } in
    start_core c.args.plan.now c.args.settings c.args.run.now.core o c.requires.start

pub take-requires-clause-allowed : goal.take-requires-clause-allowed
take-requires-clause-allowed c =
    let o : IsOneStage c.args.plan.now = record { flat = c.flat-flat.ensures.keeps; line = c.requires.line; valid = c.dag.ensures.valid; uniform = c.requires.uniform } in
    may_finish c.args.plan.now c.args.settings c.run_all.new.run.core o c.in_ok-rows.ensures.core

pub end_sink-requires : goal.end_sink-requires
end_sink-requires c =
    let o : IsOneStage c.args.plan.now = record { flat = c.flat-flat.ensures.keeps; line = c.requires.line; valid = c.dag.ensures.valid; uniform = c.requires.uniform } in
    subst (λ f. IsSome (end_name f)) (sym c.flat-flat.ensures.flat) (has_end c.args.plan.now o)

pub returns-clause-run : goal.returns-clause-run
returns-clause-run c =
    let o : IsOneStage c.args.plan.now = record { flat = c.flat-flat.ensures.keeps; line = c.requires.line; valid = c.dag.ensures.valid; uniform = c.requires.uniform } in
    let well = solo_runs c.args.plan.now c.args.settings o c.keeps.ensures c.requires.faultless c.take.new.run.log.items (c.in_ok-take.ensures.log ∙ ap (λ es. es ++ Finish ∷ []) c.in_ok-rows.ensures.log) in
    on_ok c.end_sink.result well.done

pub returns-clause-turns : goal.returns-clause-turns
returns-clause-turns c =
    let o : IsOneStage c.args.plan.now = record { flat = c.flat-flat.ensures.keeps; line = c.requires.line; valid = c.dag.ensures.valid; uniform = c.requires.uniform } in
    let well = solo_runs c.args.plan.now c.args.settings o c.keeps.ensures c.requires.faultless c.take.new.run.log.items (c.in_ok-take.ensures.log ∙ ap (λ es. es ++ Finish ∷ []) c.in_ok-rows.ensures.log) in
    on_ok c.end_sink.result well.run

pub returns-clause-sinks : goal.returns-clause-sinks
returns-clause-sinks c =
    let o : IsOneStage c.args.plan.now = record { flat = c.flat-flat.ensures.keeps; line = c.requires.line; valid = c.dag.ensures.valid; uniform = c.requires.uniform } in
    ended_sinks c.args.plan.now c.in_ok-rows.rows.items c.end_sink.result o c.in_ok-rows.ensures.rows
    (subst (λ f. IfOk c.end_sink.result (λ sinks. Some sinks ≡ one_sink f c.in_ok-rows.rows.items)) c.flat-flat.ensures.flat c.end_sink.ensures)

pub returns-clause-committed : goal.returns-clause-committed
returns-clause-committed c =
    let o : IsOneStage c.args.plan.now = record { flat = c.flat-flat.ensures.keeps; line = c.requires.line; valid = c.dag.ensures.valid; uniform = c.requires.uniform } in
    let well = solo_runs c.args.plan.now c.args.settings o c.keeps.ensures c.requires.faultless c.take.new.run.log.items (c.in_ok-take.ensures.log ∙ ap (λ es. es ++ Finish ∷ []) c.in_ok-rows.ensures.log) in
    ended_written c.args.plan.now c.args.settings c.take.new.run.log.items c.end_sink.result well (returns-clause-sinks c)
