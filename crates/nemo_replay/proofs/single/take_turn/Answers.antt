use Rattle.std.proofs.Common.{◌≡◌, ◌∙◌, ap, sym, subst, ◌<◌, []}
use Rattle.std.specs.List.{AllPass}
use Rattle.nemo_replay.specs.StageRun.{is_served, task_rows, tasks_in}
use Rattle.nemo_replay.proofs.Turns.{all_served, is_some_task, next_launchable, turn_allowed, turn_core, turn_launched, turn_log}
use Rattle.nemo_replay.proofs.single.take_turn.Goals as goal

pub launch-requires-clause-some : goal.launch-requires-clause-some
launch-requires-clause-some c =
    is_some_task _ _ (next_launchable c.args.plan.now c.args.settings c.args.task c.args.run.now.core c.slot_of.result c.requires.plan c.keeps.ensures c.requires.within c.requires.ready c.slot_of.ensures)

pub run_task-requires-clause-served : goal.run_task-requires-clause-served
run_task-requires-clause-served c = subst (λ f. AllPass (is_served f) f.vertices) (sym c.flat.ensures.flat) (all_served c.args.plan.now c.requires.plan)

pub run_task-requires-clause-within : goal.run_task-requires-clause-within
run_task-requires-clause-within c =
    let l = turn_launched c.args.plan.now c.args.settings c.args.task c.args.run.now.core c.launch.new.run.core c.launch.new.run.log.items c.args.run.now.log.items c.slot_of.result c.in_ok-launched.launched
    c.requires.plan c.keeps.ensures c.requires.within c.requires.ready c.slot_of.ensures c.in_ok-launched.ensures.task c.in_ok-launched.ensures.core c.in_ok-launched.ensures.log in
    let at : c.in_ok-launched.launched.index ≡ c.args.task = ap (λ t. t.index) l.at in
    subst (λ n. c.in_ok-launched.launched.index < n) (sym c.requires.tasks) (subst (λ i. i < tasks_in c.args.plan.now) (sym at) c.requires.within)

pub take-requires-clause-allowed : goal.take-requires-clause-allowed
take-requires-clause-allowed c =
    let l = turn_launched c.args.plan.now c.args.settings c.args.task c.args.run.now.core c.launch.new.run.core c.launch.new.run.log.items c.args.run.now.log.items c.slot_of.result c.in_ok-launched.launched
    c.requires.plan c.keeps.ensures c.requires.within c.requires.ready c.slot_of.ensures c.in_ok-launched.ensures.task c.in_ok-launched.ensures.core c.in_ok-launched.ensures.log in
    turn_allowed c.args.plan.now c.args.settings c.args.task c.launch.new.run.core c.launch.new.run.log.items c.args.run.now.log.items c.in_ok-launched.launched c.from-attempt.result c.requires.within l c.from-attempt.ensures

pub returns-clause-core : goal.returns-clause-core
returns-clause-core c =
    let l = turn_launched c.args.plan.now c.args.settings c.args.task c.args.run.now.core c.launch.new.run.core c.launch.new.run.log.items c.args.run.now.log.items c.slot_of.result c.in_ok-launched.launched
    c.requires.plan c.keeps.ensures c.requires.within c.requires.ready c.slot_of.ensures c.in_ok-launched.ensures.task c.in_ok-launched.ensures.core c.in_ok-launched.ensures.log in
    turn_core c.args.plan.now c.args.settings c.args.task c.launch.new.run.core c.take.new.run.core c.launch.new.run.log.items c.args.run.now.log.items c.in_ok-launched.launched c.from-attempt.result c.requires.plan c.requires.within l c.from-attempt.ensures c.in_ok-take.ensures.core

pub returns-clause-log : goal.returns-clause-log
returns-clause-log c =
    let l = turn_launched c.args.plan.now c.args.settings c.args.task c.args.run.now.core c.launch.new.run.core c.launch.new.run.log.items c.args.run.now.log.items c.slot_of.result c.in_ok-launched.launched
    c.requires.plan c.keeps.ensures c.requires.within c.requires.ready c.slot_of.ensures c.in_ok-launched.ensures.task c.in_ok-launched.ensures.core c.in_ok-launched.ensures.log in
    turn_log c.args.plan.now c.args.settings c.args.task c.launch.new.run.core c.launch.new.run.log.items c.args.run.now.log.items c.take.new.run.log.items c.in_ok-launched.launched c.from-attempt.result l c.from-attempt.ensures c.in_ok-take.ensures.log

pub returns-clause-rows : goal.returns-clause-rows
returns-clause-rows c =
    let l = turn_launched c.args.plan.now c.args.settings c.args.task c.args.run.now.core c.launch.new.run.core c.launch.new.run.log.items c.args.run.now.log.items c.slot_of.result c.in_ok-launched.launched
    c.requires.plan c.keeps.ensures c.requires.within c.requires.ready c.slot_of.ensures c.in_ok-launched.ensures.task c.in_ok-launched.ensures.core c.in_ok-launched.ensures.log in
    let at : c.in_ok-launched.launched.index ≡ c.args.task = ap (λ t. t.index) l.at in
    c.in_ok-rows.ensures
    ∙ ap (λ n. task_rows c.flat.result.now n c.in_ok-launched.launched.index c.flat.result.now.vertices []) c.requires.tasks
    ∙ ap (λ i. task_rows c.flat.result.now (tasks_in c.args.plan.now) i c.flat.result.now.vertices []) at
    ∙ ap (λ f. task_rows f (tasks_in c.args.plan.now) c.args.task f.vertices []) c.flat.ensures.flat
