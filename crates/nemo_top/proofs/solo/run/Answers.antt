use Rattle.nemo_top.proofs.Running.{faultless_plan, line_plan, ran, ran_rows}
use Rattle.nemo_top.proofs.solo.run.Goals as goal

pub returns-clause-done : goal.returns-clause-done
returns-clause-done c =
    let e = c.solo.ensures in
    ran c.args.bundle c.args.dag _ c.requires.bundle c.requires.dag c.requires.valid c.in_ok-plan.ensures.plan c.solo.result e.run e.turns e.committed e.sinks

pub returns-clause-sinks : goal.returns-clause-sinks
returns-clause-sinks c = ran_rows c.args.bundle c.args.dag _ c.requires.bundle c.requires.dag c.requires.valid c.in_ok-plan.ensures.plan c.solo.result c.solo.ensures.sinks

pub solo-requires-clause-line : goal.solo-requires-clause-line
solo-requires-clause-line c = line_plan c.args.bundle c.args.dag _ c.requires.bundle c.in_ok-plan.ensures.plan

pub solo-requires-clause-faultless : goal.solo-requires-clause-faultless
solo-requires-clause-faultless c = faultless_plan c.args.bundle c.args.dag _ c.requires.bundle c.in_ok-plan.ensures.plan
