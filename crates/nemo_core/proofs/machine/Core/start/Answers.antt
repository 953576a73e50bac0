use Rattle.std.proofs.Common.{arith, ap, length}
use Rattle.nemo_base.specs.declared.graph.TaskGraph.{TaskGraph}
use Rattle.nemo_core.proofs.Single.{within_fresh}
use Rattle.nemo_core.proofs.machine.Core.start.Goals as goal

pub invariant_of-result : goal.invariant_of-result
invariant_of-result c =
    let copied = ap (λ (g : TaskGraph). length g.stages) c.in_ok-graph.ensures.graph in
    within_fresh c.in_ok-graph.graph.stages c.in_ok-tasks.field-0.tasks c.in_ok-tasks.field-0.sealed.items (omega (arith, copied, c.len.ensures, c.if-len-gt-MAX_STAGES.false)) c.in_ok-tasks.ensures.tasks c.in_ok-tasks.ensures.sealed
