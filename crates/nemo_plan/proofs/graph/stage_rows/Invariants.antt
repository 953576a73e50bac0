use Rattle.std.proofs.Common.{◌≡◌, map}
use Rattle.nemo_ir.specs.Along.{below}
use Rattle.nemo_plan.specs.Graph.{stage_row}
use Rattle.nemo_plan.proofs.graph.stage_rows.Given as goal

abbrev pub invariant-loop-stage : goal.invariant-loop-stage
invariant-loop-stage l = l.all ≡ map (stage_row l.flat l.index l.made.stages) (below l.stage)
