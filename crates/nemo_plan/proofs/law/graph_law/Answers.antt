use Rattle.nemo_plan.proofs.Wires.{graph_wired}
use Rattle.nemo_plan.proofs.law.graph_law.Goals as goal

pub returns : goal.returns
returns c = graph_wired
