-- What contracts see of a plan.
use Rattle.nemo_base.specs.declared.graph.TaskGraph.{TaskGraph}
use Rattle.nemo_ir.specs.Flat.{FlatForm}
use Rattle.nemo_ir.specs.declared.dag.IrDag.{IrDag}
use Rattle.nemo_plan.specs.Graph.{graph_of}

-- a flat job, and the DAG that computes it
pub record PlanForm : Type 0 where
  pub flat : FlatForm
  pub dag : IrDag

abbrev pub graph : PlanForm → TaskGraph
graph p = graph_of p.flat p.dag
