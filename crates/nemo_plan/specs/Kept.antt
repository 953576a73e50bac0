-- What a plan keeps.
use Rattle.std.specs.Prelude.{◌≡◌, ℕ, List, map, true}
use Rattle.nemo_base.specs.Sound.{is_sound}
use Rattle.nemo_base.specs.declared.graph.TaskGraph.{TaskGraph}
use Rattle.nemo_ir.specs.Along.{below}
use Rattle.nemo_ir.specs.Flat.{FlatForm, IsFlat}
use Rattle.nemo_ir.specs.Valid.{Valid}
use Rattle.nemo_ir.specs.declared.dag.IrDag.{IrDag}
use Rattle.nemo_plan.specs.Graph.{graph_of, vertices_of}
use Rattle.nemo_plan.specs.Stages.{count_stages, stages_of}

-- the vertices of each stage
abbrev pub stage_lists : FlatForm → IrDag → List (List ℕ)
stage_lists flat dag = map (vertices_of (stages_of flat dag)) (below (count_stages (stages_of flat dag)))

pub record IsPlan (flat : FlatForm) (dag : IrDag) (stages : List (List ℕ)) (graph : TaskGraph) : Type 0 where
  pub job : IsFlat flat
  pub valid : Valid flat dag
  pub cut : stages ≡ stage_lists flat dag
  pub is : graph ≡ graph_of flat dag
  pub sound : is_sound graph ≡ true
