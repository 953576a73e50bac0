-- A task of a plan of one stage reads nothing, so an attempt of it gives its part at each vertex.
use Rattle.std.proofs.Common.{arith, ◌≡◌, ◌∙◌, ap, ℕ, ◌<◌, List, length, slice_get, true}
use Rattle.std.proofs.lemmas.Option.{slice_get_within}
use Rattle.nemo_ir.specs.Nodes.{nodes}
use Rattle.nemo_ir.specs.Part.{Parts}
use Rattle.nemo_ir.proofs.PortEdges.{nodes_length}
use Rattle.nemo_plan.specs.Form.{PlanForm}
use Rattle.nemo_plan.specs.Over.{TellsAll, is_of_stage, part_over}
use Rattle.nemo_plan.specs.Stages.{stages_of}
use Rattle.nemo_plan.proofs.Cutting.{stages_are}
use Rattle.nemo_plan.proofs.Lists.{zeros, zeros_get}
use Rattle.nemo_plan.proofs.OverParts.{over_is}
use Rattle.nemo_plan.proofs.Reaching.{is_stage}
use Rattle.nemo_replay.specs.StageRun.{IsOneStage, first_stage, tasks_in}
use Rattle.nemo_replay.proofs.OneStage.{count, stage_plan}
use Rattle.nemo_replay.proofs.Tasks.{line_part, part_is}

module _ (p : PlanForm) (o : IsOneStage p) (cuts : ℕ → List ℕ) (outside : ℕ → Parts) (i : ℕ) where
  -- every vertex is of the first stage
  of_first : (v : ℕ) → v < count p → is_of_stage (stages_of p.flat p.dag) 0 v ≡ true
  of_first v l = ap (λ stages. is_of_stage stages 0 v) (stages_are p.flat p.dag o.flat o.line o.valid o.uniform) ∙ is_stage (slice_get (zeros (count p)) v) 0 (zeros_get (count p) v l)

  -- so no edge comes from another
  told : TellsAll p cuts outside (first_stage i)
  told v node producer f own at_v m other there =
      let size : length (nodes p.flat.transforms p.dag) ≡ count p = nodes_length p.flat.transforms p.dag.edges 0 p.dag.vertices in
      let within : f.from < length (nodes p.flat.transforms p.dag) = slice_get_within (nodes p.flat.transforms p.dag) f.from producer there in
      absurd (other (of_first f.from (omega arith)))

  pub over_part : (v : ℕ) → v < count p → part_over p cuts outside (first_stage i) v ≡ line_part p (tasks_in p) i v
  over_part v l = over_is p o.flat o.valid cuts outside (first_stage i) told v (of_first v l) ∙ part_is p (count p) (tasks_in p) (stage_plan p o) cuts v i l
