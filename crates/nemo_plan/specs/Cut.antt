-- What the stages of a valid DAG keep.
use Rattle.std.specs.Prelude.{◌≡◌, ◌<◌, ℕ, length, slice_get, Some}
use Rattle.nemo_base.specs.declared.annotation.Flow.TheVariants.{Pull}
use Rattle.nemo_base.specs.declared.annotation.Pattern.TheVariants.{OneToOne}
use Rattle.nemo_ir.specs.Flat.{FlatForm, IsFlat}
use Rattle.nemo_ir.specs.Valid.{Valid}
use Rattle.nemo_ir.specs.declared.dag.IrDag.{IrDag}
use Rattle.nemo_ir.specs.declared.dag.IrEdge.{IrEdge}
use Rattle.nemo_ir.specs.declared.dag.IrVertex.{IrVertex}
use Rattle.nemo_plan.specs.Reach.{Reach}
use Rattle.nemo_plan.specs.Stages.{count_stages, stage_at, stages_of}

-- the stage of a vertex
pub record IsStaged (flat : FlatForm) (dag : IrDag) (v : ℕ) : Type 0 where
  pub stage : ℕ
  pub is : stage_at (stages_of flat dag) v ≡ Some stage
  pub below : stage < count_stages (stages_of flat dag)

-- a vertex of a stage
pub record HasVertex (flat : FlatForm) (dag : IrDag) (s : ℕ) : Type 0 where
  pub vertex : ℕ
  pub within : vertex < length dag.vertices
  pub is : stage_at (stages_of flat dag) vertex ≡ Some s

pub record IsCut (flat : FlatForm) (dag : IrDag) : Type 0 where
  -- each vertex has a stage, and each stage has a vertex
  pub staged : (v : ℕ) → v < length dag.vertices → IsStaged flat dag v
  pub filled : (s : ℕ) → s < count_stages (stages_of flat dag) → HasVertex flat dag s
  -- the vertices of a stage have one class and one parallelism
  pub class : (v w s : ℕ) (u x : IrVertex) → slice_get dag.vertices v ≡ Some u → slice_get dag.vertices w ≡ Some x
      → stage_at (stages_of flat dag) v ≡ Some s → stage_at (stages_of flat dag) w ≡ Some s → u.class ≡ x.class
  pub parallelism : (v w s : ℕ) (u x : IrVertex) → slice_get dag.vertices v ≡ Some u → slice_get dag.vertices w ≡ Some x
      → stage_at (stages_of flat dag) v ≡ Some s → stage_at (stages_of flat dag) w ≡ Some s → u.parallelism ≡ x.parallelism
  -- an edge within a stage goes task by task and is pulled
  pub within : (i s : ℕ) (e : IrEdge) → slice_get dag.edges i ≡ Some e → stage_at (stages_of flat dag) e.from ≡ Some s
      → stage_at (stages_of flat dag) e.to ≡ Some s → (e.pattern ≡ OneToOne) × (e.flow ≡ Pull)
  -- the stages are closed under no circle
  pub no_circle : (s t : ℕ) → Reach dag.edges (stages_of flat dag) s t → Reach dag.edges (stages_of flat dag) t s → s ≡ t

-- A valid DAG is cut into stages that wait for one another in no circle.
abbrev pub StagesLaw : Type 0
StagesLaw = (flat : FlatForm) (dag : IrDag) → IsFlat flat → Valid flat dag → IsCut flat dag
