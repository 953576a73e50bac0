-- Where the ancestors of a vertex stand: in its stage, or in a sealed one.
use Rattle.std.proofs.Common.{arith, ◌≡◌, ◌∙◌, ap, sym, subst, refl, ℕ, ◌<◌, true, length, slice_get, Some, inl, inr, ◌⊎◌}
use Rattle.std.proofs.lemmas.Option.{slice_get_within}
use Rattle.nemo_base.specs.declared.graph.TaskGraph.{TaskGraph}
use Rattle.nemo_base.specs.declared.graph.VertexRow.{VertexRow}
use Rattle.nemo_base.proofs.Finding.{same_item}
use Rattle.nemo_ir.specs.Rewrites.{Leads, here, on}
use Rattle.nemo_ir.specs.declared.dag.IrVertex.{IrVertex}
use Rattle.nemo_ir.proofs.Places.{got}
use Rattle.nemo_core.specs.State.{State, reads_by}
use Rattle.nemo_core.specs.Step.{is_sealed}
use Rattle.nemo_plan.specs.Form.{PlanForm}
use Rattle.nemo_plan.specs.Over.{is_of_stage}
use Rattle.nemo_plan.specs.Stages.{stage_at, stages_of}
use Rattle.nemo_plan.specs.Wiring.{IsWired, read_by}
use Rattle.nemo_plan.proofs.Reaching.{is_stage, stage_is}
use Rattle.nemo_value.specs.Members.{In}
use Rattle.nemo_laws.specs.Recomputation.{AreReadsSealed}

-- the vertex lies in this stage
pub record LiesIn (g : TaskGraph) (stage v : ℕ) : Type 0 where
  pub row : VertexRow
  pub there : slice_get g.vertices v ≡ Some row
  pub is : row.stage ≡ stage

-- a vertex lies in the stage, or in one that is sealed
pub record Stands (g : TaskGraph) (s : State) (stage v : ℕ) : Type 0 where
  pub row : VertexRow
  pub there : slice_get g.vertices v ≡ Some row
  pub either : (row.stage ≡ stage) ⊎ (is_sealed s row.stage ≡ true)

-- every stage that a sealed stage reads is sealed
abbrev pub AreClosed : TaskGraph → State → Type 0
AreClosed g s = (stage : ℕ) → is_sealed s stage ≡ true → AreReadsSealed g s stage

module _ (p : PlanForm) (g : TaskGraph) (wired : IsWired p g) where
  pub row_there : (v : ℕ) → v < length p.dag.vertices → (row : VertexRow) × (slice_get g.vertices v ≡ Some row)
  row_there v less = let count : length g.vertices ≡ length p.dag.vertices = wired.vertex_count in got g.vertices v (omega (arith, less, count))

  pub vertex_there : (v : ℕ) (row : VertexRow) → slice_get g.vertices v ≡ Some row → (u : IrVertex) × (slice_get p.dag.vertices v ≡ Some u)
  vertex_there v row there =
      let count : length g.vertices ≡ length p.dag.vertices = wired.vertex_count in
      let less : v < length g.vertices = slice_get_within g.vertices v row there in
      got p.dag.vertices v (omega (arith, less, count))

  pub staged_at : (v : ℕ) (row : VertexRow) → slice_get g.vertices v ≡ Some row → stage_at (stages_of p.flat p.dag) v ≡ Some row.stage
  staged_at v row there = let u = vertex_there v row there in (wired.rows v u.0 row u.1 there).stage

  -- what is of a stage lies in it
  pub lies_in : (stage v : ℕ) → is_of_stage (stages_of p.flat p.dag) stage v ≡ true → LiesIn g stage v
  lies_in stage v own =
      let at = stage_is (stage_at (stages_of p.flat p.dag) v) stage own in
      let less : v < length (stages_of p.flat p.dag) = slice_get_within (stages_of p.flat p.dag) v stage at in
      let count : length (stages_of p.flat p.dag) ≡ length p.dag.vertices = wired.staged in
      let row = row_there v (omega (arith, less, count)) in
      record { row = row.0; there = row.1; is = same_item row.0.stage stage (sym (staged_at v row.0 row.1) ∙ at) }

  pub of_stage : (stage v : ℕ) (row : VertexRow) → slice_get g.vertices v ≡ Some row → row.stage ≡ stage → is_of_stage (stages_of p.flat p.dag) stage v ≡ true
  of_stage stage v row there is = is_stage (stage_at (stages_of p.flat p.dag) v) stage (staged_at v row there ∙ ap Some is)

  -- an ancestor of a vertex of a stage whose reads are sealed
  pub ancestor : (s : State) → AreClosed g s → (stage u v : ℕ) → AreReadsSealed g s stage → (row : VertexRow) → slice_get g.vertices v ≡ Some row → row.stage ≡ stage
      → Leads p.dag u v → Stands g s stage u
  ancestor s closed stage u v reads row there is (here w) = record { row = row; there = there; either = inl is }
  ancestor s closed stage u v reads row there is (on w x i e at to leads) =
      let rise = wired.edges_rise i e at in
      let low : e.from < e.to = rise.0 in
      let high : e.to < length p.dag.vertices = rise.1 in
      let before = row_there e.from (omega (arith, low, high)) in
      elim (wired.edges_join i e row before.0 at (ap (slice_get g.vertices) to ∙ there) before.1) [
        | inl same ↦ ancestor s closed stage w e.from reads before.0 before.1 (same.0 ∙ is) leads
        | inr read ↦
            let member = subst (λ o. In (read_by e.from e.pattern) (reads_by o)) (sym (ap (slice_get g.stages) (sym is) ∙ read.is)) read.reads in
            let sealed = reads (read_by e.from e.pattern) before.0 member before.1 in
            let next = ancestor s closed before.0.stage w e.from (closed before.0.stage sealed) before.0 before.1 refl leads in
            record { row = next.row; there = next.there; either = go next sealed }
      ]
    where
      go : {other : ℕ} (next : Stands g s other w) → is_sealed s other ≡ true → (next.row.stage ≡ stage) ⊎ (is_sealed s next.row.stage ≡ true)
      go next sealed = elim next.either [ inl own ↦ inr (ap (is_sealed s) own ∙ sealed) | inr yet ↦ inr yet ]
