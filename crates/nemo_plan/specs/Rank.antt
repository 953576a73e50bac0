-- What the rank of a stage is.
use Rattle.std.specs.Prelude.{◌≡◌, ◌<◌, ℕ, suc, map, Some}
use Rattle.nemo_base.specs.declared.graph.Read.{Read}
use Rattle.nemo_value.specs.Members.{In}
use Rattle.nemo_ir.specs.Flat.{FlatForm, IsFlat}
use Rattle.nemo_ir.specs.Valid.{Valid}
use Rattle.nemo_ir.specs.declared.dag.IrDag.{IrDag}
use Rattle.nemo_plan.specs.Graph.{greatest, of_stage, rank_of, reads_of}
use Rattle.nemo_plan.specs.Stages.{count_stages, stage_at, stages_of}

pub record IsRanked (flat : FlatForm) (dag : IrDag) (s : ℕ) : Type 0 where
  -- 0 where it reads nothing, and one more than the greatest rank that it reads
  pub rank : rank_of flat dag (stages_of flat dag) s
      ≡ greatest (map (λ r. suc (of_stage (rank_of flat dag (stages_of flat dag)) (stage_at (stages_of flat dag) r.vertex))) (reads_of flat dag (stages_of flat dag) s))
  -- a stage that it reads has a lower rank
  pub falls : (r : Read) (other : ℕ) → In r (reads_of flat dag (stages_of flat dag) s) → stage_at (stages_of flat dag) r.vertex ≡ Some other
      → rank_of flat dag (stages_of flat dag) other < rank_of flat dag (stages_of flat dag) s

-- The rank of each stage is made of the ranks of those that it reads.
abbrev pub RankLaw : Type 0
RankLaw = (flat : FlatForm) (dag : IrDag) → IsFlat flat → Valid flat dag → (s : ℕ) → s < count_stages (stages_of flat dag) → IsRanked flat dag s
