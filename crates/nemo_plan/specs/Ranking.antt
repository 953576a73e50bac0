-- One more than a rank that is read.
use Rattle.std.specs.Prelude.{ℕ, suc, List, slice_index_or}
use Rattle.nemo_base.specs.declared.graph.Read.{Read}
use Rattle.nemo_plan.specs.Graph.{of_stage}
use Rattle.nemo_plan.specs.Stages.{stage_at}

abbrev pub rank_over : List ℕ → List ℕ → Read → ℕ
rank_over stages ranks r = suc (of_stage (λ s. slice_index_or ranks s 0) (stage_at stages r.vertex))
