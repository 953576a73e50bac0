use Rattle.std.proofs.Common.{◌≡◌, ◌==◌, map, take}
use Rattle.std.specs.List.{list_any}
use Rattle.nemo_ir.specs.Along.{below, passes}
use Rattle.nemo_plan.specs.Stages.{stage_at}
use Rattle.nemo_plan.proofs.ahead.sources.Given as goal

-- those from which the edges so far come
abbrev pub invariant-loop-e : goal.invariant-loop-e
invariant-loop-e l = l.table.items ≡ map (λ s. list_any (λ e. passes (λ a. a == s) (stage_at l.stages e.from)) (take l.e-index l.e-items)) (below l.count)
