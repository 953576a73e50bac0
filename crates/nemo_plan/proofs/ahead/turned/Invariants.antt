use Rattle.std.proofs.Common.{◌≡◌, ◌++◌, filter, not, take}
use Rattle.nemo_plan.specs.Making.{stays_behind}
use Rattle.nemo_plan.proofs.ahead.turned.Given as goal

abbrev pub invariant-loop-other : goal.invariant-loop-other
invariant-loop-other l = l.turned ≡ filter (λ m. not (stays_behind l.sources l.closed l.stage m)) l.order ++ take l.other-index l.other-items
