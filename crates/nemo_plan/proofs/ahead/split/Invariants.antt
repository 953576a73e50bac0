use Rattle.std.proofs.Common.{◌≡◌, filter, not, take}
use Rattle.nemo_plan.specs.Making.{stays_behind}
use Rattle.nemo_plan.proofs.ahead.split.Given as goal

abbrev pub invariant-loop-other : goal.invariant-loop-other
invariant-loop-other l =
    (l.before ≡ filter (λ m. not (stays_behind l.sources l.closed l.stage m)) (take l.other-index l.order))
    × (l.behind ≡ filter (stays_behind l.sources l.closed l.stage) (take l.other-index l.order))
