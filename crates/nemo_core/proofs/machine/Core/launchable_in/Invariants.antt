use Rattle.std.proofs.Common.{◌≡◌, ◌-◌}
use Rattle.nemo_value.specs.Counted.{below, counted}
use Rattle.nemo_core.specs.Reading.{first_of, may_launch}
use Rattle.nemo_core.proofs.machine.Core.launchable_in.Given as goal

-- the first answer of the tasks that are left is that of all
abbrev pub invariant-loop-index : goal.invariant-loop-index
invariant-loop-index l = first_of (may_launch l.self l.slot l.stage) (counted l.index (l.count - l.index)) ≡ first_of (may_launch l.self l.slot l.stage) (below l.count)
