use Rattle.std.proofs.Common.{◌≡◌, ◌-◌}
use Rattle.nemo_value.specs.Counted.{below, counted}
use Rattle.nemo_core.specs.Reading.{first_of, runs_there}
use Rattle.nemo_core.proofs.machine.Core.running_among.Given as goal

-- the first answer of the tasks that are left is that of all
abbrev pub invariant-loop-index : goal.invariant-loop-index
invariant-loop-index l = first_of (runs_there l.self.state l.attempt l.stage) (counted l.index (l.count - l.index)) ≡ first_of (runs_there l.self.state l.attempt l.stage) (below l.count)
