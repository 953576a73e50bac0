use Rattle.std.proofs.Common.{◌≡◌, drop}
use Rattle.nemo_core.specs.Needed.{below}
use Rattle.nemo_core.specs.Numbered.{first_at}
use Rattle.nemo_core.specs.Reading.{first_of, may_launch}
use Rattle.nemo_core.proofs.machine.Core.launchable.Given as goal

-- the first answer of the stages that are left is that of all
abbrev pub invariant-loop-stage : goal.invariant-loop-stage
invariant-loop-stage l =
    first_at (λ stage row. first_of (may_launch l.self l.slot stage) (below row.parallelism)) l.stage (drop l.stage l.row-items)
    ≡ first_at (λ stage row. first_of (may_launch l.self l.slot stage) (below row.parallelism)) 0 l.row-items
