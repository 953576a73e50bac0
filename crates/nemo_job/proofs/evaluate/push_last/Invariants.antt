use Rattle.std.proofs.Common.{◌≡◌, [], ◌++◌, map, replicate}
use Rattle.nemo_transform.specs.Through.{clean}
use Rattle.nemo_job.specs.Held.{known}
use Rattle.nemo_job.proofs.evaluate.push_last.Given as goal

-- so many of which nothing is held stand behind the others
abbrev pub invariant-loop : goal.invariant-loop
invariant-loop l = map known l.held.items ≡ map known l.initial.held.items ++ replicate l.counter (clean [])
