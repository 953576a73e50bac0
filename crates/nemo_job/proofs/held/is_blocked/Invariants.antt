use Rattle.std.proofs.Common.{◌≡◌, List, map, take, false}
use Rattle.std.specs.List.{list_any}
use Rattle.nemo_transform.specs.Brought.{port}
use Rattle.nemo_job.specs.ByPlace.{ByPlace}
use Rattle.nemo_job.specs.Held.{Feeds, known}
use Rattle.nemo_job.proofs.Blocking.{has_faults}
use Rattle.nemo_job.proofs.held.is_blocked.Given as goal

-- no input so far has brought a fault
abbrev pub invariant-loop-input : goal.invariant-loop-input
invariant-loop-input l = (vals : List ByPlace) → Feeds vals (map known l.held) l.inputs → list_any (λ j. has_faults (port vals j)) (take l.input-index l.input-items) ≡ false
