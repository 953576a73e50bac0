use Rattle.std.proofs.Common.{◌≡◌, List, map, take}
use Rattle.nemo_transform.specs.Brought.{port, all_rows}
use Rattle.nemo_job.specs.ByPlace.{ByPlace}
use Rattle.nemo_job.specs.Held.{Feeds, known}
use Rattle.nemo_job.proofs.held.joined.Given as goal

-- so far these are the rows of the inputs
abbrev pub invariant-loop-input : goal.invariant-loop-input
invariant-loop-input l = (vals : List ByPlace) → Feeds vals (map known l.held) l.inputs → l.all.items ≡ all_rows (map (port vals) (take l.input-index l.inputs))
