use Rattle.std.proofs.Common.{◌≡◌, List, map, take}
use Rattle.std.specs.Prelude.{option_map}
use Rattle.nemo_transform.specs.Brought.{port, all_faults}
use Rattle.nemo_transform.specs.FirstFault.{first_fault, arisen_at}
use Rattle.nemo_job.specs.ByPlace.{ByPlace}
use Rattle.nemo_job.specs.Held.{Feeds, known}
use Rattle.nemo_job.proofs.held.passed_on.Given as goal

-- so far it is the first of the faults of the inputs
abbrev pub invariant-loop-input : goal.invariant-loop-input
invariant-loop-input l = (vals : List ByPlace) → Feeds vals (map known l.held) l.inputs → option_map arisen_at l.first ≡ first_fault (all_faults (map (port vals) (take l.input-index l.inputs)))
