use Rattle.std.proofs.Common.{◌≡◌, List, map, take}
use Rattle.nemo_job.specs.NamesBound.{HasNames}
use Rattle.nemo_job.specs.Unrolled.{Bound, source_of}
use Rattle.nemo_job.proofs.names.Names.sources.Given as goal

-- those of the references so far
abbrev pub invariant-loop-r : goal.invariant-loop-r
invariant-loop-r l = (bs : List Bound) → HasNames bs l.self → l.ports ≡ map (source_of bs) (take l.r-index l.refs)
