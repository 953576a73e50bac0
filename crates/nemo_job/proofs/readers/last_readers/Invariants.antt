use Rattle.std.proofs.Common.{map}
use Rattle.nemo_job.specs.Held.{node_of}
use Rattle.nemo_job.proofs.LastReaders.{IsLastFrom}
use Rattle.nemo_job.proofs.readers.last_readers.Given as goal

-- right for the vertices from this place on, and each number is one of those
abbrev pub invariant-loop-place : goal.invariant-loop-place
invariant-loop-place l = IsLastFrom (map node_of l.nodes) l.place l.last.items
