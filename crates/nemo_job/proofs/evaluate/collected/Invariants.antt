use Rattle.std.proofs.Common.{length, map}
use Rattle.std.specs.Prelude.{option_map}
use Rattle.nemo_transform.specs.FirstFault.{arisen_at}
use Rattle.nemo_job.specs.ByPlace.{values}
use Rattle.nemo_job.specs.Held.{node_of}
use Rattle.nemo_job.proofs.Collecting.{SoFar}
use Rattle.nemo_job.proofs.evaluate.collected.Given as goal

-- what the sinks so far got
abbrev pub invariant-loop-node : goal.invariant-loop-node
invariant-loop-node l = SoFar (map node_of l.nodes) (values (map node_of l.nodes)) (length l.yielded) l.ending.sinks.items (option_map arisen_at l.ending.first)
