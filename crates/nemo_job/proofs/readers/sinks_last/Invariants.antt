use Rattle.std.proofs.Common.{◌≡◌, length, map, take}
use Rattle.nemo_job.specs.Held.{node_of}
use Rattle.nemo_job.specs.Readers.{end_of}
use Rattle.nemo_job.proofs.readers.sinks_last.Given as goal

-- the numbers so far
abbrev pub invariant-loop-node : goal.invariant-loop-node
invariant-loop-node l = l.last.items ≡ map (λ n. end_of (length l.nodes) (node_of n)) (take l.node-index l.nodes)
