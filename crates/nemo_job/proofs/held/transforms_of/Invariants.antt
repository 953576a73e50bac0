use Rattle.std.proofs.Common.{◌≡◌, map, take}
use Rattle.nemo_job.specs.Held.{transform_of}
use Rattle.nemo_job.proofs.held.transforms_of.Given as goal

-- those of the vertices so far
abbrev pub invariant-loop-node : goal.invariant-loop-node
invariant-loop-node l = map (λ t. t.now) l.transforms.items ≡ map transform_of (take l.node-index l.line)
