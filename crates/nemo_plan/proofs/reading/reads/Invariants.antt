use Rattle.std.proofs.Common.{◌≡◌, slice_get, take}
use Rattle.std.specs.List.{flat_map}
use Rattle.nemo_plan.specs.Graph.{reads_into}
use Rattle.nemo_plan.proofs.reading.reads.Given as goal

abbrev pub invariant-loop-v : goal.invariant-loop-v
invariant-loop-v l = l.all ≡ flat_map (λ v. reads_into l.flat l.index l.stages v (slice_get l.index.vertices v)) (take l.v-index l.members)
