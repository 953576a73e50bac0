use Rattle.std.proofs.Common.{◌≡◌, map, slice_get, take}
use Rattle.std.specs.List.{flat_map}
use Rattle.nemo_plan.specs.Graph.{reads_into}
use Rattle.nemo_plan.proofs.graph.all_reads.Given as goal

abbrev pub invariant-loop-members : goal.invariant-loop-members
invariant-loop-members l = l.all ≡ map (flat_map (λ v. reads_into l.flat l.index l.made.stages v (slice_get l.index.vertices v))) (take l.members-index l.members-items)
