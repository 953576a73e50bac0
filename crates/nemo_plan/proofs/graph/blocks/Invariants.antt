use Rattle.std.proofs.Common.{◌≡◌, filter, slice_get, take}
use Rattle.nemo_ir.specs.Along.{passes}
use Rattle.nemo_plan.specs.Graph.{has_blocks}
use Rattle.nemo_plan.proofs.graph.blocks.Given as goal

abbrev pub invariant-loop-v : goal.invariant-loop-v
invariant-loop-v l = l.all ≡ filter (λ v. passes (has_blocks l.flat l.index l.stages v) (slice_get l.index.vertices v)) (take l.v-index l.members)
