use Rattle.std.proofs.Common.{◌≡◌, ◌-◌, ◌^◌, min, take}
use Rattle.nemo_flat.specs.Counts.{copies}
use Rattle.nemo_flat.proofs.counting.+count.Given as goal

-- the copies of the vertices so far
abbrev pub invariant-count_copies-loop-v : goal.invariant-count_copies-loop-v
invariant-count_copies-loop-v l = l.count ≡ min (copies (take l.v-index l.vertices)) (2 ^ 64 - 1)
