use Rattle.std.proofs.Common.{◌≡◌, take, length}
use Rattle.nemo_check.specs.Tables.{standing_in}
use Rattle.nemo_check.proofs.tables.standing.Given as goal

-- the marks of the entries so far
abbrev pub invariant-loop-v : goal.invariant-loop-v
invariant-loop-v l = l.marks.items ≡ standing_in (length l.dag.vertices) (take l.v-index l.v-items)
