use Rattle.std.proofs.Common.{◌≡◌, ◌++◌, drop}
use Rattle.nemo_flat.specs.Table.{all_operations}
use Rattle.nemo_flat.proofs.table.+table.Given as goal

-- those so far, and then those of the vertices that are left
abbrev pub invariant-add_all-loop-v : goal.invariant-add_all-loop-v
invariant-add_all-loop-v l = l.all ++ all_operations (drop l.v-index l.vertices) ≡ l.initial.all ++ all_operations l.vertices
