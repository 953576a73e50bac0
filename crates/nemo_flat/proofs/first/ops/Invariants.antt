use Rattle.std.proofs.Common.{◌≡◌, ◌++◌, drop, map}
use Rattle.nemo_flat.specs.FirstDag.{op_of}
use Rattle.nemo_flat.proofs.first.ops.Given as goal

-- the Ops so far, and then those of the vertices that are left, are all Ops
abbrev pub invariant-loop-x : goal.invariant-loop-x
invariant-loop-x l = l.all ++ map op_of (drop l.x-index l.vertices) ≡ map op_of l.vertices
