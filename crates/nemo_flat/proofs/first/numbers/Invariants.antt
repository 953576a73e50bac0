use Rattle.std.proofs.Common.{◌≡◌, ◌++◌, ◌-◌}
use Rattle.nemo_ir.specs.Along.{below, counted}
use Rattle.nemo_flat.proofs.first.numbers.Given as goal

-- the numbers so far, and then those that are left, are all numbers
abbrev pub invariant-loop-i : goal.invariant-loop-i
invariant-loop-i l = l.all ++ counted l.i (l.count - l.i) ≡ below l.count
