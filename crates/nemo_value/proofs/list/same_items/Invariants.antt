use Rattle.std.proofs.Common.{◌≡◌, take, length}
use Rattle.nemo_value.proofs.list.same_items.Given as goal

-- the items so far are equal, and there are as many in both
abbrev pub invariant-loop-i : goal.invariant-loop-i
invariant-loop-i g l = record { so_far : take l.i l.a ≡ take l.i l.b; lengths : length l.a ≡ length l.b }
