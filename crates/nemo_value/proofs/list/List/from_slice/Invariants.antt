use Rattle.std.proofs.Common.{◌≡◌, take}
use Rattle.nemo_value.proofs.list.List.from_slice.Given as goal

-- the copies so far equal the first items
abbrev pub invariant-loop-item : goal.invariant-loop-item
invariant-loop-item g l = l.copies ≡ take l.item-index l.items
