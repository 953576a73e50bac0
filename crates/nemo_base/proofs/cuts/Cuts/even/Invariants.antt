use Rattle.std.proofs.Common.{◌≡◌, ◌-◌, map, take, drop, length, replicate}
use Rattle.std.specs.List.{range_with_len}
use Rattle.nemo_base.specs.Cuts.{even_cut}
use Rattle.nemo_base.proofs.cuts.Cuts.even.Given as goal

-- the cuts so far are even, and the places after them 0
abbrev pub invariant-loop-i : goal.invariant-loop-i
invariant-loop-i l = record {
  so_far : take l.i l.places ≡ map (even_cut l.tasks) (range_with_len 1 l.i);
  zeros : drop l.i l.places ≡ replicate (63 - l.i) 0;
  room : length l.places ≡ 63;
}
