use Rattle.std.proofs.Common.{◌≡◌, ◌≤◌, ◌-◌, take, drop, length, replicate}
use Rattle.nemo_base.specs.Cuts.{bad_cut}
use Rattle.nemo_base.proofs.cuts.Cuts.new.Given as goal

-- the entries so far are good, and stand at their places, with 0 after them
abbrev pub invariant-loop-place : goal.invariant-loop-place
invariant-loop-place l = record {
  so_far : take l.place l.places ≡ take l.place l.list;
  zeros : drop l.place l.places ≡ replicate (63 - l.place) 0;
  room : length l.places ≡ 63;
  few : l.place ≤ 63;
  good : bad_cut 0 0 l.list ≡ bad_cut l.place l.before (drop l.place l.list);
}
