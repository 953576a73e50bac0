use Rattle.std.proofs.Common.{◌≡◌, ◌-◌, ◌≤◌, length, map, take}
use Rattle.nemo_transform.specs.Through as spec
use Rattle.nemo_transform.specs.Through.{clean, passed}
use Rattle.nemo_transform.proofs.lines.all_through.Given as goal

-- the rows so far have gone through
abbrev pub invariant-loop-start : goal.invariant-loop-start
invariant-loop-start l = record {
  within : l.start ≤ length l.rows;
  through : passed l.all ≡ spec.all_through l.place (map (λ t. t.now) l.line) (clean (take l.start l.rows));
}

abbrev pub decreases-loop-start : goal.decreases-loop-start
decreases-loop-start l = length l.rows - l.start
