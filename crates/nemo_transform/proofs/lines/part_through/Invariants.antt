use Rattle.std.proofs.Common.{◌≡◌, ◌+◌, drop, map}
use Rattle.nemo_transform.specs.Through.{all_through, clean, passed}
use Rattle.nemo_transform.proofs.lines.part_through.Given as goal

-- what was made goes through the vertices that are left
abbrev pub invariant-loop-k : goal.invariant-loop-k
invariant-loop-k l = all_through (l.place + l.k) (map (λ t. t.now) (drop l.k l.line)) (passed l.made) ≡ all_through l.place (map (λ t. t.now) l.line) (clean l.part)
