use Rattle.std.proofs.Common.{◌≡◌, ◌++◌, map, take, drop, length}
use Rattle.nemo_annotate.specs.Passes.{with_pattern}
use Rattle.nemo_annotate.proofs.patterns.set_all.Given as goal

-- the edges so far, with what becomes of the rest
abbrev pub invariant-loop-i : goal.invariant-loop-i
invariant-loop-i l = record {
  done : take l.i l.edges ++ map (with_pattern l.flat l.vertices) (drop l.i l.edges) ≡ map (with_pattern l.flat l.vertices) l.initial.edges;
  size : length l.edges ≡ length l.initial.edges;
}
