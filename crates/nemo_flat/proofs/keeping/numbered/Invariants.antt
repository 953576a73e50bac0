use Rattle.std.proofs.Common.{◌≡◌, map, take, slice_index_or}
use Rattle.nemo_flat.proofs.keeping.numbered.Given as goal

-- the numbers so far
abbrev pub invariant-loop-place : goal.invariant-loop-place
invariant-loop-place l = l.all ≡ map (λ j. slice_index_or l.numbers j 0) (take l.place-index l.places)
