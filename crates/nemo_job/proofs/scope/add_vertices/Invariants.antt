use Rattle.std.proofs.Common.{◌≡◌, ℕ, ◌+◌, List, drop, map}
use Rattle.std.specs.Option.{option_or}
use Rattle.nemo_job.specs.Sites.{faces, standing}
use Rattle.nemo_job.specs.ByName.{named_in}
use Rattle.nemo_job.specs.Walks.{first_named}
use Rattle.nemo_job.proofs.scope.add_vertices.Given as goal

-- what the map has so far, and then what is left
abbrev pub invariant-loop-place : goal.invariant-loop-place
invariant-loop-place l = (q : List ℕ)
    → option_or (named_in l.scope q) (first_named q (l.from + l.place) (faces (map standing (drop l.place l.vertices))))
    ≡ option_or (named_in l.fn.scope q) (first_named q l.from (faces (map standing l.vertices)))
