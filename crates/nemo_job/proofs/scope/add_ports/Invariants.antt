use Rattle.std.proofs.Common.{◌≡◌, ℕ, List, drop, map}
use Rattle.std.specs.Option.{option_or}
use Rattle.nemo_job.specs.Sites.{port_face}
use Rattle.nemo_job.specs.ByName.{named_in}
use Rattle.nemo_job.specs.Walks.{first_named}
use Rattle.nemo_job.proofs.scope.add_ports.Given as goal

-- what the map has so far, and then what is left
abbrev pub invariant-loop-position : goal.invariant-loop-position
invariant-loop-position l = (q : List ℕ)
    → option_or (named_in l.scope q) (first_named q l.position (map port_face (drop l.position l.carry)))
    ≡ option_or (named_in l.fn.scope q) (first_named q 0 (map port_face l.carry))
