-- The names of a scope as a map, and the copies so far as a vector.
use Rattle.std.specs.Prelude.{◌≡◌, ◌≤◌, ℕ, List, length, map, Option, option_map}
use Rattle.std.specs.List.{find}
use Rattle.nemo_value.specs.Texts.{same_text}
use Rattle.nemo_job.specs.ByName.{named_in}
use Rattle.nemo_job.specs.Nodes.{copy_of}
use Rattle.nemo_job.specs.Unrolled.{Bound, Fed, Ports, Scope}
use Rattle.nemo_job.specs.Unrolled as unrolled
use Rattle.nemo_job.specs.declared.copies.Copies.{Copies}
use Rattle.nemo_job.specs.declared.names.Names.{Names}

-- the ports of the first of a name, where there is one
abbrev pub first_of_name : List ℕ → List Bound → Option Ports
first_of_name name bs = option_map (λ b. b.ports) (find (λ b. same_text b.name name) bs)

-- the map has the ports of the first of each name
abbrev pub HasNames : List Bound → Names → Type 0
HasNames bs names = (q : List ℕ) → named_in names.ports q ≡ first_of_name q bs

abbrev pub copies_of : Copies → unrolled.Copies
copies_of c = record { made = map copy_of c.nodes.items; next = c.next }

abbrev pub fed : Copies → Ports → Fed
fed c ports = record { copies = copies_of c; ports = ports }

-- no copy is gone
abbrev pub IsGrown : Copies → Copies → Type 0
IsGrown old new = length old.nodes.items ≤ length new.nodes.items

-- the copies and the names of a scope
pub record IsScope (s : Scope) (held : Copies) (by_name : Names) : Type 0 where
  pub copies : copies_of held ≡ s.copies
  pub names : HasNames s.names by_name
