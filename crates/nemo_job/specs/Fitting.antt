-- What vertices have to be before they are looked at as a job.
use Rattle.std.specs.Prelude.{ℕ, ◌==◌, Bool, true, List, length}
use Rattle.std.specs.List.{list_all}
use Rattle.nemo_value.specs.Texts.{same_text}
use Rattle.nemo_transform.specs.Soundness.{is_sound}
use Rattle.nemo_transform.specs.declared.transform.Transform.{Transform}
use Rattle.nemo_transform.specs.declared.transform.Transform.TheVariants.{Union, Sink}
use Rattle.nemo_job.specs.Sites.{Doing, Does, Loops, Site, sites}
use Rattle.nemo_job.specs.declared.vertex.JobVertex.{JobVertex}

-- A union has as many ports as the vertex has inputs, a sink holds the vertex's name, and any other transform is sound.
abbrev pub fits : List ℕ → ℕ → Transform → Bool
fits name inputs (Union ports) = ports == inputs
fits name inputs (Sink own) = same_text own name
fits name inputs t = is_sound t

abbrev pub does_fit : List ℕ → ℕ → Doing → Bool
does_fit name inputs (Does t) = fits name inputs t
does_fit name inputs (Loops turns carry body next) = true

abbrev pub is_fitting : Site → Bool
is_fitting s = does_fit s.name (length s.inputs) s.doing

-- all vertices, also those in bodies
abbrev pub are_fitting : List JobVertex → Bool
are_fitting vs = list_all is_fitting (sites vs)
