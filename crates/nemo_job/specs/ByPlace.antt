-- What the copies of a job's vertices give, named by their places.
use Rattle.std.specs.Prelude.{ℕ, List, [], length, map}
use Rattle.nemo_value.specs.Along.{along}
use Rattle.nemo_transform.specs.Brought.{Brought, port, at}
use Rattle.nemo_transform.specs.declared.transform.Transform.{Transform}

-- what a port brings, in which a vertex is named by its place
abbrev pub ByPlace : Type 0
ByPlace = Brought ℕ

-- a vertex as its transform and the places of the vertices that its ports take
pub record Placed : Type 0 where
  pub transform : Transform
  pub inputs : List ℕ

-- what a vertex gives on what those before it give
abbrev pub value_after : List ByPlace → Placed → ByPlace
value_after done p = at (length done) p.transform (map (port done) p.inputs)

abbrev pub values_from : List ByPlace → List Placed → List ByPlace
values_from = along value_after

-- what each vertex gives
abbrev pub values : List Placed → List ByPlace
values ps = values_from [] ps
