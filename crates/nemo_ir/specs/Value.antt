-- What each vertex of a flat job gives, on whole inputs.
use Rattle.std.specs.Prelude.{ℕ, List, [], length, map, Option, Some, None}
use Rattle.nemo_transform.specs.Brought.{Brought, nothing, port, at}
use Rattle.nemo_transform.specs.declared.transform.Transform.{Transform}
use Rattle.nemo_ir.specs.Along.{along}
use Rattle.nemo_ir.specs.Flat.{FlatForm, transform_of}
use Rattle.nemo_ir.specs.declared.flat.FlatVertex.{FlatVertex}

-- what goes from vertex to vertex, in which a vertex is named by its number in the flat job
abbrev pub ByNumber : Type 0
ByNumber = Brought ℕ

abbrev pub at_or_nothing : ℕ → Option Transform → List ByNumber → ByNumber
at_or_nothing x (Some t) ports = at x t ports
at_or_nothing x None ports = nothing

abbrev pub value_step : FlatForm → List ByNumber → FlatVertex → ByNumber
value_step flat done x = at_or_nothing (length done) (transform_of flat x) (map (port done) x.inputs)

abbrev pub values : FlatForm → List ByNumber
values flat = along (value_step flat) [] flat.vertices

-- what a vertex gives
abbrev pub value : FlatForm → ℕ → ByNumber
value flat x = port (values flat) x
