-- Expressions before their operands are read, as the readers give them.
use Rattle.serde_json.specs.View.{view}
use Rattle.nemo_read.specs.Exprs as spec
use Rattle.nemo_read.specs.declared.expression.Shape.{Shape}
use Rattle.nemo_read.specs.declared.expression.Shape.TheVariants.{Whole, Len, Pair, Choice}

abbrev pub shape_view : Shape → spec.Shape
shape_view (Whole e) = spec.Whole e
shape_view (Len a) = spec.Length (view a.now)
shape_view (Pair o a b) = spec.Both o (view a.now) (view b.now)
shape_view (Choice c a b) = spec.Choice (view c.now) (view a.now) (view b.now)
