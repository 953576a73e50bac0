-- Whether a test lets rows pass.
use Rattle.std.specs.Prelude.{Result, Ok, Err, Bool, not}
use Rattle.nemo_value.specs.Val.{is_zero}
use Rattle.nemo_value.specs.declared.expr.Kind.{Kind}
use Rattle.nemo_value.specs.declared.expr.Kind.TheVariants.{Typed}
use Rattle.nemo_value.specs.declared.field.Field.{Field}
use Rattle.nemo_value.specs.declared.field.Field.TheVariants.{Int, Text}

-- whether the value of a test is a number other than 0, or its fault
abbrev pub passes : Result Field Kind → Result Bool Kind
passes (Ok (Int z)) = Ok (not (is_zero z))
passes (Ok (Text t)) = Err Typed
passes (Err k) = Err k
