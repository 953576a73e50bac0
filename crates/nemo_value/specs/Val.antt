-- The value of an expression on a record, or its fault.
use Rattle.std.specs.Prelude.{ℕ, zero, ◌^◌, ℤ, pos, negsuc, ◌+ℤ◌, ◌-ℤ◌, ◌*ℤ◌, int_div, int_rem, List, length, slice_get, Bool, true, false, not, nat_lt, if◌then◌else◌, Option, Some, None, Result, Ok, Err}
use Rattle.std.specs.Ordering.{is_lt, is_eq}
use Rattle.nemo_value.specs.Order.{field_cmp}
use Rattle.nemo_value.specs.Texts.{joined}
use Rattle.nemo_value.specs.declared.field.Field.{Field}
use Rattle.nemo_value.specs.declared.field.Field.TheVariants.{Int, Text}
use Rattle.nemo_value.specs.declared.expr.Expr.{Expr, fold-Expr}
use Rattle.nemo_value.specs.declared.expr.Expr.TheOpen.{Expr-F}
use Rattle.nemo_value.specs.declared.expr.Oper.{Oper}
use Rattle.nemo_value.specs.declared.expr.Oper.TheVariants.{Add, Sub, Mul, Div, Rem, Less, Same, Cat}
use Rattle.nemo_value.specs.declared.expr.Kind.{Kind}
use Rattle.nemo_value.specs.declared.expr.Kind.TheVariants.{DivZero, Overflow, Typed, NoField, Long}

-- whether a whole number fits 64 bits
abbrev pub fits_i64 : ℤ → Bool
fits_i64 (pos n) = nat_lt n (2 ^ 63)
fits_i64 (negsuc n) = nat_lt n (2 ^ 63)

-- an exact whole number as a field
abbrev pub whole : ℤ → Result Field Kind
whole z = if fits_i64 z then Ok (Int z) else Err Overflow

abbrev pub is_zero : ℤ → Bool
is_zero (pos zero) = true
is_zero _ = false

-- the quotient cut towards zero
abbrev pub quotient_of : ℤ → ℤ → Result Field Kind
quotient_of x y = if is_zero y then Err DivZero else whole (int_div x y)

-- what the quotient leaves
abbrev pub rest_of : ℤ → ℤ → Result Field Kind
rest_of x y = if is_zero y then Err DivZero else whole (int_rem x y)

-- an operator on whole numbers
abbrev pub on_numbers : Oper → ℤ → ℤ → Result Field Kind
on_numbers Add x y = whole (x +ℤ y)
on_numbers Sub x y = whole (x -ℤ y)
on_numbers Mul x y = whole (x *ℤ y)
on_numbers Div x y = quotient_of x y
on_numbers Rem x y = rest_of x y
on_numbers _ x y = Err Typed

-- a truth as a field
abbrev pub truth : Bool → Field
truth true = Int (pos 1)
truth false = Int (pos 0)

abbrev pub text_or : Kind → Option (List ℕ) → Result Field Kind
text_or k (Some t) = Ok (Text t)
text_or k None = Err k

-- an operator on fields
abbrev pub arithmetic : Oper → Field → Field → Result Field Kind
arithmetic o (Int x) (Int y) = on_numbers o x y
arithmetic o _ _ = Err Typed

abbrev pub joining : Field → Field → Result Field Kind
joining (Text x) (Text y) = text_or Long (joined x y)
joining _ _ = Err Typed

abbrev pub on_fields : Oper → Field → Field → Result Field Kind
on_fields Less x y = Ok (truth (is_lt (field_cmp x y)))
on_fields Same x y = Ok (truth (is_eq (field_cmp x y)))
on_fields Cat x y = joining x y
on_fields o x y = arithmetic o x y

-- both operands, from left to right, and then the operator
abbrev pub on_both : Oper → Result Field Kind → Result Field Kind → Result Field Kind
on_both o (Err k) y = Err k
on_both o (Ok x) (Err k) = Err k
on_both o (Ok x) (Ok y) = on_fields o x y

-- whether a test is a number other than 0
abbrev pub holds : Field → Result Bool Kind
holds (Int z) = Ok (not (is_zero z))
holds (Text t) = Err Typed

abbrev pub picked : Result Bool Kind → Result Field Kind → Result Field Kind → Result Field Kind
picked (Err k) x y = Err k
picked (Ok true) x y = x
picked (Ok false) x y = y

-- the first where the test holds, and else the second
abbrev pub chosen : Result Field Kind → Result Field Kind → Result Field Kind → Result Field Kind
chosen (Err k) x y = Err k
chosen (Ok test) x y = picked (holds test) x y

abbrev pub length_of : Result Field Kind → Result Field Kind
length_of (Err k) = Err k
length_of (Ok (Int z)) = Err Typed
length_of (Ok (Text t)) = Ok (Int (pos (length t)))

abbrev pub field_or : Option Field → Result Field Kind
field_or (Some f) = Ok f
field_or None = Err NoField

-- one level, with the value or the fault of each operand in its place
abbrev pub val_step : List Field → Expr-F (Result Field Kind) → Result Field Kind
val_step r (Expr-F.Get k) = field_or (slice_get r k)
val_step r (Expr-F.Const x) = Ok x
val_step r (Expr-F.Pair o x y) = on_both o x y
val_step r (Expr-F.If c x y) = chosen c x y
val_step r (Expr-F.Len x) = length_of x

-- the value of an expression on the fields of a record, or its fault
abbrev pub val : Expr → List Field → Result Field Kind
val e r = fold-Expr (Result Field Kind) (val_step r) e
