-- The order of the kinds of faults.
use Rattle.std.specs.Prelude.{ℕ}
use Rattle.std.specs.Ordering.{nat_cmp, on}
use Rattle.std.specs.declared.cmp.Ordering.{Ordering}
use Rattle.nemo_value.specs.declared.expr.Kind.{Kind}
use Rattle.nemo_value.specs.declared.expr.Kind.TheVariants.{DivZero, Overflow, Typed, NoField, Wide, Long}

abbrev pub kind_place : Kind → ℕ
kind_place DivZero = 0
kind_place Overflow = 1
kind_place Typed = 2
kind_place NoField = 3
kind_place Wide = 4
kind_place Long = 5

abbrev pub kind_cmp : Kind → Kind → Ordering
kind_cmp = on kind_place nat_cmp
