-- The words of the kinds of faults.
use Rattle.std.specs.Prelude.{ℕ, List, codes}
use Rattle.nemo_value.specs.declared.expr.Kind.{Kind}
use Rattle.nemo_value.specs.declared.expr.Kind.TheVariants.{DivZero, Overflow, Typed, NoField, Wide, Long}

abbrev pub kind_word : Kind → List ℕ
kind_word DivZero = codes "DivZero"
kind_word Overflow = codes "Overflow"
kind_word Typed = codes "Type"
kind_word NoField = codes "NoField"
kind_word Wide = codes "Wide"
kind_word Long = codes "Long"
