-- The order of texts, fields and records.
use Rattle.std.specs.Prelude.{ℕ, ℤ, List, [], ◌∷◌, Option, Some, None}
use Rattle.std.specs.Ordering.{nat_cmp, int_cmp}
use Rattle.std.specs.Cmp.Lexicographic.{slice_cmp}
use Rattle.std.specs.declared.cmp.Ordering.{Ordering}
use Rattle.std.specs.declared.cmp.Ordering.TheVariants.{Less, Greater}
use Rattle.nemo_value.specs.declared.field.Field.{Field}
use Rattle.nemo_value.specs.declared.field.Field.TheVariants.{Int, Text}

-- by bytes, a proper prefix first
abbrev pub text_cmp : List ℕ → List ℕ → Ordering
text_cmp = slice_cmp nat_cmp

-- numbers stand before texts, numbers by value
abbrev pub field_cmp : Field → Field → Ordering
field_cmp (Int x) (Int y) = int_cmp x y
field_cmp (Int x) (Text t) = Less
field_cmp (Text s) (Int y) = Greater
field_cmp (Text s) (Text t) = text_cmp s t

-- by the fields from the first, a proper prefix first
abbrev pub record_cmp : List Field → List Field → Ordering
record_cmp = slice_cmp field_cmp

-- the number that the first field is, if it is one
abbrev pub number_of : List Field → Option ℤ
number_of (Int z ∷ fs) = Some z
number_of (Text s ∷ fs) = None
number_of [] = None
