-- What a reduce keeps of the rows of a key.
use Rattle.std.specs.Prelude.{ℕ, ℤ, pos, ◌+ℤ◌, unsigned_abs, Option, Some, None, Result, Ok, Err, Bool, true, false, if◌then◌else◌}
use Rattle.std.specs.Option.{option_copied}
use Rattle.std.specs.Ordering.{match_ordering}
use Rattle.nemo_value.specs.Order.{field_cmp}
use Rattle.nemo_value.specs.Val.{fits_i64}
use Rattle.nemo_value.specs.declared.expr.Kind.{Kind}
use Rattle.nemo_value.specs.declared.expr.Kind.TheVariants.{Overflow}
use Rattle.nemo_value.specs.declared.field.Field.{Field}
use Rattle.nemo_value.specs.declared.field.Field.TheVariants.{Int}
use Rattle.nemo_transform.specs.Gives.{number}
use Rattle.nemo_transform.specs.declared.transform.Folding.{Folding}
use Rattle.nemo_transform.specs.declared.transform.Folding.TheVariants as by
use Rattle.nemo_transform.specs.declared.grouping.Fold.{Fold}
use Rattle.nemo_transform.specs.declared.grouping.Fold.TheVariants.{Sum, Count, Min, Max}
use Rattle.nemo_transform.specs.declared.grouping.Group.{Group}

-- a fold with its field, in place of a reference to it
pub data Known : Type 0 where
  sum_of : ℤ → Known
  count_of : ℤ → Known
  least : Option Field → Known
  greatest : Option Field → Known

abbrev pub known : Fold → Known
known (Sum z) = sum_of z
known (Count z) = count_of z
known (Min b) = least (option_copied b)
known (Max b) = greatest (option_copied b)

-- a fold, and whether a row is bad
pub record KnownGroup : Type 0 where
  pub fold : Known
  pub is_bad : Bool

abbrev pub known_group : Group → KnownGroup
known_group g = record { fold = known g.fold; is_bad = g.is_bad }

abbrev pub no_rows : Folding → Known
no_rows by.Sum = sum_of (pos 0)
no_rows by.Count = count_of (pos 0)
no_rows by.Min = least None
no_rows by.Max = greatest None

abbrev pub start_of : Folding → KnownGroup
start_of by = record { fold = no_rows by; is_bad = false }

abbrev pub folding_of : Known → Folding
folding_of (sum_of z) = by.Sum
folding_of (count_of z) = by.Count
folding_of (least b) = by.Min
folding_of (greatest b) = by.Max

abbrev pub lesser : Field → Field → Field
lesser b f = match_ordering (field_cmp f b) f b b

abbrev pub greater : Field → Field → Field
greater b f = match_ordering (field_cmp f b) b b f

-- a fold with a field more
abbrev pub with_field : Known → Field → Known
with_field (sum_of z) f = sum_of (z +ℤ number f)
with_field (count_of z) f = count_of (z +ℤ number f)
with_field (least None) f = least (Some f)
with_field (least (Some b)) f = least (Some (lesser b f))
with_field (greatest None) f = greatest (Some f)
with_field (greatest (Some b)) f = greatest (Some (greater b f))

-- a group with a row more, of which this was read
abbrev pub with_read : KnownGroup → Result Field Kind → KnownGroup
with_read g (Ok f) = record { fold = with_field g.fold f; is_bad = g.is_bad }
with_read g (Err k) = record { fold = g.fold; is_bad = true }

abbrev pub folded_with : Known → Result Field Kind → Result Known Kind
folded_with s (Ok f) = Ok (with_field s f)
folded_with s (Err k) = Err k

abbrev pub known_or : Result Fold Kind → Result Known Kind
known_or (Ok s) = Ok (known s)
known_or (Err k) = Err k

abbrev pub why : Result Field Kind → Option Kind
why (Ok f) = None
why (Err k) = Some k

-- how far a sum or a count is from 0
abbrev pub size : Fold → ℕ
size (Sum z) = unsigned_abs z
size (Count z) = unsigned_abs z
size _ = 0

abbrev pub number_in : ℤ → Result (Option Field) Kind
number_in z = if fits_i64 z then Ok (Some (Int z)) else Err Overflow

-- the value of a fold, if it has one
abbrev pub value_in : Known → Result (Option Field) Kind
value_in (sum_of z) = number_in z
value_in (count_of z) = number_in z
value_in (least b) = Ok b
value_in (greatest b) = Ok b
