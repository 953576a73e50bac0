-- What JSON values stand for: arrays, members, fields, records and names.
use Rattle.std.specs.Prelude.{◌≡◌, ℕ, ℤ, pos, negsuc, ◌^◌, nat_lt, ◌&&◌, Bool, false, nat_le, if◌then◌else◌, List, [], ◌∷◌, length, Option, Some, None, option_map, option_and_then}
use Rattle.std.specs.Option.{option_or}
use Rattle.std.specs.Ordering.{int_eq}
use Rattle.serde_json.specs.Data.{Data, Items, no_items, item}
use Rattle.serde_json.specs.Find.{get, as_number, as_i64, as_str, as_array}
use Rattle.nemo_value.specs.Names.{is_name}
use Rattle.nemo_value.specs.Texts.{same_text}
use Rattle.nemo_value.specs.declared.field.Field.{Field}
use Rattle.nemo_value.specs.declared.field.Field.TheVariants.{Int, Text}

---- arrays, members and tests

-- a thing in front of the others, where all are there
abbrev pub with_first : {X : Type 0} → Option X → Option (List X) → Option (List X)
with_first (Some x) (Some xs) = Some (x ∷ xs)
with_first (Some x) None = None
with_first None others = None

-- what the items stand for, where each stands for something
abbrev pub each : {X : Type 0} → (Data → Option X) → Items → Option (List X)
each reads no_items = Some []
each reads (item d ds) = with_first (reads d) (each reads ds)

-- an array of what can be read
abbrev pub array_of : {X : Type 0} → (Data → Option X) → Data → Option (List X)
array_of reads d = option_and_then (each reads) (as_array d)

-- what the member of this name stands for, where it is there
abbrev pub member_of : {X : Type 0} → List ℕ → (Data → Option X) → Data → Option X
member_of name reads d = option_and_then reads (get name d)

-- e has each member that d has beside that of this name
abbrev pub KeepsOthers : List ℕ → Data → Data → Type 0
KeepsOthers name d e = (k : List ℕ) → ¬ (k ≡ name) → get k e ≡ get k d

-- a thing that passes the test
abbrev pub tested : {X : Type 0} → (X → Bool) → Option X → Option X
tested test (Some x) = if test x then Some x else None
tested test None = None

-- from 1 to 16 things
abbrev pub is_few : {X : Type 0} → List X → Bool
is_few xs = nat_le 1 (length xs) && nat_le (length xs) 16

---- numbers and words

-- a whole number of 64 bits
abbrev pub whole_of : Data → Option ℤ
whole_of d = option_and_then as_i64 (as_number d)

-- whether the number is there and is n
abbrev pub is_exactly : ℕ → Option ℤ → Bool
is_exactly n (Some z) = int_eq z (pos n)
is_exactly n None = false

-- a whole number from 0 to 4,294,967,295
abbrev pub small : ℤ → Option ℕ
small (pos n) = if nat_lt n (2 ^ 32) then Some n else None
small (negsuc n) = None

abbrev pub number_of : Data → Option ℕ
number_of d = option_and_then small (whole_of d)

-- a whole number of 16 bits
abbrev pub short_of : Data → Option ℕ
short_of d = tested (λ n. nat_lt n (2 ^ 16)) (number_of d)

-- the place of a field, 0 to 15
abbrev pub place_of : Data → Option ℕ
place_of d = tested (λ k. nat_lt k 16) (number_of d)

-- whether the text is there and is this word
abbrev pub is_word : List ℕ → Option (List ℕ) → Bool
is_word word (Some s) = same_text s word
is_word word None = false

---- fields, records and names

-- at most 65,535 bytes
abbrev pub is_short : List ℕ → Bool
is_short s = nat_le (length s) 65535

-- a whole number or a short text
abbrev pub field_of : Data → Option Field
field_of d = option_or (option_map Int (whole_of d)) (option_map Text (tested is_short (as_str d)))

-- an array of 1 to 16 fields
abbrev pub record_of : Data → Option (List Field)
record_of d = tested is_few (array_of field_of d)

-- a text that is a name
abbrev pub name_of : Data → Option (List ℕ)
name_of d = tested is_name (as_str d)

-- a whole number of 32 bits in a range
abbrev pub ranged : ℕ → ℕ → Data → Option ℕ
ranged least most d = tested (λ n. nat_le least n && nat_le n most) (number_of d)
