-- What a transform gives on lists of rows: a list of answers, each a row or a fault.
use Rattle.std.specs.Prelude.{ℕ, suc, ℤ, pos, ◌+ℤ◌, ◌==◌, List, [], ◌∷◌, ◌++◌, length, map, slice_get, filter, reverse, Option, Some, None, Result, Ok, Err, Bool, true, false, nat_le, if◌then◌else◌}
use Rattle.std.specs.List.{flat_map, filter_map, list_any}
use Rattle.std.specs.Ordering.{is_eq}
use Rattle.nemo_value.specs.Ascending.{ascending}
use Rattle.nemo_value.specs.Key.{key_by, first_key}
use Rattle.nemo_value.specs.Order.{field_cmp, record_cmp}
use Rattle.nemo_value.specs.Val.{val, fits_i64, is_zero}
use Rattle.nemo_value.specs.declared.expr.Expr.{Expr}
use Rattle.nemo_value.specs.declared.expr.Kind.{Kind}
use Rattle.nemo_value.specs.declared.expr.Kind.TheVariants.{Overflow, Typed, NoField, Wide}
use Rattle.nemo_value.specs.declared.field.Field.{Field}
use Rattle.nemo_value.specs.declared.field.Field.TheVariants.{Int, Text}
use Rattle.nemo_transform.specs.FaultOrder.{fault_cmp}
use Rattle.nemo_transform.specs.declared.fault.Fault.{Fault}
use Rattle.nemo_transform.specs.declared.transform.Folding.{Folding}
use Rattle.nemo_transform.specs.declared.transform.Folding.TheVariants.{Sum, Min, Max, Count}
use Rattle.nemo_transform.specs.declared.transform.Output.{Output}
use Rattle.nemo_transform.specs.declared.transform.Transform.{Transform}
use Rattle.nemo_transform.specs.declared.transform.Transform.TheVariants.{Source, Map, Filter, Emit, Words, Union, Reduce, Distinct, Join, SideJoin, Sink}

-- a record is the list of its fields
abbrev pub Row : Type 0
Row = List Field

abbrev pub Answer : Type 0
Answer = Result Row Fault

abbrev pub fault : Kind → Row → Answer
fault k r = Err (record { kind = k; rec = r })

-- rows, or one fault with the row that made it
abbrev pub rows_or : Row → Result (List Row) Kind → List Answer
rows_or r (Ok rows) = map Ok rows
rows_or r (Err k) = fault k r ∷ []

---- row by row

-- a field in front of the others, or the first fault
abbrev pub before : Result Field Kind → Result Row Kind → Result Row Kind
before (Err k) rest = Err k
before (Ok f) (Err k) = Err k
before (Ok f) (Ok fs) = Ok (f ∷ fs)

-- the values of the expressions on a row, or the first fault
abbrev pub row_of : List Expr → Row → Result Row Kind
row_of [] r = Ok []
row_of (e ∷ es) r = before (val e r) (row_of es r)

abbrev pub alone : Result Row Kind → Result (List Row) Kind
alone (Ok r) = Ok (r ∷ [])
alone (Err k) = Err k

-- the rows where the test isn't 0, and none where it is
abbrev pub where_so : Result Field Kind → Result (List Row) Kind → Result (List Row) Kind
where_so (Ok (Int z)) rows = if is_zero z then Ok [] else rows
where_so (Ok (Text t)) rows = Err Typed
where_so (Err k) rows = Err k

abbrev pub then_rows : Result (List Row) Kind → Result (List Row) Kind → Result (List Row) Kind
then_rows (Err k) more = Err k
then_rows (Ok rows) (Err k) = Err k
then_rows (Ok rows) (Ok more) = Ok (rows ++ more)

-- the rows of the outputs of an emit, output by output, or the first fault
abbrev pub emitted : List Output → Row → Result (List Row) Kind
emitted [] r = Ok []
emitted (o ∷ os) r = then_rows (where_so (val o.cond r) (alone (row_of o.out r))) (emitted os r)

-- a byte in front of the first piece, or, where it is 0x20, the start of a new one
abbrev pub in_pieces : ℕ → List (List ℕ) → List (List ℕ)
in_pieces b [] = []
in_pieces b (w ∷ ws) = if b == 32 then [] ∷ w ∷ ws else (b ∷ w) ∷ ws

-- the pieces of a text between bytes 0x20
abbrev pub pieces : List ℕ → List (List ℕ)
pieces [] = [] ∷ []
pieces (b ∷ bs) = in_pieces b (pieces bs)

abbrev pub is_filled : {X : Type 0} → List X → Bool
is_filled [] = false
is_filled (x ∷ xs) = true

-- the words of a text, each as a row
abbrev pub words_in : Option Field → Result (List Row) Kind
words_in None = Err NoField
words_in (Some (Int z)) = Err Typed
words_in (Some (Text t)) = Ok (map (λ w. Text w ∷ []) (filter is_filled (pieces t)))

abbrev pub map_answers : List Expr → List Row → List Answer
map_answers out rows = flat_map (λ r. rows_or r (alone (row_of out r))) rows

---- by key

-- whether a key, where there is one, is k
abbrev pub is_key : List Field → Option (List Field) → Bool
is_key k None = false
is_key k (Some q) = is_eq (record_cmp q k)

-- the rows whose key under a key list is k
abbrev pub with_key : List ℕ → List Field → List Row → List Row
with_key names k rows = filter (λ r. is_key k (key_by names r)) rows

-- the keys of the rows, in ascending order
abbrev pub keys : List ℕ → List Row → List (List Field)
keys names rows = ascending record_cmp (filter_map (key_by names) rows)

abbrev pub fault_without : Row → Option (List Field) → Option Answer
fault_without r None = Some (fault NoField r)
fault_without r (Some k) = None

-- the faults of the rows without a key
abbrev pub keyless : List ℕ → List Row → List Answer
keyless names rows = filter_map (λ r. fault_without r (key_by names r)) rows

abbrev pub good : {X : Type 0} → Result X Kind → Option X
good (Ok x) = Some x
good (Err k) = None

abbrev pub bad : {X : Type 0} → Row → Result X Kind → Option Answer
bad r (Ok x) = None
bad r (Err k) = Some (fault k r)

-- the faults, or the answers where there are none
abbrev pub unless : List Answer → List Answer → List Answer
unless [] answers = answers
unless (f ∷ fs) answers = f ∷ fs

-- what is given of the rows of a key: the faults of bad rows, or what `gives` makes of the key and of all that was read
abbrev pub of_key : {X : Type 0} → (Row → Result X Kind) → (List Field → List X → List Answer) → List Field → List Row → List Answer
of_key reads gives k rows =
    unless (filter_map (λ r. bad r (reads r)) rows)
    (gives k (filter_map (λ r. good (reads r)) rows))

-- what is given key by key, in ascending order
abbrev pub by_key : {X : Type 0} → List ℕ → (Row → Result X Kind) → (List Field → List X → List Answer) → List Row → List Answer
by_key names reads gives rows = keyless names rows ++ flat_map (λ k. of_key reads gives k (with_key names k rows)) (keys names rows)

---- folding

-- what a reduce reads of a row: a field, or a fault
abbrev pub read : Folding → Option Field → Result Field Kind
read Count f = Ok (Int (pos 1))
read by None = Err NoField
read Sum (Some (Text t)) = Err Typed
read by (Some f) = Ok f

abbrev pub number : Field → ℤ
number (Int z) = z
number (Text t) = pos 0

-- a sum without bounds
abbrev pub total : List Field → ℤ
total [] = pos 0
total (f ∷ fs) = number f +ℤ total fs

-- the key and a sum, where that fits 64 bits
abbrev pub summed : List Field → ℤ → List Answer
summed k z = if fits_i64 z then Ok (k ++ Int z ∷ []) ∷ [] else fault Overflow k ∷ []

-- the key and the first of some values
abbrev pub first_of : List Field → List Field → List Answer
first_of k [] = []
first_of k (v ∷ vs) = Ok (k ++ v ∷ []) ∷ []

abbrev pub folded : Folding → List Field → List Field → List Answer
folded Sum k fs = summed k (total fs)
folded Count k fs = summed k (total fs)
folded Min k fs = first_of k (ascending field_cmp fs)
folded Max k fs = first_of k (reverse (ascending field_cmp fs))

---- joining

-- the fields of a row that a key list doesn't name; the first of them is at place n
abbrev pub unnamed_from : ℕ → List ℕ → Row → Row
unnamed_from n names [] = []
unnamed_from n names (f ∷ fs) = if list_any (λ k. k == n) names then unnamed_from (suc n) names fs else f ∷ unnamed_from (suc n) names fs

abbrev pub unnamed : List ℕ → Row → Row
unnamed names r = unnamed_from 0 names r

-- a row made of a left one, where it isn't too wide
abbrev pub fitting : Row → Row → Answer
fitting l row = if nat_le (length row) 16 then Ok row else fault Wide l

-- the left fields, and then the right ones that the right key list doesn't name
abbrev pub pair : List ℕ → Row → Row → Answer
pair names l r = fitting l (l ++ unnamed names r)

abbrev pub pairs_at : List ℕ → List Row → Row → Option (List Field) → List Answer
pairs_at names right l None = fault NoField l ∷ []
pairs_at names right l (Some k) = map (pair names l) (with_key names k right)

-- a left row with each right row of its key, by the key lists of both
abbrev pub joined : List ℕ → List ℕ → List Row → Row → List Answer
joined left_names right_names right l = pairs_at right_names right l (key_by left_names l)

-- left row by left row
abbrev pub join : List ℕ → List ℕ → List Row → List Row → List Answer
join left_names right_names left right = keyless right_names right ++ flat_map (joined left_names right_names right) left

---- all transforms

abbrev pub answers : Transform → List Row → List Row → List Answer
answers (Source rows) first second = map Ok rows
answers (Map out) first second = map_answers out first
answers (Filter cond) first second = flat_map (λ r. rows_or r (where_so (val cond r) (Ok (r ∷ [])))) first
answers (Emit outs) first second = flat_map (λ r. rows_or r (emitted outs r)) first
answers (Words field) first second = flat_map (λ r. rows_or r (words_in (slice_get r field))) first
answers (Union ports) first second = map Ok first
answers (Reduce by field) first second = by_key first_key (λ r. read by (slice_get r field)) (folded by) first
answers Distinct first second = map Ok (ascending record_cmp first)
answers Join first second = join first_key first_key first second
answers SideJoin first second = join first_key first_key first second
answers (Sink name) first second = map Ok first

abbrev pub row_in : Answer → Option Row
row_in (Ok r) = Some r
row_in (Err f) = None

abbrev pub fault_in : Answer → Option Fault
fault_in (Ok r) = None
fault_in (Err f) = Some f

-- the rows among some answers, in their order
abbrev pub rows_in : List Answer → List Row
rows_in given = filter_map row_in given

-- the faults among them, by kind and record, each once
abbrev pub own_faults : List Answer → List Fault
own_faults given = ascending fault_cmp (filter_map fault_in given)
