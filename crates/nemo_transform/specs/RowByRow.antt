-- Transforms that go row by row.
use Rattle.std.specs.Prelude.{◌≡◌, List, [], ◌∷◌, Bool, true, false, length, take, slice_get, Result, Ok, Err}
use Rattle.nemo_value.specs.Val.{val}
use Rattle.nemo_value.specs.declared.evaluate.EvalFault.{EvalFault}
use Rattle.nemo_value.specs.declared.evaluate.EvalFault.TheVariants.{Fault, NoMemory}
use Rattle.nemo_value.specs.declared.expr.Kind.{Kind}
use Rattle.nemo_transform.specs.Gives.{Row, row_of, alone, where_so, then_rows, emitted, words_in}
use Rattle.nemo_transform.specs.declared.transform.Transform.{Transform}
use Rattle.nemo_transform.specs.declared.transform.Transform.TheVariants.{Map, Filter, Emit, Words}

-- whether a transform gives of each row what it gives of that alone, and has one port
abbrev pub goes_by_row : Transform → Bool
goes_by_row (Map out) = true
goes_by_row (Filter cond) = true
goes_by_row (Emit outs) = true
goes_by_row (Words field) = true
goes_by_row _ = false

-- what a transform that goes row by row gives of a row; the others have the row itself here
abbrev pub rows_for : Transform → Row → Result (List Row) Kind
rows_for (Map out) r = alone (row_of out r)
rows_for (Filter cond) r = where_so (val cond r) (Ok (r ∷ []))
rows_for (Emit outs) r = emitted outs r
rows_for (Words field) r = words_in (slice_get r field)
rows_for _ r = Ok (r ∷ [])

-- these rows are put behind others; on a fault the others stay alone
abbrev pub Adds : {T : Type 0} → Result T EvalFault → Result (List Row) Kind → List Row → List Row → Type 0
Adds (Ok done) rows old new = then_rows (Ok old) rows ≡ Ok new
Adds (Err (Fault kind)) rows old new = (rows ≡ Err kind) × (new ≡ old)
Adds (Err NoMemory) rows old new = Unit {0}

-- the same, but on a fault some rows may stand behind the others
abbrev pub Puts : {T : Type 0} → Result T EvalFault → Result (List Row) Kind → List Row → List Row → Type 0
Puts (Ok done) rows old new = then_rows (Ok old) rows ≡ Ok new
Puts (Err (Fault kind)) rows old new = (rows ≡ Err kind) × (take (length old) new ≡ old)
Puts (Err NoMemory) rows old new = Unit {0}

-- the fields of a row are made, or there is a fault
abbrev pub Fills : {T : Type 0} → Result T EvalFault → Result Row Kind → Row → Type 0
Fills (Ok done) row made = row ≡ Ok made
Fills (Err (Fault kind)) row made = row ≡ Err kind
Fills (Err NoMemory) row made = Unit {0}
