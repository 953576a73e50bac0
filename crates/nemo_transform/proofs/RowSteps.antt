-- One more row of a transform that works row by row.
use Rattle.std.proofs.Common.{◌≡◌, refl, ap, sym, ◌∙◌, ◌∷◌, ◌++◌, [], ℕ, ◌+◌, ◌<◌, List, length, drop, get_or, map, Ok, Err, Result, append_assoc}
use Rattle.std.proofs.lemmas.List.{at_drop_more}
use Rattle.std.specs.List.{filter_map, flat_map}
use Rattle.nemo_value.specs.declared.expr.Kind.{Kind}
use Rattle.nemo_value.specs.declared.field.Field.{Field}
use Rattle.nemo_value.specs.declared.field.Field.TheVariants.{Int, Text}
use Rattle.nemo_transform.specs.Gives.{Row, Answer, rows_or, rows_in, fault_in, then_rows, where_so}
use Rattle.nemo_transform.specs.Passing.{passes}
use Rattle.nemo_transform.specs.declared.fault.Fault.{Fault}
use Rattle.nemo_transform.proofs.MapSteps.{rows_in-front, no_fault-front}

-- the answers of a transform that gives rows or a fault of each row
abbrev pub answers_by : (Row → Result (List Row) Kind) → List Row → List Answer
answers_by f rows = flat_map (λ r. rows_or r (f r)) rows

-- what was given so far, in front of what the rest of the rows give
abbrev pub SoFar : (Row → Result (List Row) Kind) → List Row → List Row → List Row → List Fault → Type 0
SoFar f all rest given faults = record {
  given : given ++ rows_in (answers_by f rest) ≡ rows_in (answers_by f all);
  faults : faults ++ filter_map fault_in (answers_by f rest) ≡ filter_map fault_in (answers_by f all);
}

-- the rows from an index are its row, and then those behind it
pub at_row : (rows : List Row) (i : ℕ) (row : Row) → i < length rows → row ≡ get_or rows i row → drop i rows ≡ row ∷ drop (i + 1) rows
at_row rows i row within is = at_drop_more (λ l. l) rows i row within ∙ ap (λ r. r ∷ drop (i + 1) rows) (sym is)

-- the answers of a row, and then those of the rows behind it
step : (f : Row → Result (List Row) Kind) (rest more : List Row) (row : Row) (v : Result (List Row) Kind) → rest ≡ row ∷ more → f row ≡ v → answers_by f rest ≡ rows_or row v ++ answers_by f more
step f rest more row v is e = ap (answers_by f) is ∙ ap (λ w. rows_or row w ++ answers_by f more) e

-- items move from the front of the others to the end of those so far
moved : {X : Type 0} (old new more rest before all : List X) → new ≡ old ++ more → before ≡ more ++ rest → old ++ before ≡ all → new ++ rest ≡ all
moved old new more rest before all n b h =
    ap (λ l. l ++ rest) n ∙ append_assoc old more rest ∙ ap (λ l. old ++ l) (sym b) ∙ h

-- no item moves
stayed : {X : Type 0} (old new rest before all : List X) → new ≡ old → before ≡ rest → old ++ before ≡ all → new ++ rest ≡ all
stayed old new rest before all n b h = ap (λ l. l ++ rest) n ∙ ap (λ l. old ++ l) (sym b) ∙ h

module _ (f : Row → Result (List Row) Kind) (all rest more : List Row) (row : Row) (is : rest ≡ row ∷ more) where
  -- a row that gives rows
  after_rows : (made given now_given : List Row) (faults now_faults : List Fault) → f row ≡ Ok made → now_given ≡ given ++ made → now_faults ≡ faults → SoFar f all rest given faults → SoFar f all more now_given now_faults
  after_rows made given now_given faults now_faults e g s h =
      let left = answers_by f more in
      let here : answers_by f rest ≡ map Ok made ++ left = step f rest more row (Ok made) is e in
      record {
        given = moved given now_given made (rows_in left) _ _ g (ap rows_in here ∙ rows_in-front made left) h.given;
        faults = stayed faults now_faults (filter_map fault_in left) _ _ s (ap (filter_map fault_in) here ∙ no_fault-front made left) h.faults;
      }

  -- a row whose rows were put behind the others
  pub after_added : (given now_given : List Row) (faults now_faults : List Fault) → then_rows (Ok given) (f row) ≡ Ok now_given → now_faults ≡ faults → SoFar f all rest given faults → SoFar f all more now_given now_faults
  after_added given now_given faults now_faults g s h = go (f row) refl g
    where
      go : (v : Result (List Row) Kind) → f row ≡ v → then_rows (Ok given) v ≡ Ok now_given → SoFar f all more now_given now_faults
      go (Ok made) e g = after_rows made given now_given faults now_faults e (cc) s h
      go (Err k) e g = absurd (cc)

  -- a row that gives a fault
  pub after_fault : (k : Kind) (given now_given : List Row) (faults now_faults : List Fault) → f row ≡ Err k → now_given ≡ given → now_faults ≡ faults ++ record { kind = k; rec = row } ∷ [] → SoFar f all rest given faults → SoFar f all more now_given now_faults
  after_fault k given now_given faults now_faults e g s h =
      let left = answers_by f more in
      let here : answers_by f rest ≡ rows_or row (Err k) ++ left = step f rest more row (Err k) is e in
      record {
        given = stayed given now_given (rows_in left) _ _ g (ap rows_in here) h.given;
        faults = moved faults now_faults (record { kind = k; rec = row } ∷ []) (filter_map fault_in left) _ _ s (ap (filter_map fault_in) here) h.faults;
      }

-- what a filter gives of a row whose test has a fault
pub stopped : (v : Result Field Kind) (k : Kind) (rows : Result (List Row) Kind) → passes v ≡ Err k → where_so v rows ≡ Err k
stopped (Ok (Int z)) k rows e = absurd (cc)
stopped (Ok (Text t)) k rows e = cc
stopped (Err j) k rows e = cc
