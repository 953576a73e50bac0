-- The answers of a transform, row by row.
use Rattle.std.proofs.Common.{◌≡◌, refl, ap, ◌∷◌, ◌++◌, [], List, map, Ok}
use Rattle.std.specs.List.{filter_map}
use Rattle.nemo_transform.specs.Gives.{Row, Answer, rows_in, fault_in}

-- rows alone are the rows
pub rows_in-rows : (rows : List Row) → rows_in (map Ok rows) ≡ rows
rows_in-rows [] = refl
rows_in-rows (r ∷ rows) = ap (λ more. r ∷ more) (rows_in-rows rows)

-- and have no fault
pub no_fault-rows : (rows : List Row) → filter_map fault_in (map Ok rows) ≡ []
no_fault-rows [] = refl
no_fault-rows (r ∷ rows) = no_fault-rows rows

pub ruleset passing = (rows_in-rows, no_fault-rows)

-- rows in front of other answers
pub rows_in-front : (rows : List Row) (rest : List Answer) → rows_in (map Ok rows ++ rest) ≡ rows ++ rows_in rest
rows_in-front [] rest = refl
rows_in-front (r ∷ rows) rest = ap (λ more. r ∷ more) (rows_in-front rows rest)

pub no_fault-front : (rows : List Row) (rest : List Answer) → filter_map fault_in (map Ok rows ++ rest) ≡ filter_map fault_in rest
no_fault-front [] rest = refl
no_fault-front (r ∷ rows) rest = no_fault-front rows rest
