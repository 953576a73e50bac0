-- The answers of a vertex on what its inputs brought.
use Rattle.std.proofs.Common.{◌≡◌, ◌∙◌, refl, sym, ap, ℕ, List, [], map, Ok}
use Rattle.std.specs.Prelude.{◌≢◌}
use Rattle.nemo_value.specs.Ascending.{ascending}
use Rattle.nemo_transform.specs.Brought.{port, all_rows, arisen, first_rows, second_rows}
use Rattle.nemo_transform.specs.FaultOrder.{fault_cmp}
use Rattle.nemo_transform.specs.Gives.{Row, Answer, answers, rows_in, own_faults}
use Rattle.nemo_transform.specs.declared.transform.Transform.{Transform}
use Rattle.nemo_transform.specs.declared.transform.Transform.TheVariants.{Source, Map, Filter, Emit, Words, Union, Reduce, Distinct, Join, SideJoin, Sink}
use Rattle.nemo_transform.specs.FirstFault.{first_fault}
use Rattle.nemo_transform.proofs.MapSteps.{rows_in-rows, no_fault-rows}
use Rattle.nemo_job.specs.ByPlace.{ByPlace}
use Rattle.nemo_job.specs.Held.{answers_at, answers_on}

-- rows alone have no fault
pub no_first : (place : ℕ) (rows : List Row) (given : List Answer) → given ≡ map Ok rows → first_fault (map (arisen place) (own_faults given)) ≡ first_fault []
no_first place rows given e =
    ap (λ g. first_fault (map (arisen place) (own_faults g))) e
    ∙ ap (λ l. first_fault (map (arisen place) (ascending fault_cmp l))) (no_fault-rows rows)

pub only_rows : (rows : List Row) (given : List Answer) → given ≡ map Ok rows → rows_in given ≡ rows
only_rows rows given e = ap rows_in e ∙ rows_in-rows rows

-- the answers of a source
pub source_answers : (vals : List ByPlace) (inputs : List ℕ) (t : Transform) (rows : List Row) → t ≡ Source rows → answers_at vals (record { transform = t; inputs = inputs }) ≡ map Ok rows
source_answers vals inputs t rows e = ap (λ u. answers u (first_rows u (map (port vals) inputs)) (second_rows (map (port vals) inputs))) e

-- and of a union
pub union_answers : (vals : List ByPlace) (inputs : List ℕ) (t : Transform) (n : ℕ) → t ≡ Union n → answers_at vals (record { transform = t; inputs = inputs }) ≡ map Ok (all_rows (map (port vals) inputs))
union_answers vals inputs t n e = ap (λ u. answers u (first_rows u (map (port vals) inputs)) (second_rows (map (port vals) inputs))) e

-- all but a union take the rows of the first port
pub first_other : (t : Transform) (ports : List ByPlace) → ((n : ℕ) → t ≢ Union n) → first_rows t ports ≡ (port ports 0).rows
first_other (Source rows) ports apart = refl
first_other (Map out) ports apart = refl
first_other (Filter cond) ports apart = refl
first_other (Emit outs) ports apart = refl
first_other (Words field) ports apart = refl
first_other (Union n) ports apart = absurd (apart n refl)
first_other (Reduce by field) ports apart = refl
first_other Distinct ports apart = refl
first_other Join ports apart = refl
first_other SideJoin ports apart = refl
first_other (Sink name) ports apart = refl

-- so their answers are those on the rows of the first and the second port
pub answers_once : (vals : List ByPlace) (inputs others : List ℕ) (t : Transform) → ((n : ℕ) → t ≢ Union n) → inputs ≡ others → answers_on vals inputs t ≡ answers_at vals (record { transform = t; inputs = others })
answers_once vals inputs others t apart is =
    ap (λ l. answers_on vals l t) is
    ∙ sym (ap (λ rows. answers t rows (second_rows (map (port vals) others))) (first_other t (map (port vals) others) apart))
