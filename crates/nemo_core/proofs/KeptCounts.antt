-- No count of a state passes the number of events.
use Rattle.std.proofs.Common.{arith, ◌≡◌, ap, refl, ℕ, ◌+◌, ◌≤◌, List, [], ◌∷◌, map, Bool, true, false, Option, Some, None, ⊎_elim}
use Rattle.std.specs.Prelude.{◌&&◌, ◌==◌, if◌then◌else◌, is_none, nat_le}
use Rattle.std.specs.List.{list_any}
use Rattle.std.proofs.lemmas.Bool.{cases_order, eq-eqb, le-leb, lt-leb, ne_eqb, or_cases}
use Rattle.nemo_base.specs.Places.{map_at, map_rows, passes}
use Rattle.nemo_base.specs.declared.graph.TaskGraph.{TaskGraph}
use Rattle.nemo_base.specs.declared.id.TaskId.{TaskId}
use Rattle.nemo_core.specs.Kept.{busy, how_many_run, total}
use Rattle.nemo_core.specs.State.{State, is_number, runs}
use Rattle.nemo_core.specs.Step.{ended, evicted, idle, launched, runs_on}
use Rattle.nemo_core.specs.declared.row.Attempt.{Attempt}
use Rattle.nemo_core.specs.declared.row.TaskRow.{TaskRow}

---- totals

total_less : {X : Type 0} (count : X → ℕ) (f : X → X) (xs : List X) → ((x : X) → count (f x) ≤ count x) → total count (map f xs) ≤ total count xs
total_less count f [] less = omega arith
total_less count f (x ∷ xs) less =
    let here : count (f x) ≤ count x = less x in
    let rest : total count (map f xs) ≤ total count xs = total_less count f xs less in
    omega (arith, here, rest)

pub total_at_less : {X : Type 0} (count : X → ℕ) (f : ℕ → X → X) (k : ℕ) (xs : List X) → ((i : ℕ) (x : X) → count (f i x) ≤ count x) → total count (map_at f k xs) ≤ total count xs
total_at_less count f k [] less = omega arith
total_at_less count f k (x ∷ xs) less =
    let here : count (f k x) ≤ count x = less k x in
    let rest : total count (map_at f (k + 1) xs) ≤ total count xs = total_at_less count f (k + 1) xs less in
    omega (arith, here, rest)

-- one item at least counts one less
total_falls : {X : Type 0} (count : X → ℕ) (f : X → X) (test : X → Bool) (xs : List X) → ((x : X) → count (f x) ≤ count x) → ((x : X) → test x ≡ true → count (f x) + 1 ≤ count x)
    → list_any test xs ≡ true → total count (map f xs) + 1 ≤ total count xs
total_falls count f test [] less falls some = cc
total_falls count f test (x ∷ xs) less falls some = ⊎_elim
    (λ here. let one : count (f x) + 1 ≤ count x = falls x here in
    let rest : total count (map f xs) ≤ total count xs = total_less count f xs less in
    omega (arith, one, rest))
    (λ later. let one : count (f x) ≤ count x = less x in
    let rest : total count (map f xs) + 1 ≤ total count xs = total_falls count f test xs less falls later in
    omega (arith, one, rest))
    (or_cases (test x) (list_any test xs) some)

abbrev pub one_if : Bool → ℕ
one_if b = if b then 1 else 0

one_most : (b : Bool) → one_if b ≤ 1
one_most true = omega arith
one_most false = omega arith

here_or_later : (k p : ℕ) → one_if (k == p) + one_if (nat_le (k + 1) p) ≤ one_if (nat_le k p)
here_or_later k p = ⊎_elim
    (λ same. values (eq-eqb k p same) (lt-leb (k + 1) p (omega (arith, same))) (le-leb k p (omega (arith, same))) (omega arith))
    (λ other. ⊎_elim
    (λ less. values (ne_eqb k p (λ e. omega (arith, e, less))) (le-leb (k + 1) p (omega (arith, less))) (le-leb k p (omega (arith, less))) (omega arith))
    (λ more. values (ne_eqb k p (λ e. omega (arith, e, more))) (lt-leb (k + 1) p (omega (arith, more))) (lt-leb k p (omega (arith, more))) (omega arith))
    other)
    (cases_order k p)
  where
    values : {a b c : Bool} → (k == p) ≡ a → nat_le (k + 1) p ≡ b → nat_le k p ≡ c → one_if a + one_if b ≤ one_if c → one_if (k == p) + one_if (nat_le (k + 1) p) ≤ one_if (nat_le k p)
    values x y z h =
        let d : one_if (k == p) ≡ one_if _ = ap one_if x in
        let e : one_if (nat_le (k + 1) p) ≡ one_if _ = ap one_if y in
        let f : one_if (nat_le k p) ≡ one_if _ = ap one_if z in
        omega (arith, d, e, f, h)

-- the item at one place may count one more
total_rises : {X : Type 0} (count : X → ℕ) (f : ℕ → X → X) (p k : ℕ) (xs : List X) → ((i : ℕ) (x : X) → count (f i x) ≤ count x + one_if (i == p)) → total count (map_at f k xs) ≤ total count xs + one_if (nat_le k p)
total_rises count f p k [] rise = omega arith
total_rises count f p k (x ∷ xs) rise =
    let here : count (f k x) ≤ count x + one_if (k == p) = rise k x in
    let rest : total count (map_at f (k + 1) xs) ≤ total count xs + one_if (nat_le (k + 1) p) = total_rises count f p (k + 1) xs rise in
    let sum : one_if (k == p) + one_if (nat_le (k + 1) p) ≤ one_if (nat_le k p) = here_or_later k p in
    omega (arith, here, rest, sum)

---- one task

abbrev busy_if : Bool → ℕ
busy_if rests = if rests then 0 else 1

ended_less : (attempt : ℕ) (row : TaskRow) → busy (ended attempt row) ≤ busy row
ended_less attempt row = go (runs attempt row)
  where
    go : (b : Bool) → busy (if b then idle row else row) ≤ busy row
    go true = omega arith
    go false = omega arith

ended_falls : (attempt : ℕ) (row : TaskRow) → runs attempt row ≡ true → busy (ended attempt row) + 1 ≤ busy row
ended_falls attempt row h =
    let gone : busy (ended attempt row) ≡ 0 = ap (λ b. busy (if b then idle row else row)) h in
    let one : busy row ≡ 1 = ap busy_if (some row.running h) in
    omega (arith, gone, one)
  where
    some : (o : Option Attempt) → passes (is_number attempt) o ≡ true → is_none o ≡ false
    some (Some a) h = refl
    some None h = cc

evicted_less : (g : TaskGraph) (s : State) (slot stage i : ℕ) (row : TaskRow) → busy (evicted g s slot stage i row) ≤ busy row
evicted_less g s slot stage i row = go (runs_on slot row)
  where
    go : (b : Bool) → busy_if (is_none (if b then None else row.running)) ≤ busy row
    go true = omega arith
    go false = omega arith

-- a launch elsewhere
launched_less : (attempt : ℕ) (t : TaskId) (slot stage i : ℕ) (row : TaskRow) → (stage == t.stage) ≡ false → busy (launched attempt t slot stage i row) ≤ busy row
launched_less attempt t slot stage i row other =
    let same : busy (launched attempt t slot stage i row) ≡ busy row = ap (λ b. busy (if b && (i == t.index) then (record { running = Some (record { number = attempt; slot = slot }); losses = row.losses }) else row)) other in
    omega (arith, same)

launched_rises : (attempt : ℕ) (t : TaskId) (slot stage i : ℕ) (row : TaskRow) → busy (launched attempt t slot stage i row) ≤ busy row + one_if (i == t.index)
launched_rises attempt t slot stage i row = go (stage == t.stage) (i == t.index)
  where
    go : (a b : Bool) → busy (if a && b then (record { running = Some (record { number = attempt; slot = slot }); losses = row.losses }) else row) ≤ busy row + one_if b
    go true true = omega arith
    go true false = omega arith
    go false b = omega arith

---- all tasks

row_ended : (attempt : ℕ) (row : List TaskRow) → total busy (map (ended attempt) row) ≤ total busy row
row_ended attempt row = total_less busy (ended attempt) row (ended_less attempt)

pub all_ended : (attempt : ℕ) (tasks : List (List TaskRow)) → how_many_run (map (map (ended attempt)) tasks) ≤ how_many_run tasks
all_ended attempt tasks = total_less (total busy) (map (ended attempt)) tasks (row_ended attempt)

pub one_ended : (attempt : ℕ) (tasks : List (List TaskRow)) → list_any (list_any (runs attempt)) tasks ≡ true → how_many_run (map (map (ended attempt)) tasks) + 1 ≤ how_many_run tasks
one_ended attempt tasks h = total_falls (total busy) (map (ended attempt)) (list_any (runs attempt)) tasks (row_ended attempt) (λ row. total_falls busy (ended attempt) (runs attempt) row (ended_less attempt) (ended_falls attempt)) h

row_idle : (row : List TaskRow) → total busy (map idle row) ≤ total busy row
row_idle row = total_less busy idle row (λ r. omega arith)

pub all_idle : (tasks : List (List TaskRow)) → how_many_run (map (map idle) tasks) ≤ how_many_run tasks
all_idle tasks = total_less (total busy) (map idle) tasks row_idle

pub all_evicted : (g : TaskGraph) (s : State) (slot : ℕ) (tasks : List (List TaskRow)) → how_many_run (map_rows (evicted g s slot) tasks) ≤ how_many_run tasks
all_evicted g s slot tasks = total_at_less (total busy) (λ n. map_at (evicted g s slot n) 0) 0 tasks (λ n row. total_at_less busy (evicted g s slot n) 0 row (evicted_less g s slot n))

pub row_idle_if : (b : Bool) (row : List TaskRow) → total busy (if b then map idle row else row) ≤ total busy row
row_idle_if true row = row_idle row
row_idle_if false row = omega arith

row_launched : (attempt : ℕ) (t : TaskId) (slot stage : ℕ) (row : List TaskRow) → total busy (map_at (launched attempt t slot stage) 0 row) ≤ total busy row + one_if (stage == t.stage)
row_launched attempt t slot stage row = go (stage == t.stage) refl
  where
    go : (b : Bool) → (stage == t.stage) ≡ b → total busy (map_at (launched attempt t slot stage) 0 row) ≤ total busy row + one_if b
    go true e =
        let rise : total busy (map_at (launched attempt t slot stage) 0 row) ≤ total busy row + one_if (nat_le 0 t.index) = total_rises busy (launched attempt t slot stage) t.index 0 row (launched_rises attempt t slot stage) in
        let one : one_if (nat_le 0 t.index) ≤ 1 = one_most (nat_le 0 t.index) in
        omega (arith, rise, one)
    go false e =
        let less : total busy (map_at (launched attempt t slot stage) 0 row) ≤ total busy row = total_at_less busy (launched attempt t slot stage) 0 row (λ i r. launched_less attempt t slot stage i r e) in
        omega (arith, less)

pub one_launched : (attempt : ℕ) (t : TaskId) (slot : ℕ) (tasks : List (List TaskRow)) → how_many_run (map_rows (launched attempt t slot) tasks) ≤ how_many_run tasks + 1
one_launched attempt t slot tasks =
    let rise : how_many_run (map_rows (launched attempt t slot) tasks) ≤ how_many_run tasks + one_if (nat_le 0 t.stage) =
    total_rises (total busy) (λ n. map_at (launched attempt t slot n) 0) t.stage 0 tasks (row_launched attempt t slot) in
    let one : one_if (nat_le 0 t.stage) ≤ 1 = one_most (nat_le 0 t.stage) in
    omega (arith, rise, one)
