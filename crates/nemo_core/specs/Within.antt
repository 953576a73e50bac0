-- What a core keeps.
use Rattle.std.specs.Prelude.{◌≡◌, ℕ, ◌≤◌, ◌<◌, ◌^◌, Bool, true, List, length}
use Rattle.nemo_base.specs.Places.{item_at, passes}
use Rattle.nemo_core.specs.declared.row.TaskRow.{TaskRow}
use Rattle.nemo_core.specs.State.{runs}

-- task i of the stage runs this attempt
abbrev pub runs_at : List (List TaskRow) → ℕ → ℕ → ℕ → Bool
runs_at tasks attempt stage i = passes (runs attempt) (item_at tasks stage i)

-- an attempt that runs was launched, and one task runs it
pub record AreSingle (tasks : List (List TaskRow)) (launches : ℕ) : Type 0 where
  pub launched : (attempt stage i : ℕ) → runs_at tasks attempt stage i ≡ true → attempt < launches
  pub one : (attempt s i t j : ℕ) → runs_at tasks attempt s i ≡ true → runs_at tasks attempt t j ≡ true → (s ≡ t) × (i ≡ j)

-- task i of the stage runs this attempt, and no other task does
pub record RunsOnly (tasks : List (List TaskRow)) (attempt stage i : ℕ) : Type 0 where
  pub runs : runs_at tasks attempt stage i ≡ true
  pub only : (t j : ℕ) → runs_at tasks attempt t j ≡ true → (t ≡ stage) × (j ≡ i)

pub record IsWithin (taken launches commits stages : ℕ) (tasks : List (List TaskRow)) (sealed : List Bool) : Type 0 where
  -- no count passes the number of events
  pub launches_within : launches ≤ taken
  pub commits_within : commits ≤ taken
  -- every stage has a number
  pub numbered : stages ≤ 2 ^ 32
  pub single : AreSingle tasks launches
  -- every stage is sealed or not
  pub seals : length sealed ≡ length tasks
