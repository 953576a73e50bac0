-- Copies that go row by row, one after another.
use Rattle.std.specs.Prelude.{◌≡◌, ℕ, ◌<◌, ◌≤◌, ◌-◌, List, length, map, slice_get, Option, Some, true}
use Rattle.nemo_transform.specs.RowByRow.{goes_by_row}
use Rattle.nemo_job.specs.Held.{node_of}
use Rattle.nemo_job.specs.ByPlace.{Placed}
use Rattle.nemo_job.specs.declared.copies.Node.{Node}

-- the copy of a place goes row by row, and is the only one that takes what the one before it gives
abbrev pub Joins : List Node → List (Option ℕ) → ℕ → Type 0
Joins nodes last k = (slice_get last (k - 1) ≡ Some (Some k)) × ((p : Placed) → slice_get (map node_of nodes) k ≡ Some p → goes_by_row p.transform ≡ true)

-- each behind the first does, up to an end
abbrev pub IsJoined : List Node → List (Option ℕ) → ℕ → ℕ → Type 0
IsJoined nodes last place end = (k : ℕ) → place < k → k < end → Joins nodes last k

-- one copy or more that are a line, of which the first goes row by row and reaches a sink
pub record IsLineOf (nodes : List Node) (last : List (Option ℕ)) (place end : ℕ) : Type 0 where
  pub more : place < end
  pub within : end ≤ length nodes
  pub first : (p : Placed) → slice_get (map node_of nodes) place ≡ Some p → goes_by_row p.transform ≡ true
  pub reached : (u : ℕ) × (slice_get last place ≡ Some (Some u))
  pub joined : IsJoined nodes last place end
