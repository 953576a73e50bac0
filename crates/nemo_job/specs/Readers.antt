-- Which vertex is the last that takes what a vertex gives.
use Rattle.std.specs.Prelude.{◌≡◌, ◌⊎◌, ℕ, List, length, slice_get, Option, Some, None, if◌then◌else◌}
use Rattle.nemo_job.specs.ByPlace.{Placed}
use Rattle.nemo_transform.specs.Sinks.{does_sink}

-- the number of vertices for a sink
abbrev pub end_of : ℕ → Placed → Option ℕ
end_of count p = if does_sink p.transform then Some count else None

-- The inputs have a number now, this place where they had none, and nothing else changed.
pub record IsMarked (inputs : List ℕ) (place : ℕ) (old new : List (Option ℕ)) : Type 0 where
  pub size : length new ≡ length old
  pub stays : (j u : ℕ) → slice_get old j ≡ Some (Some u) → slice_get new j ≡ Some (Some u)
  pub has : (k j : ℕ) → slice_get inputs k ≡ Some j → (w : ℕ) × (slice_get new j ≡ Some (Some w))
  pub added : (j u : ℕ) → slice_get new j ≡ Some (Some u) → (slice_get old j ≡ Some (Some u)) ⊎ ((k : ℕ) × (slice_get inputs k ≡ Some j) × (u ≡ place))
