-- The least cuts of some counts of buckets.
use Rattle.std.specs.Prelude.{◌≡◌, ◌≤◌, ℕ, ◌+◌, ◌-◌, ◌&&◌, Bool, true, nat_le, List, [], ◌∷◌, ◌++◌, length, replicate, take, if◌then◌else◌}
use Rattle.std.specs.List.{list_all}

-- buckets from one on, cut into runs that are each as long as their sum fits a capacity: the first bucket after each run, with the sum of the run that is open
abbrev pub ends_from : ℕ → ℕ → ℕ → List ℕ → List ℕ
ends_from capacity sum bucket [] = bucket ∷ []
ends_from capacity sum bucket (c ∷ counts) =
    if nat_le (sum + c) capacity then ends_from capacity (sum + c) (bucket + 1) counts else bucket ∷ ends_from capacity c (bucket + 1) counts

abbrev pub ends : ℕ → List ℕ → List ℕ
ends capacity counts = ends_from capacity 0 0 counts

-- the runs cover all buckets, and are at most n
abbrev pub suffices : List ℕ → ℕ → ℕ → Bool
suffices counts n capacity = list_all (λ c. nat_le c capacity) counts && nat_le (length (ends capacity counts)) n

-- n - 1 cuts: the ends of the runs, and then 256
abbrev pub cuts_by : List ℕ → ℕ → ℕ → List ℕ
cuts_by counts n capacity = take (n - 1) (ends capacity counts ++ replicate (n - 1) 256)

-- these cuts are those of the least capacity
abbrev pub IsLeastCuts : List ℕ → ℕ → List ℕ → Type 0
IsLeastCuts counts n cuts =
    (capacity : ℕ) × (suffices counts n capacity ≡ true) × ((other : ℕ) → suffices counts n other ≡ true → capacity ≤ other) × (cuts ≡ cuts_by counts n capacity)
