-- Lists of cuts, which deal the buckets 0 to 255 to tasks.
use Rattle.std.specs.Prelude.{◌≡◌, ◌≤◌, ◌++◌, ◌+◌, ◌&&◌, length, replicate, take, ℕ, suc, ◌*◌, ◌-◌, List, [], ◌∷◌, map, nat_le, nat_lt, Option, Some, None, if◌then◌else◌}
use Rattle.std.specs.List.{range_with_len}
use Rattle.std.specs.Int.{div_ceil}

-- where task i of n begins when all tasks get equally many buckets
abbrev pub even_cut : ℕ → ℕ → ℕ
even_cut n i = div_ceil (256 * i) n

-- the beginnings of the tasks 1 to n - 1
abbrev pub even_cuts : ℕ → List ℕ
even_cuts n = map (even_cut n) (range_with_len 1 (n - 1))

-- 63 places, of which the first have the cuts and the others 0
abbrev pub padded : List ℕ → List ℕ
padded cuts = cuts ++ replicate (63 - length cuts) 0

-- the place, counted from i, of the first entry that is the 64th, exceeds 256, or is less than the one before it
abbrev pub bad_cut : ℕ → ℕ → List ℕ → Option ℕ
bad_cut i before [] = None
bad_cut i before (cut ∷ cuts) = if nat_lt i 63 && nat_le cut 256 && nat_le before cut then bad_cut (i + 1) cut cuts else Some i

-- what cuts keep: at most 63 entries, none above 256, none less than the one before it, and 0 at the places after them
pub record AreCuts (places : List ℕ) (count : ℕ) : Type 0 where
  pub few : count ≤ 63
  pub counted : length (take count places) ≡ count
  pub rest : padded (take count places) ≡ places
  pub good : bad_cut 0 0 (take count places) ≡ None

-- the task to which cuts deal a bucket: how many of them it has passed
abbrev pub task_at : List ℕ → ℕ → ℕ
task_at [] bucket = 0
task_at (cut ∷ cuts) bucket = if nat_le cut bucket then suc (task_at cuts bucket) else 0
