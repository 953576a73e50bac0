-- Samples of rows, and how many of them lie in each bucket.
use Rattle.std.specs.Prelude.{ℕ, ◌+◌, ◌%◌, ◌==◌, List, [], ◌∷◌, map, count_by, slice_get, unwrap_or, pos, if◌then◌else◌}
use Rattle.nemo_value.specs.Bucket.{bucket_of}
use Rattle.nemo_value.specs.Counted.{below}
use Rattle.nemo_value.specs.declared.field.Field.{Field}
use Rattle.nemo_value.specs.declared.field.Field.TheVariants.{Int}

-- from number k on, the rows whose number is a multiple of the step
abbrev pub sampled : ℕ → ℕ → List (List Field) → List (List Field)
sampled step k [] = []
sampled step k (r ∷ rows) = if k % step == 0 then r ∷ sampled step (k + 1) rows else sampled step (k + 1) rows

-- the bucket of a row by its first field, which is its key
abbrev pub bucket_in : List Field → ℕ
bucket_in r = bucket_of (unwrap_or (slice_get r 0) (Int (pos 0)))

-- of each bucket, how many of these rows lie in it
abbrev pub counts_of : List (List Field) → List ℕ
counts_of rows = map (λ b. count_by (λ r. bucket_in r == b) rows) (below 256)
