-- The key of a record under a key list, and its bucket.
use Rattle.std.specs.Prelude.{ℕ, ◌%◌, List, [], ◌∷◌, map, slice_get, Option, Some, None}
use Rattle.std.specs.List.{join_with_byte}
use Rattle.nemo_value.specs.Bucket.{hash_of, key_text}
use Rattle.nemo_value.specs.declared.field.Field.{Field}

-- a field and then others, where all of them are there
abbrev pub with_field : Option Field → Option (List Field) → Option (List Field)
with_field None fields = None
with_field (Some f) None = None
with_field (Some f) (Some fields) = Some (f ∷ fields)

-- the fields that a key list names, in its order, where the record has them all
abbrev pub key_by : List ℕ → List Field → Option (List Field)
key_by [] row = Some []
key_by (k ∷ keys) row = with_field (slice_get row k) (key_by keys row)

-- the key list of the first field alone
abbrev pub first_key : List ℕ
first_key = 0 ∷ []

-- what is hashed of a key: the texts of its fields, with a byte 0 between each two
abbrev pub key_bytes : List Field → List ℕ
key_bytes key = join_with_byte 0 (map key_text key)

abbrev pub bucket_or_first : Option (List Field) → ℕ
bucket_or_first (Some key) = hash_of (key_bytes key) % 256
bucket_or_first None = 0

-- the bucket of a record under a key list: that of its key, and 0 where it has none
abbrev pub row_bucket : List ℕ → List Field → ℕ
row_bucket keys row = bucket_or_first (key_by keys row)
