-- The bucket of a key.
use Rattle.std.specs.Prelude.{ℕ, ◌*◌, ◌%◌, ◌^◌, List, fold, bit_xor}
use Rattle.std.specs.Fmt.{signed_decimal}
use Rattle.nemo_value.specs.declared.field.Field.{Field}
use Rattle.nemo_value.specs.declared.field.Field.TheVariants.{Int, Text}

-- FNV-1a of 64 bits: exclusive or with a byte, and then a product
abbrev pub hash_step : ℕ → ℕ → ℕ
hash_step hash byte = (bit_xor hash byte * 1099511628211) % 2 ^ 64

abbrev pub hash_of : List ℕ → ℕ
hash_of bytes = fold hash_step 14695981039346656037 bytes

-- what is hashed of a key: the bytes of a text, or the decimal text of a number
abbrev pub key_text : Field → List ℕ
key_text (Int z) = signed_decimal z
key_text (Text s) = s

abbrev pub bucket_of : Field → ℕ
bucket_of key = hash_of (key_text key) % 256
