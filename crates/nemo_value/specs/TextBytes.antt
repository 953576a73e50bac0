-- Where the bytes of a text are.
use Rattle.std.specs.Prelude.{ℕ, List, string_bytes}
use Rattle.nemo_value.specs.declared.text.Bytes.{Bytes}
use Rattle.nemo_value.specs.declared.text.Bytes.TheVariants.{Short, Long}

abbrev pub bytes_in : Bytes → List ℕ
bytes_in (Short s) = s.bytes
bytes_in (Long s) = string_bytes s
