-- What contracts see of a source and a sink in memory.
use Rattle.std.specs.Prelude.{ℕ, List}

-- the bytes left, the most bytes of one call, the numbers of the calls that fail, the calls and the faults so far
pub record SourceState : Type 0 where
  pub left : List ℕ
  pub most : ℕ
  pub failing : List ℕ
  pub calls : ℕ
  pub faults : ℕ

-- the bytes given, the room left in bytes, the most bytes of one call, the numbers of the calls that fail, the calls and the faults so far
pub record SinkState : Type 0 where
  pub given : List ℕ
  pub room : ℕ
  pub most : ℕ
  pub failing : List ℕ
  pub calls : ℕ
  pub faults : ℕ
