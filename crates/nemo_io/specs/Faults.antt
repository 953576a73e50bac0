-- When a fault of the outside may be answered.
use Rattle.std.specs.Prelude.{◌≡◌, ◌≢◌, ◌+◌, ◌-◌, ◌^◌, ◌<◌, ℕ, min, Result, MatchResult}

-- one more call or fault, up to the last value of a u64
abbrev pub one_more : ℕ → ℕ
one_more n = min (n + 1) (2 ^ 64 - 1)

-- a count of faults rose; at 2^64 - 1, its last value, and there alone, it stays instead
pub record Rose (before now : ℕ) : Type 0 where
  pub above : before ≢ 2 ^ 64 - 1 → before < now
  pub last : before ≡ 2 ^ 64 - 1 → now ≡ before

-- a count of faults over one call: `Err` comes only where it rose, and `Ok` leaves it
abbrev pub HasCause : {T E : Type 0} → ℕ → ℕ → Result T E → Type 0
HasCause before now result = MatchResult result (λ _. now ≡ before) (λ _. Rose before now)
