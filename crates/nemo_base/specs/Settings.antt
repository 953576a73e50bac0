-- The settings of a run, and their ranges.
use Rattle.std.specs.Prelude.{ℕ, ◌+◌, ◌≤◌}

-- what contracts see of the settings
pub record SettingsForm : Type 0 where
  pub reserved : ℕ
  pub transient : ℕ
  pub loss_bound : ℕ
  pub piece : ℕ
  pub sample : ℕ
  pub decoded : ℕ

-- what settings keep
pub record AreInRange (s : SettingsForm) : Type 0 where
  pub reserved : 1 ≤ s.reserved
  pub slots : s.reserved + s.transient ≤ 64
  pub loss_bound : (1 ≤ s.loss_bound) × (s.loss_bound ≤ 1000)
  pub piece : (1 ≤ s.piece) × (s.piece ≤ 1048576)
  pub sample : (1 ≤ s.sample) × (s.sample ≤ 1000)
  pub decoded : s.decoded ≤ 1073741824

-- those of a run of which nothing is said
abbrev pub default_settings : SettingsForm
default_settings = record { reserved = 1; transient = 0; loss_bound = 8; piece = 65536; sample = 8; decoded = 16777216 }
