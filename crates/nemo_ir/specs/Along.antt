-- Lists made entry by entry.
pub use Rattle.nemo_base.specs.Sound.{all_at, passes}
pub use Rattle.nemo_value.specs.Along.{along}
pub use Rattle.nemo_value.specs.Counted.{counted, below}
