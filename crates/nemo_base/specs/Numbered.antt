-- Lists whose items are taken with their places.
pub use Rattle.nemo_base.specs.Places.{map_at}
