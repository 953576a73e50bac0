-- Lists whose items are looked at with their places.
pub use Rattle.nemo_base.specs.Places.{map_at, map_rows, any_at, or_else, first_at, row_at, item_at}
