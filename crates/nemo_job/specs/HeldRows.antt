-- The rows that a vertex gave.
use Rattle.std.specs.Prelude.{List}
use Rattle.nemo_transform.specs.Gives.{Row}
use Rattle.nemo_job.specs.declared.held.Rows.{Rows}
use Rattle.nemo_job.specs.declared.held.Rows.TheVariants.{Lent, Made}

abbrev pub rows_held : Rows → List Row
rows_held (Lent records) = records.now
rows_held (Made table) = table
