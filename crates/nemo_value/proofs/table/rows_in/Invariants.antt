use Rattle.std.proofs.Common.{◌≡◌, ◌++◌, drop}
use Rattle.nemo_value.specs.Cuts.{AreWidths, parted}
use Rattle.nemo_value.proofs.table.rows_in.Given as goal

-- the rows so far, and then those in the rest
abbrev pub invariant-loop-width : goal.invariant-loop-width
invariant-loop-width l = AreWidths (drop l.width-index l.widths) l.rest × (l.rows.items ++ parted (drop l.width-index l.widths) l.rest ≡ parted l.widths l.fields)
