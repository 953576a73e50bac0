use Rattle.std.proofs.Common.{drop}
use Rattle.nemo_transform.specs.RowByRow.{rows_for}
use Rattle.nemo_transform.proofs.RowSteps.{SoFar}
use Rattle.nemo_transform.proofs.rowwise.row_by_row.Given as goal

abbrev pub invariant-loop-row : goal.invariant-loop-row
invariant-loop-row l = SoFar (rows_for l.transform) l.rows (drop l.row-index l.rows) l.given l.faults.items
