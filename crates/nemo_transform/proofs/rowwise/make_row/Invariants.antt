use Rattle.std.proofs.Common.{◌≡◌, drop, length}
use Rattle.nemo_transform.specs.Gives.{row_of}
use Rattle.nemo_transform.proofs.Rows.{with_front}
use Rattle.nemo_transform.proofs.rowwise.make_row.Given as goal

-- the fields so far, in front of those of the other expressions
abbrev pub invariant-loop-expr : goal.invariant-loop-expr
invariant-loop-expr l = record {
  made : with_front l.fields.items (row_of (drop l.expr-index l.out) l.row) ≡ row_of l.out l.row;
  count : length l.fields.items ≡ l.expr-index;
}
