use Rattle.std.proofs.Common.{rules}
use Rattle.nemo_read.proofs.Lengths.{shape_of_fewer, shape_of_more}
use Rattle.nemo_read.proofs.expression.read_called.Goals as goal
use Rattle.nemo_read.proofs.expression.read_called.Goals.{in_default-via-then-args-lt1, in_default-via-else-args-lt1+else-args-lt2+else-args-lt3+else-args-lt4}

pub returns-in_default : goal.returns-in_default
returns-in_default c = elim c.in_default.branch [
  | in_default-via-then-args-lt1 w ↦ search (rules, shape_of_fewer)
  | in_default-via-else-args-lt1+else-args-lt2+else-args-lt3+else-args-lt4 w ↦ search (rules, shape_of_more)
]
