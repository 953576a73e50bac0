use Rattle.std.proofs.Common.{rules}
use Rattle.nemo_bundle.proofs.Lengths.{line_of_fewer, line_of_more}
use Rattle.nemo_bundle.proofs.scripts.line_from.Goals as goal
use Rattle.nemo_bundle.proofs.scripts.line_from.Goals.{in_default-via-then-items-lt3, in_default-via-else-items-lt3+else-items-lt4+else-items-lt5}

pub returns-in_default : goal.returns-in_default
returns-in_default c = elim c.in_default.branch [
  | in_default-via-then-items-lt3 w ↦ search (rules, line_of_fewer)
  | in_default-via-else-items-lt3+else-items-lt4+else-items-lt5 w ↦ search (rules, line_of_more)
]
