use Rattle.std.proofs.Common.{◌*◌, ◌+◌}
use Rattle.nemo_read.proofs.expression.+expr.Given as goal

-- a level goes through three functions

abbrev pub decreases-read_expr : goal.decreases-read_expr
decreases-read_expr l = l.depth * 3

abbrev pub decreases-read_operand : goal.decreases-read_operand
decreases-read_operand l = l.depth * 3 + 1

abbrev pub decreases-read_parts : goal.decreases-read_parts
decreases-read_parts l = l.depth * 3 + 2
