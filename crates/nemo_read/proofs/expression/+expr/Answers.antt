use Rattle.std.proofs.Common.{rules, arith, ◌-◌}
use Rattle.serde_json.specs.View.{view}
use Rattle.nemo_read.proofs.Depths.{none_within, level_within}
use Rattle.nemo_read.proofs.expression.+expr.Goals as goal

pub read_expr-returns-then-depth-eq0 : goal.read_expr-returns-then-depth-eq0
read_expr-returns-then-depth-eq0 t c = none_within c.args.depth (view c.args.value.now) c.if-depth-eq0.true

pub read_expr-returns-in_err-shape : goal.read_expr-returns-in_err-shape
read_expr-returns-in_err-shape t c =
    rw (level_within c.args.depth (c.args.depth - 1) (view c.args.value.now) (omega (arith, c.if-depth-eq0.false))) (search rules)

pub read_expr-returns : goal.read_expr-returns
read_expr-returns t c =
    rw (level_within c.args.depth (c.args.depth - 1) (view c.args.value.now) (omega (arith, c.if-depth-eq0.false))) (search rules)
