use Rattle.std.proofs.Common.{rules}
use Rattle.nemo_value.specs.Copies.{IsCopy}
use Rattle.nemo_value.specs.declared.expr.Expr.TheVariants.{If}
use Rattle.nemo_value.proofs.expr.ExprTryCopy.+copy.Goals as goal

-- the copies of the three operands, put together
pub returns-in-If : goal.returns-in-If
returns-in-If t c =
    let test = c.get-in-If.result.now in
    let first = c.get-in-If-2.result.now in
    let second = c.get-in-If-3.result.now in
    let made : IsCopy c.choice.result (If test first second) =
    c.choice.ensures test first second (c.boxed.ensures test c.copy-in-If.ensures) (c.both-in-If.ensures first second c.copy-in-If-2.ensures c.copy-in-If-3.ensures) in
    search (rules, made)
