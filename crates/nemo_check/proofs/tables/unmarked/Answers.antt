use Rattle.std.proofs.Common.{◌≡◌, ◌∙◌, ap, sym, false, replicate, arith}
use Rattle.nemo_ir.proofs.Tables.{below_same}
use Rattle.nemo_check.proofs.tables.unmarked.Goals as goal

pub returns : goal.returns
returns c =
    let all : c.loop.counter ≡ c.args.count = omega (arith, c.loop-test.false, c.loop.auto.counter-end) in
    c.loop.invariant ∙ ap (λ n. replicate n false) all ∙ sym (below_same false c.args.count)
