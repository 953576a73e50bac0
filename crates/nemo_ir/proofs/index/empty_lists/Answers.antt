use Rattle.std.proofs.Common.{◌≡◌, ◌∙◌, ap, sym, List, [], replicate, arith}
use Rattle.nemo_ir.specs.declared.dag.IrEdge.{IrEdge}
use Rattle.nemo_ir.proofs.Tables.{below_same}
use Rattle.nemo_ir.proofs.index.empty_lists.Goals as goal

pub returns : goal.returns
returns c =
    let none : List IrEdge = [] in
    let all : c.loop.counter ≡ c.args.count = omega (arith, c.loop-test.false, c.loop.auto.counter-end) in
    c.loop.invariant ∙ ap (λ n. replicate n none) all ∙ sym (below_same none c.args.count)
