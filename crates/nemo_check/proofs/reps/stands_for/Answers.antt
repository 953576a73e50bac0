use Rattle.std.proofs.Common.{◌∙◌, ap, slice_get}
use Rattle.nemo_ir.specs.declared.dag.IrDag.{IrDag}
use Rattle.nemo_check.proofs.Standing.{there, elsewhere, nowhere}
use Rattle.nemo_check.proofs.reps.stands_for.Goals as goal

pub returns-then-does_same : goal.returns-then-does_same
returns-then-does_same c =
    there c.args.candidate.now.flat.now c.args.candidate.now.index c.args.x.now c.args.v _ _ _ (c.in-Some.ensures ∙ ap (λ (d : IrDag). slice_get d.vertices c.args.v) c.dag.ensures)
    c.does_same.ensures c.if-does_same.true c.takes_same.ensures

pub returns-else-does_same : goal.returns-else-does_same
returns-else-does_same c =
    elsewhere c.args.candidate.now.flat.now c.args.candidate.now.index c.args.x.now c.args.v _ _ (c.in-Some.ensures ∙ ap (λ (d : IrDag). slice_get d.vertices c.args.v) c.dag.ensures)
    c.does_same.ensures c.if-does_same.false

pub returns-in-None : goal.returns-in-None
returns-in-None c =
    nowhere c.args.candidate.now.flat.now c.args.candidate.now.index c.args.x.now c.args.v (c.in-None.ensures ∙ ap (λ (d : IrDag). slice_get d.vertices c.args.v) c.dag.ensures)
