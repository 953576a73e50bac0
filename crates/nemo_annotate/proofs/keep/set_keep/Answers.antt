use Rattle.std.proofs.Common.{◌∙◌, ap, sym, subst, map}
use Rattle.nemo_ir.specs.Valid.{Valid}
use Rattle.nemo_annotate.specs.Passes.{with_keep}
use Rattle.nemo_annotate.proofs.Keeping.{keep_valid}
use Rattle.nemo_annotate.proofs.keep.set_keep.Goals as goal

pub returns-clause-valid : goal.returns-clause-valid
returns-clause-valid c = λ flat h.
    let dag = c.args.dag.now in
    let made = c.set_all.ensures ∙ ap (λ us. map (with_keep us) dag.edges) c.as_slice.ensures in
    subst (λ es. Valid flat (record { vertices = dag.vertices; edges = es; rep = dag.rep })) (sym made) (keep_valid flat dag h)
