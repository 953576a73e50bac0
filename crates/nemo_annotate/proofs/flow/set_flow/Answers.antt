use Rattle.std.proofs.Common.{◌∙◌, ap, sym, subst, map}
use Rattle.nemo_ir.specs.Valid.{Valid}
use Rattle.nemo_annotate.specs.Passes.{with_flow}
use Rattle.nemo_annotate.proofs.Keeping.{flow_valid}
use Rattle.nemo_annotate.proofs.flow.set_flow.Goals as goal

pub returns-clause-valid : goal.returns-clause-valid
returns-clause-valid c = λ flat h.
    let dag = c.args.dag.now in
    let made = c.set_all.ensures ∙ ap (λ us. map (with_flow us) dag.edges) c.as_slice.ensures in
    subst (λ es. Valid flat (record { vertices = dag.vertices; edges = es; rep = dag.rep })) (sym made) (flow_valid flat dag h)
