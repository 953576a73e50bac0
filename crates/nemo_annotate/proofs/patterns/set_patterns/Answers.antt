use Rattle.std.proofs.Common.{◌∙◌, ap, sym, subst, map}
use Rattle.nemo_ir.specs.Valid.{Valid}
use Rattle.nemo_annotate.specs.Passes.{with_pattern}
use Rattle.nemo_annotate.proofs.Keeping.{patterns_valid}
use Rattle.nemo_annotate.proofs.patterns.set_patterns.Goals as goal

pub returns-clause-valid : goal.returns-clause-valid
returns-clause-valid c = λ first ops within.
    let flat = c.args.flat.now in
    let dag = c.args.dag.now in
    let made = c.set_all.ensures ∙ ap (λ us. map (with_pattern flat us) dag.edges) c.as_slice.ensures in
    subst (λ es. Valid flat (record { vertices = dag.vertices; edges = es; rep = dag.rep })) (sym made) (patterns_valid flat dag first ops within)
