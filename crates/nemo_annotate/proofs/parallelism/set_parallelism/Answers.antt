use Rattle.std.proofs.Common.{◌∙◌, ap, sym, subst, []}
use Rattle.nemo_ir.specs.Along.{along}
use Rattle.nemo_ir.specs.Valid.{Holds, IsFirst}
use Rattle.nemo_ir.specs.declared.clause.Clause.TheVariants.{V9}
use Rattle.nemo_annotate.specs.Ops.{IsOfOps}
use Rattle.nemo_annotate.specs.Passes.{with_tasks}
use Rattle.nemo_annotate.proofs.Keeping.{parallelism_first, parallelism_ops, parallelism_within}
use Rattle.nemo_annotate.proofs.parallelism.set_parallelism.Goals as goal

pub returns-clause-first : goal.returns-clause-first
returns-clause-first c = λ h.
    let flat = c.args.flat.now in
    let dag = c.args.dag.now in
    let made = c.set_tasks.ensures ∙ ap (λ es. along (with_tasks flat c.args.p es) [] dag.vertices) c.as_slice.ensures in
    subst (λ us. IsFirst flat (record { vertices = us; edges = dag.edges; rep = dag.rep })) (sym made) (parallelism_first flat c.args.p dag h)

pub returns-clause-ops : goal.returns-clause-ops
returns-clause-ops c = λ h.
    let flat = c.args.flat.now in
    let dag = c.args.dag.now in
    let made = c.set_tasks.ensures ∙ ap (λ es. along (with_tasks flat c.args.p es) [] dag.vertices) c.as_slice.ensures in
    subst (λ us. IsOfOps (record { vertices = us; edges = dag.edges; rep = dag.rep })) (sym made) (parallelism_ops flat c.args.p dag h)

pub returns-clause-within : goal.returns-clause-within
returns-clause-within c = λ short.
    let flat = c.args.flat.now in
    let dag = c.args.dag.now in
    let made = c.set_tasks.ensures ∙ ap (λ es. along (with_tasks flat c.args.p es) [] dag.vertices) c.as_slice.ensures in
    subst (λ us. Holds flat (record { vertices = us; edges = dag.edges; rep = dag.rep }) V9) (sym made) (parallelism_within flat c.args.p dag c.requires.some c.requires.few short)
