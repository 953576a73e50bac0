use Rattle.std.proofs.Common.{◌∙◌, ap, sym, subst, []}
use Rattle.nemo_ir.specs.Along.{along}
use Rattle.nemo_ir.specs.Valid.{Valid}
use Rattle.nemo_place.specs.Classes.{IsSameButClasses, with_class}
use Rattle.nemo_place.proofs.ClassSteps.{classes_alone, classes_valid}
use Rattle.nemo_place.proofs.classes.pado_classes.Goals as goal

pub returns-clause-classes_alone : goal.returns-clause-classes_alone
returns-clause-classes_alone c =
    let dag = c.args.dag.now in
    let made = c.set_all.ensures ∙ ap (λ es. along (with_class es) [] dag.vertices) c.as_slice.ensures in
    subst (λ us. IsSameButClasses dag (record { vertices = us; edges = dag.edges; rep = dag.rep })) (sym made) (classes_alone dag)

pub returns-clause-valid : goal.returns-clause-valid
returns-clause-valid c = λ flat h.
    let dag = c.args.dag.now in
    let made = c.set_all.ensures ∙ ap (λ es. along (with_class es) [] dag.vertices) c.as_slice.ensures in
    subst (λ us. Valid flat (record { vertices = us; edges = dag.edges; rep = dag.rep })) (sym made) (classes_valid flat dag h)
