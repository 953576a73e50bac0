use Rattle.std.proofs.Common.{◌≡◌, ◌∙◌, ap, subst, sym, ℕ, List, length, map}
use Rattle.nemo_ir.specs.Along.{below}
use Rattle.nemo_ir.specs.Flat.{FlatForm, IsFlat}
use Rattle.nemo_ir.specs.Valid.{Valid}
use Rattle.nemo_ir.specs.declared.dag.IrDag.{IrDag}
use Rattle.nemo_ir.specs.declared.dag.IrEdge.{IrEdge}
use Rattle.nemo_ir.specs.declared.dag.IrVertex.{IrVertex}
use Rattle.nemo_ir.specs.declared.flat.FlatVertex.{FlatVertex}
use Rattle.nemo_flat.specs.FirstDag.{IsFirst, first_dag, op_of}
use Rattle.nemo_flat.proofs.FirstValid.{first_meets}
use Rattle.nemo_flat.proofs.LineValid.{first_valid}
use Rattle.nemo_flat.proofs.first.first_dag.Goals as goal

-- what is said of the first DAG holds of its parts
of_parts : (flat : FlatForm) (P : IrDag → Type 0) (vs : List FlatVertex) (ops : List IrVertex) (es : List IrEdge) (rep : List ℕ) → vs ≡ flat.vertices
    → ops ≡ map op_of vs → es ≡ (first_dag flat).edges → rep ≡ below (length vs) → P (first_dag flat) → P (record { vertices = ops; edges = es; rep = rep })
of_parts flat P vs ops es rep all is_ops is_edges is_rep holds =
    let same_ops = is_ops ∙ ap (map op_of) all in
    let same_rep = is_rep ∙ ap (λ xs. below (length xs)) all in
    let same : record { vertices = ops; edges = es; rep = rep } ≡ first_dag flat = λ i. record { vertices = same_ops i; edges = is_edges i; rep = same_rep i } in
    subst P (sym same) holds

pub returns-clause-rules : goal.returns-clause-rules
returns-clause-rules c =
    let flat = c.args.flat.now in
    of_parts flat (IsFirst flat) c.as_slice-vertices.result.now c.in_ok-ops.field-0 c.in_ok-edges.field-0 c.in_ok-numbers.field-0
    (c.as_slice-vertices.ensures ∙ ap (λ f. f.vertices) c.flat.view_is) c.in_ok-ops.ensures c.in_ok-edges.ensures c.in_ok-numbers.ensures
    (first_meets flat (subst IsFlat c.flat.view_is c.flat.invariant))

pub returns-clause-valid : goal.returns-clause-valid
returns-clause-valid c line =
    let flat = c.args.flat.now in
    of_parts flat (Valid flat) c.as_slice-vertices.result.now c.in_ok-ops.field-0 c.in_ok-edges.field-0 c.in_ok-numbers.field-0
    (c.as_slice-vertices.ensures ∙ ap (λ f. f.vertices) c.flat.view_is) c.in_ok-ops.ensures c.in_ok-edges.ensures c.in_ok-numbers.ensures
    (first_valid flat (subst IsFlat c.flat.view_is c.flat.invariant) line)
