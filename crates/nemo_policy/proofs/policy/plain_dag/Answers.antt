use Rattle.std.proofs.Common.{◌≡◌, ◌∙◌, ap, sym, subst, true, IfOk, Ok, Err, Result}
use Rattle.nemo_value.specs.declared.memory.NoMemory.{NoMemory}
use Rattle.nemo_ir.specs.Uniform.{is_uniform}
use Rattle.nemo_ir.specs.Valid.{Valid}
use Rattle.nemo_ir.specs.declared.dag.IrDag.{IrDag}
use Rattle.nemo_policy.specs.Passes.{set_parallelism, set_patterns}
use Rattle.nemo_policy.proofs.PlainUniform.{plain_uniform}
use Rattle.nemo_policy.proofs.PlainValid.{plain_valid}
use Rattle.nemo_policy.proofs.policy.plain_dag.Goals as goal

-- what holds of the value that a result has to be holds of the result
of_value : (r : Result IrDag NoMemory) (dag : IrDag) (P : IrDag → Type 0) → IfOk r (λ new. new ≡ dag) → P dag → IfOk r P
of_value (Ok new) dag P e h = subst P (sym e) h
of_value (Err e) dag P is h = tt

pub returns-clause-valid : goal.returns-clause-valid
returns-clause-valid c =
    let flat = c.args.flat.now in
    let p = c.args.p in
    of_value c.set_patterns.result (set_patterns flat c.in_ok-spread.spread) (Valid flat) c.set_patterns.ensures
    (subst (λ dag. Valid flat (set_patterns flat dag)) (sym (c.in_ok-spread.ensures ∙ ap (set_parallelism flat p) c.in_ok-first.ensures.dag))
    (plain_valid flat p c.keeps.ensures c.requires.line c.requires.some c.requires.few))

pub returns-clause-uniform : goal.returns-clause-uniform
returns-clause-uniform c = λ main.
    let flat = c.args.flat.now in
    let p = c.args.p in
    of_value c.set_patterns.result (set_patterns flat c.in_ok-spread.spread) (λ dag. is_uniform dag ≡ true) c.set_patterns.ensures
    (subst (λ dag. is_uniform (set_patterns flat dag) ≡ true) (sym (c.in_ok-spread.ensures ∙ ap (set_parallelism flat p) c.in_ok-first.ensures.dag))
    (plain_uniform flat p c.keeps.ensures c.requires.line main))
