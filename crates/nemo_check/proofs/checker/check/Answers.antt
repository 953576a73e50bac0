use Rattle.std.proofs.Common.{subst}
use Rattle.nemo_ir.specs.Flat.{FlatForm}
use Rattle.nemo_ir.specs.Valid.{clauses}
use Rattle.nemo_ir.specs.declared.dag.IrDag.{IrDag}
use Rattle.nemo_ir.proofs.Computing.{computes}
use Rattle.nemo_ir.proofs.LocalParts.{parts_local}
use Rattle.nemo_ir.proofs.ValidNodes.{valid_wired}
use Rattle.nemo_check.specs.Finds.{AllHold}
use Rattle.nemo_check.proofs.Judging.{all_valid}
use Rattle.nemo_check.proofs.checker.check.Goals as goal

pub returns-clause-ok : goal.returns-clause-ok
returns-clause-ok c =
    all_valid c.args.flat.now c.args.dag.now
    (subst (λ (p : FlatForm × IrDag). AllHold p.0 p.1 clauses) (λ i. (c.in_ok-candidate.ensures.flat i, c.in_ok-candidate.ensures.dag i)) c.in-None.ensures)

pub returns-clause-computes : goal.returns-clause-computes
returns-clause-computes c = computes c.args.flat.now c.args.dag.now c.new.ensures.kept (returns-clause-ok c) (valid_wired c.args.flat.now c.args.dag.now (returns-clause-ok c))

pub returns-clause-local : goal.returns-clause-local
returns-clause-local c = parts_local c.args.flat.now c.args.dag.now (returns-clause-ok c)
