use Rattle.std.proofs.Common.{◌∙◌, ap, subst}
use Rattle.nemo_base.specs.Sound.{is_sound}
use Rattle.nemo_ir.specs.Flat.{IsFlat}
use Rattle.nemo_ir.proofs.Computing.{computes}
use Rattle.nemo_ir.proofs.LocalParts.{parts_local}
use Rattle.nemo_ir.proofs.ValidNodes.{valid_wired}
use Rattle.nemo_plan.proofs.Wires.{graph_wired}
use Rattle.nemo_plan.proofs.plan.Plan.new.Goals as goal

pub returns-clause-computes : goal.returns-clause-computes
returns-clause-computes c = computes c.args.flat c.args.dag (subst IsFlat c.flat.view_is c.flat.invariant) c.requires.valid (valid_wired c.args.flat c.args.dag c.requires.valid)

pub returns-clause-local : goal.returns-clause-local
returns-clause-local c = parts_local c.args.flat c.args.dag c.requires.valid

pub invariant_of-result : goal.invariant_of-result
invariant_of-result c =
    let fine = subst IsFlat c.flat.view_is c.flat.invariant in
    record {
      job = fine;
      valid = c.requires.valid;
      cut = c.in_ok-stages.ensures.stages;
      is = c.in_ok-stages.ensures.graph;
      sound = ap is_sound c.in_ok-stages.ensures.graph ∙ (graph_wired (record { flat = c.args.flat; dag = c.args.dag }) fine c.requires.valid).sound;
    }
