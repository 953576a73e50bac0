-- The run of a bundle.
use Rattle.std.proofs.Common.{◌≡◌, ◌∙◌, ap, sym, subst, List, [], true, IfSome, Result, Ok, Err, IfOk}
use Rattle.nemo_bundle.specs.declared.bundle.Bundle.{Bundle}
use Rattle.nemo_core.specs.declared.event.Event.{Event}
use Rattle.nemo_flat.proofs.ChainValue.{keeps_faults, keeps_none, keeps_rows}
use Rattle.nemo_ir.specs.Line.{IsLine}
use Rattle.nemo_ir.specs.Meaning.{flat_faults, flat_rows}
use Rattle.nemo_ir.specs.Uniform.{is_uniform}
use Rattle.nemo_ir.specs.Valid.{Valid}
use Rattle.nemo_ir.specs.declared.dag.IrDag.{IrDag}
use Rattle.nemo_job.specs.Sinks.{job_rows}
use Rattle.nemo_laws.specs.Done.{IsDoneRun}
use Rattle.nemo_laws.specs.Solo.{SoloRun}
use Rattle.nemo_laws.specs.Written.{written}
use Rattle.nemo_plan.specs.Form.{PlanForm}
use Rattle.nemo_policy.proofs.ChainMain.{chain_main}
use Rattle.nemo_policy.specs.Main.{HasMainPorts}
use Rattle.nemo_value.specs.declared.record.SinkRows.{SinkRows}
use Rattle.nemo_replay.specs.declared.single.RunEnd.{RunEnd}
use Rattle.nemo_top.specs.Bundles.{dag_of, plan_of}
use Rattle.nemo_top.specs.Ends.{IsSoloDone}
use Rattle.nemo_top.specs.Served.{IsRunnable}
use Rattle.nemo_top.proofs.Chains.{chain_line}

-- its ports are all Main
pub main_ports : (b : Bundle) → IsRunnable b → HasMainPorts b.flat
main_ports b runs = subst HasMainPorts (sym runs.flat) (chain_main b.job runs.chain)

-- no fault reaches a sink of it
faultless_form : (b : Bundle) → IsRunnable b → flat_faults b.flat ≡ []
faultless_form b runs = ap flat_faults runs.flat ∙ keeps_none b.job runs.chain

-- nor in its plan, whose flat job is a line
pub faultless_plan : (b : Bundle) (dag : IrDag) (p : PlanForm) → IsRunnable b → p ≡ record { flat = b.flat; dag = dag } → flat_faults p.flat ≡ []
faultless_plan b dag p runs is = ap (λ p. flat_faults p.flat) is ∙ faultless_form b runs

pub line_plan : (b : Bundle) (dag : IrDag) (p : PlanForm) → IsRunnable b → p ≡ record { flat = b.flat; dag = dag } → IsLine p.flat
line_plan b dag p runs is = subst (λ p. IsLine p.flat) (sym is) (chain_line b runs.chain runs.flat)

-- its sinks get what the job gives them
pub same_rows : (b : Bundle) → IsRunnable b → flat_rows b.flat ≡ job_rows b.job
same_rows b runs = ap flat_rows runs.flat ∙ keeps_rows b.job runs.chain

-- the run of its plan is that of the bundle
pub ran_solo : (b : Bundle) (dag : IrDag) (log : List Event) (sinks : List SinkRows) → IsRunnable b → dag ≡ dag_of b → Valid b.flat dag
    → IsDoneRun (record { flat = b.flat; dag = dag }) b.settings [] log → SoloRun (record { flat = b.flat; dag = dag }) b.settings [] log
    → sinks ≡ written (record { flat = b.flat; dag = dag }) b.settings log → sinks ≡ flat_rows b.flat → IsSoloDone b log
ran_solo b dag log sinks runs is valid run turns committed rows = record {
  faultless = sym (keeps_faults b.job runs.chain) ∙ keeps_none b.job runs.chain;
  valid = subst (Valid b.flat) is valid;
  turns = subst (λ lines. SoloRun (plan_of b) b.settings lines log) (sym runs.script) (subst (λ x. SoloRun (record { flat = b.flat; dag = x }) b.settings [] log) is turns);
  run = subst (λ lines. IsDoneRun (plan_of b) b.settings lines log) (sym runs.script) (subst (λ x. IsDoneRun (record { flat = b.flat; dag = x }) b.settings [] log) is run);
  sinks = subst (λ x. written (record { flat = b.flat; dag = x }) b.settings log ≡ job_rows b.job) is (sym committed ∙ rows ∙ same_rows b runs);
}

module _ {E : Type 0} (b : Bundle) (dag : IrDag) (p : PlanForm) (runs : IsRunnable b) (of : dag ≡ dag_of b) (valid : Valid b.flat dag) (is : p ≡ record { flat = b.flat; dag = dag }) where
  pub ran : (r : Result RunEnd E) → IfOk r (λ end. IsDoneRun p b.settings [] end.log) → IfOk r (λ end. SoloRun p b.settings [] end.log) → IfOk r (λ end. end.sinks ≡ written p b.settings end.log) → IfOk r (λ end. end.sinks ≡ flat_rows p.flat)
      → IfOk r (λ end. IsSoloDone b end.log)
  ran (Ok end) run turns committed rows =
      ran_solo b dag end.log end.sinks runs of valid (subst (λ p. IsDoneRun p b.settings [] end.log) is run) (subst (λ p. SoloRun p b.settings [] end.log) is turns)
      (subst (λ p. end.sinks ≡ written p b.settings end.log) is committed) (subst (λ p. end.sinks ≡ flat_rows p.flat) is rows)
  ran (Err e) run turns committed rows = tt

  pub ran_rows : (r : Result RunEnd E) → IfOk r (λ end. end.sinks ≡ flat_rows p.flat) → IfOk r (λ end. end.sinks ≡ job_rows b.job)
  ran_rows (Ok end) rows = subst (λ p. end.sinks ≡ flat_rows p.flat) is rows ∙ same_rows b runs
  ran_rows (Err e) rows = tt

---- on the way

-- its DAG is uniform
pub uniform_dag : (b : Bundle) (dag : IrDag) → IsRunnable b → (HasMainPorts b.flat → IfSome b.dag (λ dag. is_uniform dag ≡ true) → is_uniform dag ≡ true) → is_uniform dag ≡ true
uniform_dag b dag runs h = h (main_ports b runs) runs.uniform
