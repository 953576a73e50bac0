-- Every legal log that ends has the answer, or a fault, of its flat job.
use Rattle.std.proofs.Common.{[], ◌∷◌, ◌++◌}
use Rattle.nemo_core.specs.State.{start}
use Rattle.nemo_core.specs.declared.event.Event.TheVariants.{Fault, Finish}
use Rattle.nemo_plan.specs.Form.{graph}
use Rattle.nemo_laws.specs.History.{HistoryLaw}
use Rattle.nemo_laws.proofs.Answered.{answer}
use Rattle.nemo_laws.proofs.Faulted.{fault_is, legal_split}
use Rattle.nemo_laws.proofs.Recomputing.{recomputation}

pub history : HistoryLaw
history = record {
  done = λ p k before fine valid legal. answer p k before fine valid legal (recomputation.legal p k (before ++ Finish ∷ []) fine valid legal);
  fault = λ p k before a x kind rec fine valid legal.
      let q = legal_split p k (start (graph p) k) [] before (Fault a x kind rec ∷ []) legal in
      fault_is p k before fine valid q.0 (recomputation.legal p k before fine valid q.0) a x kind rec q.1.0 q.1.1;
}
