-- How a command ends with a bundle: its status, with the history and the text.
use Rattle.std.specs.Prelude.{◌≡◌, ℕ, List, [], ◌∷◌, ◌++◌, length, Bool, true, false, Some, slice_get}
use Rattle.nemo_bundle.specs.declared.bundle.Bundle.{Bundle}
use Rattle.nemo_core.specs.declared.event.Event.{Event}
use Rattle.nemo_ir.specs.Valid.{Valid, FirstFailure}
use Rattle.nemo_ir.specs.declared.dag.IrDag.{IrDag}
use Rattle.nemo_job.specs.Sinks.{job_faults, job_rows}
use Rattle.nemo_laws.specs.Done.{IsDoneRun}
use Rattle.nemo_laws.specs.Solo.{SoloRun}
use Rattle.nemo_laws.specs.Written.{written}
use Rattle.nemo_report.specs.Texts.{sinks_lines, text_of}
use Rattle.nemo_transform.specs.Gives.{Row}
use Rattle.nemo_value.specs.declared.expr.Kind.{Kind}
use Rattle.nemo_top.specs.Bundles.{dag_of, plan_of}
use Rattle.nemo_top.specs.Statuses.{Alone, accepted_line, last_lines}
use Rattle.nemo_top.specs.declared.word.Command.{Command}
use Rattle.nemo_top.specs.declared.word.Command.TheVariants.{Eval, Check, Solo}
use Rattle.nemo_top.specs.declared.status.Status.{Status}
use Rattle.nemo_top.specs.declared.status.Status.TheVariants.{Done, Usage, ReadFault, WriteFault, NotJson, TooLong, BundleRefused, DagRefused, TransformFault, NoMemory}

---- done

-- Where `solo` is done, no fault reaches a sink of the job, the DAG is valid, and the history is that of a run on one thread
-- of the bundle's plan with its settings and its script, of which there is one that ends. It is legal for that plan, made of
-- holds with that script, and ends in Finish, with each block of each sink from one commit. These blocks are what the job
-- gives to its sinks.
pub record IsSoloDone (b : Bundle) (log : List Event) : Type 0 where
  pub faultless : job_faults b.job ≡ []
  pub valid : Valid b.flat (dag_of b)
  pub turns : SoloRun (plan_of b) b.settings b.script log
  pub run : IsDoneRun (plan_of b) b.settings b.script log
  pub sinks : written (plan_of b) b.settings log ≡ job_rows b.job

-- when a command ends as asked, and with which history: `eval` where no fault reaches a sink, `check` where the DAG is
-- valid, and `solo` after its run
abbrev pub IsDone : Command → Bundle → List Event → Type 0
IsDone Eval b log = (job_faults b.job ≡ []) × (log ≡ [])
IsDone Check b log = Valid b.flat (dag_of b) × (log ≡ [])
IsDone Solo b log = IsSoloDone b log

-- what it then writes: the sinks of the job and a last line, or how large the DAG is
abbrev pub done_lines : Command → Bundle → List (List ℕ)
done_lines Eval b = sinks_lines (job_rows b.job) ++ last_lines Done
done_lines Check b = accepted_line (length (dag_of b).vertices) (length (dag_of b).edges) ∷ []
done_lines Solo b = sinks_lines (job_rows b.job) ++ last_lines Done

---- refused and faulty

-- `eval` doesn't look at the DAG
abbrev pub looks_at_dag : Command → Bool
looks_at_dag Eval = false
looks_at_dag Check = true
looks_at_dag Solo = true

-- a DAG is proposed, and it fails first there
abbrev pub ProposesWrong : Bundle → ℕ → ℕ → Type 0
ProposesWrong b clause index = (dag : IrDag) × (b.dag ≡ Some dag) × FirstFailure b.flat dag clause index

-- the first fault that reaches a sink of the job is this one; `check` evaluates nothing, and the jobs that `solo` serves
-- have none
abbrev pub IsFaulty : Command → Bundle → List ℕ → Kind → Row → Type 0
IsFaulty Eval b name kind rec = slice_get (job_faults b.job) 0 ≡ Some (record { vertex = name; kind = kind; rec = rec })
IsFaulty Check b name kind rec = ⊥
IsFaulty Solo b name kind rec = ⊥

---- all of them

-- with a bundle a command is done, or the DAG or the job keeps it from that, or no memory is left; the other statuses come
-- before there is a bundle, or of a write
abbrev pub Ends : Command → Bundle → Status → List Event → List ℕ → Type 0
Ends command b Done log text = IsDone command b log × (text ≡ text_of (done_lines command b))
Ends command b (DagRefused clause index) log text = (looks_at_dag command ≡ true) × ProposesWrong b clause index × Alone (DagRefused clause index) log text
Ends command b (TransformFault name kind rec) log text = IsFaulty command b name kind rec × Alone (TransformFault name kind rec) log text
Ends command b NoMemory log text = Alone NoMemory log text
Ends command b Usage log text = ⊥
Ends command b ReadFault log text = ⊥
Ends command b WriteFault log text = ⊥
Ends command b NotJson log text = ⊥
Ends command b TooLong log text = ⊥
Ends command b (BundleRefused code place) log text = ⊥
