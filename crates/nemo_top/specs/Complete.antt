-- What a call must answer.
use Rattle.std.specs.Prelude.{◌≡◌, ◌≢◌, ◌⊎◌, ◌≤◌, ℕ, List, [], ◌∷◌, length, Option, Some, IfSome}
use Rattle.nemo_bundle.specs.declared.bundle.Bundle.{Bundle}
use Rattle.nemo_ir.specs.Valid.{Valid}
use Rattle.nemo_job.specs.Sinks.{job_faults}
use Rattle.nemo_transform.specs.Brought.{Arisen}
use Rattle.nemo_top.specs.Bundles.{IsBundle}
use Rattle.nemo_top.specs.Words.{command_of}
use Rattle.nemo_top.specs.declared.word.Command.{Command}
use Rattle.nemo_top.specs.declared.word.Command.TheVariants.{Eval, Check, Solo}
use Rattle.nemo_top.specs.declared.status.Status.{Status}
use Rattle.nemo_top.specs.declared.status.Status.TheVariants.{Done, TransformFault, NoMemory}

-- the words are this command, and the content is this bundle of it, in at most 33,554,432 bytes, whose DAG, if it proposes
-- one, is valid
pub record Brings (words : List (List ℕ)) (content : Option (List ℕ)) (command : Command) (b : Bundle) : Type 0 where
  pub asked : command_of words ≡ Some command
  pub bytes : List ℕ
  pub told : content ≡ Some bytes
  pub few : length bytes ≤ 33554432
  pub bundle : IsBundle command bytes b
  pub valid : IfSome b.dag (Valid b.flat)

-- it is done, or no memory was left
abbrev pub IsDoneOrSpent : Status → Type 0
IsDoneOrSpent status = (status ≡ Done) ⊎ (status ≡ NoMemory)

-- so where there is no fault, and else it ends by the first, or no memory was left
abbrev pub Evaluates : List (Arisen (List ℕ)) → Status → Type 0
Evaluates [] status = IsDoneOrSpent status
Evaluates (fault ∷ faults) status = (status ≡ TransformFault fault.vertex fault.kind fault.rec) ⊎ (status ≡ NoMemory)

-- the status that a command must have with such a bundle; a job with a fault is never done
abbrev pub Completes : Command → Bundle → Status → Type 0
Completes Eval b status = Evaluates (job_faults b.job) status
Completes Check b status = IsDoneOrSpent status
Completes Solo b status = IsDoneOrSpent status × (job_faults b.job ≢ [] → status ≢ Done)
