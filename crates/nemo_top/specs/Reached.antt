-- What the functions of the top answer on their way: what is reached, or the status that it ends with.
use Rattle.std.specs.Prelude.{◌≡◌, ◌⊎◌, ℕ, List, [], false, Result, Ok, Err}
use Rattle.std.specs.Cow.{cow_slice_items}
use Rattle.nemo_bundle.specs.declared.bundle.Bundle.{Bundle}
use Rattle.nemo_bundle.specs.declared.end.BundleEnd.{BundleEnd}
use Rattle.nemo_bundle.specs.declared.end.BundleEnd.TheVariants as bundle
use Rattle.nemo_check.specs.declared.checker.CheckEnd.{CheckEnd}
use Rattle.nemo_check.specs.declared.checker.CheckEnd.TheVariants as check
use Rattle.nemo_core.specs.declared.event.Event.{Event}
use Rattle.nemo_io.specs.declared.source.ReadRefused.{ReadRefused}
use Rattle.nemo_io.specs.declared.source.ReadRefused.TheVariants as read
use Rattle.nemo_job.specs.declared.evaluate.JobEnd.{JobEnd}
use Rattle.nemo_job.specs.declared.evaluate.JobEnd.TheVariants as job
use Rattle.nemo_top.specs.Bundles.{IsNoJson}
use Rattle.nemo_top.specs.Ends.{ProposesWrong}
use Rattle.nemo_top.specs.Statuses.{is_fixed, status_text}
use Rattle.nemo_top.specs.declared.parse.ParseEnd.{ParseEnd}
use Rattle.nemo_top.specs.declared.parse.ParseEnd.TheVariants as parse
use Rattle.nemo_top.specs.declared.reached.Reached.{Reached}
use Rattle.nemo_top.specs.declared.status.Status.{Status}
use Rattle.nemo_top.specs.declared.status.Status.TheVariants.{ReadFault, NotJson, TooLong, BundleRefused, DagRefused, TransformFault, NoMemory}

-- of what is reached, a relation of status, history and text holds; a status that it ends with stands alone
abbrev pub Reaches : Result Reached Status → (Status → List Event → List ℕ → Type 0) → Type 0
Reaches (Ok reached) P = P reached.status reached.log (cow_slice_items reached.text)
Reaches (Err status) P = P status [] (status_text status)

-- a status in the place of another: the same, or want of memory, where the line of the other takes memory
abbrev pub StandsFor : Status → Status → Type 0
StandsFor new status = (new ≡ status) ⊎ ((is_fixed status ≡ false) × (new ≡ NoMemory))

-- why there is no valid DAG of a bundle: that which it proposes isn't, or no memory was left
abbrev pub IsDagEnd : Bundle → CheckEnd → Type 0
IsDagEnd b (check.Refused clause index) = ProposesWrong b clause index
IsDagEnd b check.NoMemory = Unit {0}

-- why bytes give no value: they are no JSON, or no memory was left
abbrev pub IsParseEnd : List ℕ → ParseEnd → Type 0
IsParseEnd bytes parse.NotJson = IsNoJson bytes
IsParseEnd bytes parse.NoMemory = Unit {0}

---- the statuses of the ends of the crates below

abbrev pub of_read : ReadRefused → Status
of_read read.Failed = ReadFault
of_read read.TooLong = TooLong
of_read read.NoMemory = NoMemory

abbrev pub of_bundle : BundleEnd → Status
of_bundle (bundle.Refused code place) = BundleRefused code place
of_bundle bundle.NoMemory = NoMemory

abbrev pub of_check : CheckEnd → Status
of_check (check.Refused clause index) = DagRefused clause index
of_check check.NoMemory = NoMemory

abbrev pub of_job : JobEnd → Status
of_job (job.Fault name kind rec) = TransformFault name kind rec
of_job job.NoMemory = NoMemory

abbrev pub of_parse : ParseEnd → Status
of_parse parse.NotJson = NotJson
of_parse parse.NoMemory = NoMemory
