-- What a call answers, and why: a row for each status.
use Rattle.std.specs.Prelude.{◌≡◌, ℕ, List, Some, None}
use Rattle.nemo_bundle.specs.declared.bundle.Bundle.{Bundle}
use Rattle.nemo_core.specs.declared.event.Event.{Event}
use Rattle.nemo_top.specs.Bundles.{IsBundle, IsNoJson, IsRefused}
use Rattle.nemo_top.specs.Calls.{Asked, Call, FailedAfter, GaveUp, ReadWhole, TookMany, Untouched}
use Rattle.nemo_top.specs.Ends.{Ends}
use Rattle.nemo_top.specs.Statuses.{Alone}
use Rattle.nemo_top.specs.Words.{command_of}
use Rattle.nemo_top.specs.declared.word.Command.{Command}
use Rattle.nemo_top.specs.declared.status.Status.{Status}
use Rattle.nemo_top.specs.declared.status.Status.TheVariants.{Done, Usage, ReadFault, WriteFault, NotJson, TooLong, BundleRefused, DagRefused, TransformFault, NoMemory}

-- the bytes are a bundle, and the command ends so with it
abbrev pub EndsWith : Command → List ℕ → Status → List Event → List ℕ → Type 0
EndsWith command bytes status log text = (b : Bundle) × IsBundle command bytes b × Ends command b status log text

-- what content that was read whole leads to; the other statuses come before that, or of a write
abbrev pub Leads : Command → List ℕ → Status → List Event → List ℕ → Type 0
Leads command bytes Done log text = EndsWith command bytes Done log text
Leads command bytes NotJson log text = IsNoJson bytes × Alone NotJson log text
Leads command bytes (BundleRefused code place) log text = IsRefused command bytes code place × Alone (BundleRefused code place) log text
Leads command bytes (DagRefused clause index) log text = EndsWith command bytes (DagRefused clause index) log text
Leads command bytes (TransformFault name kind rec) log text = EndsWith command bytes (TransformFault name kind rec) log text
Leads command bytes NoMemory log text = Alone NoMemory log text
Leads command bytes Usage log text = ⊥
Leads command bytes ReadFault log text = ⊥
Leads command bytes WriteFault log text = ⊥
Leads command bytes TooLong log text = ⊥

-- the words are a command, these bytes are the whole content, and they lead there
abbrev pub Reads : Call → Status → List Event → List ℕ → Type 0
Reads call status log text = (command : Command) × (bytes : List ℕ) × (command_of call.words ≡ Some command) × ReadWhole call bytes × Leads command bytes status log text

-- A status with its cause, its history and its text, before anything is written. Words are looked at first, and then the
-- content is read; the other causes are looked at on the whole of it. WriteFault only takes the place of another.
abbrev pub Answers : Call → Status → List Event → List ℕ → Type 0
Answers call Done log text = Reads call Done log text
Answers call Usage log text = (command_of call.words ≡ None) × Untouched call × Alone Usage log text
Answers call ReadFault log text = Asked call × (bytes : List ℕ) × FailedAfter call bytes × Alone ReadFault log text
Answers call WriteFault log text = ⊥
Answers call NotJson log text = Reads call NotJson log text
Answers call TooLong log text = Asked call × (bytes : List ℕ) × TookMany call bytes × Alone TooLong log text
Answers call (BundleRefused code place) log text = Reads call (BundleRefused code place) log text
Answers call (DagRefused clause index) log text = Reads call (DagRefused clause index) log text
Answers call (TransformFault name kind rec) log text = Reads call (TransformFault name kind rec) log text
Answers call NoMemory log text = Asked call × (bytes : List ℕ) × GaveUp call bytes × Alone NoMemory log text
