-- The statuses: their numbers and their last lines.
use Rattle.std.specs.Prelude.{◌≡◌, ℕ, List, [], ◌∷◌, ◌++◌, codes, decimal, Bool, true, false}
use Rattle.nemo_core.specs.declared.event.Event.{Event}
use Rattle.nemo_report.specs.Texts.{fault_line, text_of}
use Rattle.nemo_top.specs.declared.status.Status.{Status}
use Rattle.nemo_top.specs.declared.status.Status.TheVariants.{Done, Usage, ReadFault, WriteFault, NotJson, TooLong, BundleRefused, DagRefused, TransformFault, NoMemory}

abbrev pub number_of : Status → ℕ
number_of Done = 0
number_of Usage = 2
number_of ReadFault = 3
number_of WriteFault = 4
number_of NotJson = 5
number_of TooLong = 6
number_of (BundleRefused code place) = 7
number_of (DagRefused clause index) = 8
number_of (TransformFault name kind rec) = 9
number_of NoMemory = 13

-- the last line of a status; after a failed write there is none, and that of a check that accepts isn't this one
abbrev pub last_lines : Status → List (List ℕ)
last_lines Done = codes "done" ∷ []
last_lines Usage = codes "usage" ∷ []
last_lines ReadFault = codes "read fault" ∷ []
last_lines WriteFault = []
last_lines NotJson = codes "not json" ∷ []
last_lines TooLong = codes "too long" ∷ []
last_lines (BundleRefused code place) = (codes "bundle refused " ++ decimal code ++ codes " " ++ decimal place) ∷ []
last_lines (DagRefused clause index) = (codes "dag refused V" ++ decimal clause ++ codes " " ++ decimal index) ∷ []
last_lines (TransformFault name kind rec) = fault_line name kind rec ∷ []
last_lines NoMemory = codes "no memory" ∷ []

-- the text of a status that stands alone
abbrev pub status_text : Status → List ℕ
status_text status = text_of (last_lines status)

-- a status alone: nothing ran, and its last line is all that is written
pub record Alone (status : Status) (log : List Event) (text : List ℕ) : Type 0 where
  pub without : log ≡ []
  pub line : text ≡ status_text status

-- whether the last line is always the same, so that it takes no memory
abbrev pub is_fixed : Status → Bool
is_fixed Done = true
is_fixed Usage = true
is_fixed ReadFault = true
is_fixed WriteFault = true
is_fixed NotJson = true
is_fixed TooLong = true
is_fixed (BundleRefused code place) = false
is_fixed (DagRefused clause index) = false
is_fixed (TransformFault name kind rec) = false
is_fixed NoMemory = true

-- the line of a check that accepts a DAG of n vertices and m edges
abbrev pub accepted_line : ℕ → ℕ → List ℕ
accepted_line n m = codes "accepted " ++ decimal n ++ codes " " ++ decimal m
