-- From what bytes lead to to what a call answers.
use Rattle.std.proofs.Common.{◌≡◌, refl, sym, subst, inl, inr, ℕ, ◌<◌, ◌≤◌, List, [], length, false, Result, Ok, Err, Option, Some, arith, ◌∙◌, ◌≢◌, OnOk, OnErr}
use Rattle.std.proofs.Math.Nat.{lt_of_not-le}
use Rattle.std.proofs.lemmas.Bool.{true≢false}
use Rattle.std.specs.Io.KnownBytes.{Appends, Consumes}
use Rattle.nemo_core.specs.declared.event.Event.{Event}
use Rattle.nemo_io.specs.Faults.{HasCause, Rose}
use Rattle.nemo_io.specs.Told.{AppendsPart}
use Rattle.nemo_io.specs.declared.source.ReadRefused.{ReadRefused}
use Rattle.nemo_io.specs.declared.source.ReadRefused.TheVariants as read
use Rattle.nemo_top.specs.Answers.{Answers, Leads, Reads}
use Rattle.nemo_top.specs.Calls.{Asked, Call, ReadWhole}
use Rattle.nemo_top.specs.Reached.{Reaches, StandsFor, of_read}
use Rattle.nemo_top.specs.Statuses.{Alone, is_fixed, status_text}
use Rattle.nemo_top.specs.Words.{command_of}
use Rattle.nemo_top.specs.declared.reached.Reached.{Reached}
use Rattle.nemo_top.specs.declared.status.Status.{Status}
use Rattle.nemo_top.specs.declared.status.Status.TheVariants.{Done, Usage, ReadFault, WriteFault, NotJson, TooLong, BundleRefused, DagRefused, TransformFault, NoMemory}
use Rattle.nemo_top.specs.declared.word.Command.{Command}
use Rattle.nemo_top.proofs.Leading.{is_alone}

---- content that was read whole

lead_answers : (call : Call) (command : Command) (bytes : List ℕ) (status : Status) (log : List Event) (text : List ℕ) → command_of call.words ≡ Some command → ReadWhole call bytes → Leads command bytes status log text
    → Answers call status log text
lead_answers call command bytes Done log text asked whole h = (command, bytes, asked, whole, h)
lead_answers call command bytes NotJson log text asked whole h = (command, bytes, asked, whole, h)
lead_answers call command bytes (BundleRefused code place) log text asked whole h = (command, bytes, asked, whole, h)
lead_answers call command bytes (DagRefused clause index) log text asked whole h = (command, bytes, asked, whole, h)
lead_answers call command bytes (TransformFault name kind rec) log text asked whole h = (command, bytes, asked, whole, h)
lead_answers call command bytes NoMemory log text asked whole h = ((command, asked), bytes, record { taken = whole.taken; few = whole.few; well = whole.well }, h)
lead_answers call command bytes Usage log text asked whole h = absurd h
lead_answers call command bytes ReadFault log text asked whole h = absurd h
lead_answers call command bytes WriteFault log text asked whole h = absurd h
lead_answers call command bytes TooLong log text asked whole h = absurd h

-- what it leads to is an answer
pub leads_answer : (call : Call) (command : Command) (bytes : List ℕ) (result : Result Reached Status) → command_of call.words ≡ Some command → ReadWhole call bytes → Reaches result (Leads command bytes)
    → Reaches result (Answers call)
leads_answer call command bytes (Ok reached) asked whole h = lead_answers call command bytes reached.status reached.log _ asked whole h
leads_answer call command bytes (Err status) asked whole h = lead_answers call command bytes status [] (status_text status) asked whole h

---- content that wasn't

at_most : (bytes : List ℕ) → (33554432 < length bytes → ⊥) → length bytes ≤ 33554432
at_most bytes h =
    let below : length bytes < 33554433 = lt_of_not-le (λ le. h (omega (arith, le))) in
    omega (arith, below)

pub refused_answers : (call : Call) (end : ReadRefused) (bytes : List ℕ) → Asked call → Consumes call.before call.after bytes → (end ≡ read.TooLong → 33554432 < length bytes) → (33554432 < length bytes → end ≡ read.TooLong)
    → (end ≡ read.Failed → Rose call.faults_before call.faults_after) → ((end ≡ read.Failed → ⊥) → call.faults_after ≡ call.faults_before)
    → Answers call (of_read end) [] (status_text (of_read end))
refused_answers call read.Failed bytes asked taken long short failed kept = (asked, bytes, record { taken = taken; few = at_most bytes (λ many. cc (short many)); rose = failed refl }, is_alone ReadFault)
refused_answers call read.TooLong bytes asked taken long short failed kept = (asked, bytes, record { taken = taken; many = long refl; well = kept (λ e. cc e) }, is_alone TooLong)
refused_answers call read.NoMemory bytes asked taken long short failed kept = (asked, bytes, record { taken = taken; few = at_most bytes (λ many. cc (short many)); well = kept (λ e. cc e) }, is_alone NoMemory)

---- a status that stands alone

-- memory may run out for a line that takes some
read_spends : (call : Call) (status : Status) → Reads call status [] (status_text status) → Answers call NoMemory [] (status_text NoMemory)
read_spends call status h = ((h.0, h.2), h.1, record { taken = h.3.taken; few = h.3.few; well = h.3.well }, is_alone NoMemory)

spends : (call : Call) (status : Status) → is_fixed status ≡ false → Answers call status [] (status_text status) → Answers call NoMemory [] (status_text NoMemory)
spends call Done fixed h = absurd (true≢false fixed)
spends call Usage fixed h = absurd (true≢false fixed)
spends call ReadFault fixed h = absurd (true≢false fixed)
spends call WriteFault fixed h = absurd h
spends call NotJson fixed h = absurd (true≢false fixed)
spends call TooLong fixed h = absurd (true≢false fixed)
spends call (BundleRefused code place) fixed h = read_spends call (BundleRefused code place) h
spends call (DagRefused clause index) fixed h = read_spends call (DagRefused clause index) h
spends call (TransformFault name kind rec) fixed h = read_spends call (TransformFault name kind rec) h
spends call NoMemory fixed h = h

stands_alone : (call : Call) (status new : Status) → Answers call status [] (status_text status) → StandsFor new status → Answers call new [] (status_text new)
stands_alone call status new h (inl same) = subst (λ s. Answers call s [] (status_text s)) (sym same) h
stands_alone call status new h (inr spent) = subst (λ s. Answers call s [] (status_text s)) (sym spent.1) (spends call status spent.0 h)

pub stands_answers : (call : Call) (status new : Status) (log : List Event) (text : List ℕ) → Answers call status [] (status_text status) → StandsFor new status → Alone new log text → Answers call new log text
stands_answers call status new log text h stands alone =
    subst (λ es. Answers call new es text) (sym alone.without) (subst (Answers call new []) (sym alone.line) (stands_alone call status new h stands))

---- what is written

-- before that there is no WriteFault
no_write_fault : (call : Call) (status : Status) (log : List Event) (text : List ℕ) → Answers call status log text → status ≡ WriteFault → ⊥
no_write_fault call status log text h fault = subst (λ s. Answers call s log text) fault h

-- a part of the text, with the status that was reached
pub part_written : {T E : Type 0} (call : Call) (reached status : Status) (log : List Event) (text : List ℕ) (before after : Option (List ℕ)) (r : Result T E) → Answers call reached log text → OnOk r (status ≡ reached)
    → OnErr r (AppendsPart before after text) → status ≡ WriteFault → (reached : Status) × (text : List ℕ) × Answers call reached log text × AppendsPart before after text
part_written call reached status log text before after (Ok t) h kept part fault = absurd (no_write_fault call reached log text h (sym kept ∙ fault))
part_written call reached status log text before after (Err e) h kept part fault = (reached, text, h, part)

-- the whole of it, with that status
pub all_written : {T E : Type 0} (call : Call) (reached status : Status) (log : List Event) (text : List ℕ) (before after : Option (List ℕ)) (r : Result T E) → Answers call reached log text → OnOk r (status ≡ reached)
    → OnErr r (status ≡ WriteFault) → OnOk r (Appends before after text) → status ≢ WriteFault → (text : List ℕ) × Answers call status log text × Appends before after text
all_written call reached status log text before after (Ok t) h kept fault all other = (text, subst (λ s. Answers call s log text) (sym kept) h, all)
all_written call reached status log text before after (Err e) h kept fault all other = absurd (other fault)

-- the count of the sink's faults
pub count_kept : {T E : Type 0} (status : Status) (before after : ℕ) (r : Result T E) → OnErr r (status ≡ WriteFault) → HasCause before after r → status ≢ WriteFault → after ≡ before
count_kept status before after (Ok t) fault cause other = cause
count_kept status before after (Err e) fault cause other = absurd (other fault)

pub count_rose : {T E : Type 0} (call : Call) (reached status : Status) (log : List Event) (text : List ℕ) (before after : ℕ) (r : Result T E) → Answers call reached log text → OnOk r (status ≡ reached) → HasCause before after r → status ≡ WriteFault
    → Rose before after
count_rose call reached status log text before after (Ok t) h kept cause fault = absurd (no_write_fault call reached log text h (sym kept ∙ fault))
count_rose call reached status log text before after (Err e) h kept cause fault = cause
