-- A call as it is seen from outside, and what it took of its source.
use Rattle.std.specs.Prelude.{◌≡◌, ◌<◌, ◌≤◌, ℕ, List, length, Option, Some}
use Rattle.std.specs.Io.KnownBytes.{Consumes, IsAtEnd}
use Rattle.nemo_io.specs.Faults.{Rose}
use Rattle.nemo_top.specs.Words.{command_of}
use Rattle.nemo_top.specs.declared.word.Command.{Command}

-- its words, and the source before and after it: the content that is left, where that is told, and the count of failed
-- reads
pub record Call : Type 0 where
  pub words : List (List ℕ)
  pub before : Option (List ℕ)
  pub after : Option (List ℕ)
  pub faults_before : ℕ
  pub faults_after : ℕ

abbrev pub call_of : List (List ℕ) → Option (List ℕ) → Option (List ℕ) → ℕ → ℕ → Call
call_of words before after faults now = record { words = words; before = before; after = after; faults_before = faults; faults_after = now }

-- the words are a command
abbrev pub Asked : Call → Type 0
Asked call = (command : Command) × (command_of call.words ≡ Some command)

-- no read failed
abbrev pub ReadsWell : Call → Type 0
ReadsWell call = call.faults_after ≡ call.faults_before

-- nothing was taken
pub record Untouched (call : Call) : Type 0 where
  pub same : call.after ≡ call.before
  pub well : ReadsWell call

---- These bytes were taken, in order: where the content is told, it was these and then what is left. Where it isn't told,
---- these are what the call read, and all that it answers fits them.

-- the content to its end, at most 33,554,432 bytes
pub record ReadWhole (call : Call) (bytes : List ℕ) : Type 0 where
  pub taken : Consumes call.before call.after bytes
  pub ended : IsAtEnd call.after
  pub few : length bytes ≤ 33554432
  pub well : ReadsWell call

-- a part of it, and then a read failed
pub record FailedAfter (call : Call) (bytes : List ℕ) : Type 0 where
  pub taken : Consumes call.before call.after bytes
  pub few : length bytes ≤ 33554432
  pub rose : Rose call.faults_before call.faults_after

-- a part of it, which is too long
pub record TookMany (call : Call) (bytes : List ℕ) : Type 0 where
  pub taken : Consumes call.before call.after bytes
  pub many : 33554432 < length bytes
  pub well : ReadsWell call

-- a part of it or all, and then no memory was left
pub record GaveUp (call : Call) (bytes : List ℕ) : Type 0 where
  pub taken : Consumes call.before call.after bytes
  pub few : length bytes ≤ 33554432
  pub well : ReadsWell call
