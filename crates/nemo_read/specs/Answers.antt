-- What a reader answers, beside want of memory.
use Rattle.std.specs.Prelude.{◌≡◌, Option, Some, None, Result, Ok, Err}
use Rattle.nemo_read.specs.declared.end.PartEnd.{PartEnd}
use Rattle.nemo_read.specs.declared.end.PartEnd.TheVariants.{Malformed, NoMemory}

-- the answer is what the value stands for, where it stands for something, or memory ran out
abbrev pub Reads : {X : Type 0} → Result X PartEnd → Option X → Type 0
Reads (Ok x) o = o ≡ Some x
Reads (Err Malformed) o = o ≡ None
Reads (Err NoMemory) o = Unit {0}

-- the same of an answer that is seen as another thing
abbrev pub ReadsAs : {X Y : Type 0} → (X → Y) → Result X PartEnd → Option Y → Type 0
ReadsAs f (Ok x) o = o ≡ Some (f x)
ReadsAs f (Err Malformed) o = o ≡ None
ReadsAs f (Err NoMemory) o = Unit {0}
