-- Copies, where memory is left.
use Rattle.std.specs.Prelude.{◌≡◌, Result, IfOk}
use Rattle.nemo_value.specs.declared.memory.NoMemory.{NoMemory}

-- what is answered is the value, or memory ran out
abbrev pub IsCopy : {T : Type 0} → Result T NoMemory → T → Type 0
IsCopy result x = IfOk result (λ copy. copy ≡ x)
