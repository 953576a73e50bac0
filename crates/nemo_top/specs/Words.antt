-- The words of the command line.
use Rattle.std.specs.Prelude.{ℕ, List, [], ◌∷◌, Option, Some, None, codes, if◌then◌else◌}
use Rattle.nemo_value.specs.Texts.{same_text}
use Rattle.nemo_top.specs.declared.word.Command.{Command}
use Rattle.nemo_top.specs.declared.word.Command.TheVariants.{Eval, Check, Solo}

-- the command of a word
abbrev pub named : List ℕ → Option Command
named word =
    if same_text word (codes "eval") then Some Eval
    else (if same_text word (codes "check") then Some Check
    else (if same_text word (codes "solo") then Some Solo
    else None))

-- a command is one word
abbrev pub command_of : List (List ℕ) → Option Command
command_of (word ∷ []) = named word
command_of _ = None
