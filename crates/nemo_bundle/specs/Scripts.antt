-- The script and the schedule of a bundle.
use Rattle.std.specs.Prelude.{ℕ, ◌+◌, ◌&&◌, nat_le, nat_lt, Bool, if◌then◌else◌, List, [], Option, Some, None, option_map, option_and_then, is_none, Result, Ok, Err, codes}
use Rattle.serde_json.specs.Data.{Data, Items, no_items, item}
use Rattle.serde_json.specs.Find.{as_array, as_str}
use Rattle.nemo_base.specs.Cuts.{bad_cut}
use Rattle.nemo_base.specs.declared.id.BlockId.{BlockId}
use Rattle.nemo_base.specs.declared.id.TaskId.{TaskId}
use Rattle.nemo_base.specs.declared.moves.Move.{Move}
use Rattle.nemo_base.specs.declared.moves.Move.TheVariants as move
use Rattle.nemo_base.specs.declared.script.Action.{Action}
use Rattle.nemo_base.specs.declared.script.Action.TheVariants.{Evict, Repartition}
use Rattle.nemo_base.specs.declared.script.ScriptLine.{ScriptLine}
use Rattle.nemo_value.specs.Texts.{same_text}
use Rattle.nemo_read.specs.Calls.{Worded, call_of}
use Rattle.nemo_read.specs.Parts.{array_of, is_word, number_of, ranged, tested}
use Rattle.nemo_bundle.specs.Entries.{items_at, put_first}
use Rattle.nemo_bundle.specs.declared.choices.Cluster.{Cluster}

-- numbers that are cuts
abbrev pub are_cuts : List ℕ → Bool
are_cuts cuts = is_none (bad_cut 0 0 cuts)

abbrev pub cuts_of : Data → Option (List ℕ)
cuts_of d = tested are_cuts (array_of number_of d)

---- the script

-- a slot of the cluster that is transient: they follow the reserved ones
abbrev pub is_transient : Cluster → ℕ → Bool
is_transient c slot = nat_le c.reserved slot && nat_lt slot (c.reserved + c.transient)

abbrev pub evict_of : Cluster → Data → Option Action
evict_of c d = option_map Evict (tested (is_transient c) (number_of d))

abbrev pub repartition_with : Option ℕ → Option (List ℕ) → Option Action
repartition_with (Some vertex) (Some cuts) = Some (Repartition vertex cuts)
repartition_with (Some vertex) None = None
repartition_with None cuts = None

abbrev pub line_with : Option ℕ → Option Action → Option ScriptLine
line_with (Some at) (Some action) = Some (record { at = at; action = action })
line_with (Some at) None = None
line_with None action = None

-- `[at,"evict",slot]` or `[at,"repartition",vertex,cuts]`
abbrev pub line_from : Cluster → Items → Option ScriptLine
line_from c (item at (item word (item slot no_items))) =
    if is_word (codes "evict") (as_str word) then line_with (ranged 0 1000000 at) (evict_of c slot) else None
line_from c (item at (item word (item vertex (item cuts no_items)))) =
    if is_word (codes "repartition") (as_str word) then line_with (ranged 0 1000000 at) (repartition_with (number_of vertex) (cuts_of cuts)) else None
line_from c _ = None

-- line i, which is one of the first 4,096 and whose `at` isn't below that of the line before it
abbrev pub line_of : Cluster → ℕ → ℕ → Data → Option ScriptLine
line_of c i before d = tested (λ l. nat_lt i 4096 && nat_le before l.at) (option_and_then (line_from c) (as_array d))

-- the `at` of a line that is there
abbrev pub at_of : ℕ → Option ScriptLine → ℕ
at_of before (Some l) = l.at
at_of before None = before

-- the lines from line i on, or the first that can't be read
abbrev pub lines_from : Cluster → ℕ → ℕ → Items → Result (List ScriptLine) ℕ
lines_from c i before no_items = Ok []
lines_from c i before (item d ds) = put_first i (line_of c i before d) (lines_from c (i + 1) (at_of before (line_of c i before d)) ds)

abbrev pub lines_in : Cluster → Option Items → Result (List ScriptLine) ℕ
lines_in c (Some ds) = lines_from c 0 0 ds
lines_in c None = Err 0

-- the member `script`, which may be absent
abbrev pub script_in : Cluster → Option Data → Result (List ScriptLine) ℕ
script_in c (Some d) = lines_in c (as_array d)
script_in c None = Ok []

---- the schedule

abbrev pub task_at : ℕ → ℕ → TaskId
task_at stage index = record { stage = stage; index = index }

abbrev pub block_at : ℕ → ℕ → BlockId
block_at vertex task = record { vertex = vertex; task = task }

-- a word alone
abbrev pub move_alone : List ℕ → Option Move
move_alone word = if same_text word (codes "finish") then Some move.Finish else None

-- a word and one number
abbrev pub move_by_one : List ℕ → ℕ → Option Move
move_by_one word n =
    if same_text word (codes "compute") then Some (move.Compute n)
    else (if same_text word (codes "commit") then Some (move.Report n)
    else (if same_text word (codes "end") then Some (move.End n)
    else (if same_text word (codes "giveback") then Some (move.GiveBack n)
    else (if same_text word (codes "evict") then Some (move.Evict n)
    else (if same_text word (codes "decide") then Some (move.Decide n)
    else None)))))

-- a word and two numbers
abbrev pub move_by_two : List ℕ → ℕ → ℕ → Option Move
move_by_two word n m =
    if same_text word (codes "push") then Some (move.Push n m)
    else (if same_text word (codes "drop") then Some (move.Drop (block_at n m))
    else (if same_text word (codes "spent") then Some (move.Spent (task_at n m))
    else None))

-- a word and three numbers
abbrev pub move_by_three : List ℕ → ℕ → ℕ → ℕ → Option Move
move_by_three word n m k = if same_text word (codes "launch") then Some (move.Launch (task_at n m) k) else None

-- a vertex and its cuts
abbrev pub move_by_cuts : Data → Data → Option Move
move_by_cuts vertex cuts = option_and_then (λ v. option_map (move.Repartition v) (cuts_of cuts)) (number_of vertex)

abbrev pub numbers_of : Data → Data → Option (ℕ × ℕ)
numbers_of a b = option_and_then (λ n. option_map (λ m. (n, m)) (number_of b)) (number_of a)

abbrev pub move_with_two : List ℕ → Data → Data → Option Move
move_with_two word a b =
    if same_text word (codes "repartition") then move_by_cuts a b
    else option_and_then (λ p. move_by_two word p.0 p.1) (numbers_of a b)

abbrev pub move_with_three : List ℕ → Data → Data → Data → Option Move
move_with_three word a b c = option_and_then (λ p. option_and_then (move_by_three word p.0 p.1) (number_of c)) (numbers_of a b)

abbrev pub move_from : Items → List ℕ → Option Move
move_from no_items word = move_alone word
move_from (item a no_items) word = option_and_then (move_by_one word) (number_of a)
move_from (item a (item b no_items)) word = move_with_two word a b
move_from (item a (item b (item c no_items))) word = move_with_three word a b c
move_from _ word = None

abbrev pub move_by : Worded → Option Move
move_by call = move_from call.args call.word

-- move i, which is one of the first 65,536
abbrev pub move_of : ℕ → Data → Option Move
move_of i d = tested (λ _. nat_lt i 65536) (option_and_then move_by (call_of d))

-- the member `schedule`, which may be absent
abbrev pub schedule_in : Option Data → Result (List Move) ℕ
schedule_in (Some d) = items_at move_of (as_array d)
schedule_in None = Ok []
