-- Arrays that begin with a word.
use Rattle.std.specs.Prelude.{ℕ, List, Option, None, option_and_then, option_map}
use Rattle.serde_json.specs.Data.{Data, Items, no_items, item}
use Rattle.serde_json.specs.Find.{as_array, as_str}
use Rattle.serde_json.specs.View.{items_view}
use Rattle.nemo_read.specs.declared.call.Call.{Call}

-- the word, and the items behind it
pub record Worded : Type 0 where
  pub word : List ℕ
  pub args : Items

abbrev pub worded : Items → List ℕ → Worded
worded args word = record { word = word; args = args }

abbrev pub call_from : Items → Option Worded
call_from (item word args) = option_map (worded args) (as_str word)
call_from no_items = None

abbrev pub call_of : Data → Option Worded
call_of d = option_and_then call_from (as_array d)

abbrev pub call_view : Call → Worded
call_view c = record { word = c.word.now; args = items_view c.args.now }
