-- The lines of sinks and of a fault. A line has no newline; one follows it in a text.
use Rattle.std.specs.Prelude.{ℕ, List, [], ◌∷◌, ◌++◌, length, map, decimal, codes}
use Rattle.std.specs.List.{flat_map}
use Rattle.serde_json.specs.Data.{Data, number, string, array}
use Rattle.serde_json.specs.Find.{of_integer}
use Rattle.serde_json.specs.View.{items_of}
use Rattle.serde_json.specs.Written.{compact_text}
use Rattle.nemo_value.specs.declared.expr.Kind.{Kind}
use Rattle.nemo_value.specs.Words.{kind_word}
use Rattle.nemo_value.specs.declared.field.Field.{Field}
use Rattle.nemo_value.specs.declared.field.Field.TheVariants.{Int, Text}
use Rattle.nemo_value.specs.declared.record.SinkRows.{SinkRows}

-- a line with the newline that follows it
abbrev pub ended : List ℕ → List ℕ
ended line = line ++ 10 ∷ []

-- the text of lines: each, followed by one newline
abbrev pub text_of : List (List ℕ) → List ℕ
text_of = flat_map ended

---- rows

-- a field as JSON
abbrev pub data_of : Field → Data
data_of (Int z) = number (of_integer z)
data_of (Text s) = string s

-- a row as JSON: the array of its fields
abbrev pub row_data : List Field → Data
row_data fields = array (items_of (map data_of fields))

-- the line of a row
abbrev pub row_line : List Field → List ℕ
row_line fields = compact_text (row_data fields)

---- sinks

-- the first line of a sink: its name and the number of its rows
abbrev pub head_line : SinkRows → List ℕ
head_line sink = codes "sink " ++ sink.name ++ codes " " ++ decimal (length sink.rows)

-- the first line of a sink and the lines of its rows
abbrev pub sink_lines : SinkRows → List (List ℕ)
sink_lines sink = head_line sink ∷ map row_line sink.rows

-- the lines of sinks, one after the other
abbrev pub sinks_lines : List SinkRows → List (List ℕ)
sinks_lines = flat_map sink_lines

---- faults

-- the words of a fault: its kind, and the record that made it
abbrev pub fault_words : Kind → List Field → List ℕ
fault_words kind rec = kind_word kind ++ codes " " ++ row_line rec

-- the line of a fault: the vertex where it arose and its words
abbrev pub fault_line : List ℕ → Kind → List Field → List ℕ
fault_line name kind rec = codes "fault " ++ name ++ codes " " ++ fault_words kind rec
