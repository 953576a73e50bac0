use Rattle.std.proofs.Common.{◌≡◌, ◌++◌, map, drop}
use Rattle.json.specs.Tree.{json_tokens, items_tokens}
use Rattle.serde_json.specs.View.{items_of}
use Rattle.serde_json.specs.Written.{outline, items_outline}
use Rattle.nemo_report.specs.Texts.{data_of, row_data}
use Rattle.nemo_report.proofs.lines.write_row.Given as goal

-- what is written and what is still to be written are the whole array
abbrev pub invariant-loop-field : goal.invariant-loop-field
invariant-loop-field l = record {
  before : l.writer.before ≡ l.fn.writer.before;
  tokens : l.writer.tokens ++ items_tokens (items_outline (items_of (map data_of (drop l.field-index l.field-items)))) ≡ l.fn.writer.tokens ++ json_tokens (outline (row_data l.fn.row));
}
