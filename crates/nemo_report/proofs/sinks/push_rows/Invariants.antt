use Rattle.std.proofs.Common.{◌≡◌, ◌++◌, map, take}
use Rattle.nemo_report.specs.Texts.{row_line, text_of}
use Rattle.nemo_report.proofs.sinks.push_rows.Given as goal

abbrev pub invariant-loop-row : goal.invariant-loop-row
invariant-loop-row l = l.out.items ≡ l.fn.out.items ++ text_of (map row_line (take l.row-index l.row-items))
