use Rattle.std.proofs.Common.{◌≡◌, take}
use Rattle.nemo_report.specs.Texts.{sinks_lines, text_of}
use Rattle.nemo_report.proofs.sinks.sink_text.Given as goal

abbrev pub invariant-loop-sink : goal.invariant-loop-sink
invariant-loop-sink l = l.out.items ≡ text_of (sinks_lines (take l.sink-index l.sink-items))
