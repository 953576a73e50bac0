use Rattle.std.proofs.Common.{◌≡◌, drop, length, take, Ok}
use Rattle.nemo_transform.specs.Gives.{emitted, then_rows}
use Rattle.nemo_transform.proofs.rowwise.push_outputs.Given as goal

-- the rows so far, in front of those of the other outputs
abbrev pub invariant-loop-output : goal.invariant-loop-output
invariant-loop-output l = record {
  rows : then_rows (Ok l.given) (emitted (drop l.output-index l.outs) l.row) ≡ then_rows (Ok l.initial.given) (emitted l.outs l.row);
  front : take (length l.initial.given) l.given ≡ l.initial.given;
}
