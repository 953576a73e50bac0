use Rattle.std.proofs.Common.{◌≡◌, ◌+◌, drop, nat_le}
use Rattle.std.specs.List.{prefix_len}
use Rattle.nemo_place.proofs.runs.run.Given as goal

abbrev pub invariant-loop-i : goal.invariant-loop-i
invariant-loop-i l = l.i + prefix_len (λ e. nat_le e.to l.v) (drop l.i l.edges) ≡ prefix_len (λ e. nat_le e.to l.v) l.edges
