use Rattle.std.proofs.Common.{◌≡◌, drop}
use Rattle.nemo_place.specs.Runs.{rises_from}
use Rattle.nemo_place.proofs.runs.are_in_order.Given as goal

abbrev pub invariant-loop-e : goal.invariant-loop-e
invariant-loop-e l = rises_from l.last (drop l.e-index l.edges) ≡ rises_from 0 l.edges
