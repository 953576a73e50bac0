use Rattle.std.proofs.Common.{◌-◌, ◌≤◌, length, map}
use Rattle.nemo_job.specs.ByPlace.{values}
use Rattle.nemo_job.specs.Held.{IsHeld, known, node_of}
use Rattle.nemo_job.proofs.evaluate.held_until.Given as goal

-- what the vertices so far gave is held
abbrev pub invariant-loop-alloc : goal.invariant-loop-alloc
invariant-loop-alloc l = record {
  within : length l.held.items ≤ length l.nodes;
  held : IsHeld (values (map node_of l.nodes)) l.last (length l.held.items) (map known l.held.items);
}

abbrev pub decreases-loop-alloc : goal.decreases-loop-alloc
decreases-loop-alloc l = length l.nodes - length l.held.items
