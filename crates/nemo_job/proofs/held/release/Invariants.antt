use Rattle.std.proofs.Common.{◌≡◌, length, map}
use Rattle.nemo_job.specs.Held.{IsReleased, known}
use Rattle.nemo_job.proofs.held.release.Given as goal

-- rows were let go only where the vertex is the last that takes them
abbrev pub invariant-loop-input : goal.invariant-loop-input
invariant-loop-input l = record {
  size : length l.held.items ≡ length l.fn.held.items;
  released : IsReleased l.last l.place (map known l.fn.held.items) (map known l.held.items);
}
