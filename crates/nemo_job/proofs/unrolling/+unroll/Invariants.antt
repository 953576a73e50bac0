use Rattle.std.proofs.Common.{◌≡◌, List, take, map}
use Rattle.nemo_job.specs.Mean as mean
use Rattle.nemo_job.specs.NamesBound.{HasNames, IsGrown, IsScope, copies_of, fed}
use Rattle.nemo_job.specs.Unrolled as spec
use Rattle.nemo_job.specs.Unrolled.{Bound}
use Rattle.nemo_job.proofs.unrolling.+unroll.Given as goal

-- the vertices so far
abbrev pub invariant-unroll_all-loop-v : goal.invariant-unroll_all-loop-v
invariant-unroll_all-loop-v l = record {
  scope : (bs : List Bound) → HasNames bs l.fn.names → IsScope (spec.unroll_all (take l.v-index l.vertices) l.path (record { copies = copies_of l.fn.copies; names = bs })) l.copies l.names;
  grown : IsGrown l.fn.copies l.copies;
}

-- the turns so far
abbrev pub invariant-unroll_turns-loop-turn : goal.invariant-unroll_turns-loop-turn
invariant-unroll_turns-loop-turn l = record {
  given : fed l.copies l.ports ≡ mean.turns_from 0 l.turn (λ i. spec.turn l.fn.copies.next l.carry.names.now (map spec.unroll_vertex l.body) l.carry.next.now (mean.turn_path l.path i)) (fed l.fn.copies l.fn.ports);
  grown : IsGrown l.fn.copies l.copies;
}
