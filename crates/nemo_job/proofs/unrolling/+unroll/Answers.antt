use Rattle.std.proofs.Common.{◌∙◌, ap, ℕ, List, map, arith}
use Rattle.nemo_job.specs.Mean.{turn_path}
use Rattle.nemo_job.specs.NamesBound.{copies_of, fed}
use Rattle.nemo_job.specs.Unrolled.{Fed, Ports, bound, turn, unroll_vertex}
use Rattle.nemo_job.proofs.ScopeSteps.{scope_more, turn_fed, turn_more}
use Rattle.nemo_job.proofs.unrolling.+unroll.Goals as goal

pub unroll_all-loop-v-preserved : goal.unroll_all-loop-v-preserved
unroll_all-loop-v-preserved t c = record {
  scope = λ bs has. scope_more c.args.vertices.now c.loop-v.v-index c.v-item.result c.args.path.now (record { copies = copies_of c.args.copies.now; names = bs }) c.loop-v.copies c.unroll_vertex.new.copies
      c.loop-v.names c.unroll_vertex.new.names c.loop-v-test.true c.v-item.is (c.loop-v.invariant.scope bs has) c.in_ok-unroll_vertex.ensures.scope;
  grown = omega (arith, c.loop-v.invariant.grown, c.in_ok-unroll_vertex.ensures.grown);
}

pub unroll_turn-returns-clause-given : goal.unroll_turn-returns-clause-given
unroll_turn-returns-clause-given t c =
    let ports : Ports = c.args.ports.now in
    let carry : List (List ℕ) = c.args.carry.now.names.now in
    turn_fed c.args.copies.now.next carry c.args.body.now c.args.carry.now.next.now c.args.path.now (fed c.args.copies.now ports) c.unroll_all.new.copies c.unroll_all.new.names c.sources.result
    (c.in_ok-unroll_all.ensures.scope (bound ports carry) c.in_ok-names.ensures) c.sources.ensures

pub unroll_turns-loop-turn-preserved : goal.unroll_turns-loop-turn-preserved
unroll_turns-loop-turn-preserved t c =
    let at : List ℕ → Fed → Fed = turn c.args.copies.now.next c.args.carry.now.names.now (map unroll_vertex c.args.body.now) c.args.carry.now.next.now in
    let one : ℕ → Fed → Fed = λ i. at (turn_path c.args.path.now i) in
    record {
      given = c.in_ok-ports.ensures.given ∙ ap (λ path. at path (fed c.loop-turn.copies c.as_slice.result.now)) (c.as_str.ensures.value ∙ c.in_ok-inside.ensures)
          ∙ ap (λ ports. one c.loop-turn.turn (fed c.loop-turn.copies ports)) c.as_slice.ensures ∙ ap (one c.loop-turn.turn) c.loop-turn.invariant.given ∙ turn_more c.loop-turn.turn one (fed c.args.copies.now c.args.ports);
      grown = omega (arith, c.loop-turn.invariant.grown, c.in_ok-ports.ensures.grown);
    }
