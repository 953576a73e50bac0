use Rattle.std.proofs.Common.{arith, subst, ◌≡◌, ◌-◌, ◌<◌, length}
use Rattle.std.proofs.lemmas.Grind.{common_steps}
use Rattle.nemo_base.proofs.EvenCuts.{even_are_cuts, even_more, zeros_more}
use Rattle.nemo_base.specs.Cuts.{AreCuts}
use Rattle.nemo_base.proofs.cuts.Cuts.even.Goals as goal

pub loop-i-preserved : goal.loop-i-preserved
loop-i-preserved c =
    let room : c.loop-i.i < length c.loop-i.places = omega (arith, c.loop-i-test.true, c.requires.some, c.requires.few, c.loop-i.invariant.room) in
    record {
      so_far = even_more c.args.n c.loop-i.i c.div_ceil.result c.loop-i.places room c.loop-i.invariant.so_far c.div_ceil.ensures;
      zeros = zeros_more c.loop-i.places c.loop-i.i c.div_ceil.result c.loop-i.invariant.zeros;
      room = grind (arith, common_steps);
    }

pub invariant_of-result : goal.invariant_of-result
invariant_of-result c =
    let n = c.args.n in
    let i = c.loop-i.i in
    let end : i ≡ n - 1 = omega (arith, c.loop-i-test.false, c.loop-i.auto.i-end) in
    subst (AreCuts c.loop-i.places) end
    (even_are_cuts n i c.loop-i.places (omega (arith, c.requires.some)) (omega (arith, end, c.requires.few)) (omega (arith, end, c.requires.some)) c.loop-i.invariant.room c.loop-i.invariant.so_far c.loop-i.invariant.zeros)
