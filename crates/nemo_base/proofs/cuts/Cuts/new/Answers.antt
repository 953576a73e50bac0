use Rattle.std.proofs.Common.{arith, ◌≡◌, ◌∙◌, ap, subst, refl, get_or, nat_le, nat_lt, take, drop, ◌<◌, length}
use Rattle.std.proofs.Math.Seq.{take-length, drop-length}
use Rattle.std.proofs.lemmas.List.{length-set}
use Rattle.nemo_base.specs.Cuts.{AreCuts, bad_cut}
use Rattle.nemo_base.proofs.NewCuts.{are_cuts, bad_here, falls, good_more, one_too_many, same_more, too_great}
use Rattle.nemo_base.proofs.EvenCuts.{zeros_more}
use Rattle.nemo_base.proofs.cuts.Cuts.new.Goals as goal
use Rattle.nemo_base.proofs.cuts.Cuts.new.Goals.{then-place-ge-MAX_CUTS-via-then-place-ge-MAX_CUTS, then-place-ge-MAX_CUTS-via-else-place-ge-MAX_CUTS+then-cut-gt-MAX_CUT, then-place-ge-MAX_CUTS-via-else-place-ge-MAX_CUTS+else-cut-gt-MAX_CUT+then-cut-before}

pub loop-place-init : goal.loop-place-init
loop-place-init c = record { so_far = refl; zeros = refl; room = refl; few = omega arith; good = refl }

pub returns-then-place-ge-MAX_CUTS-clause-err : goal.returns-then-place-ge-MAX_CUTS-clause-err
returns-then-place-ge-MAX_CUTS-clause-err c =
    let i = c.loop-place.place in
    let list = c.args.list.now in
    let cut = get_or list i 0 in
    let before = c.loop-place.before in
    c.loop-place.invariant.good ∙ bad_here i before list c.loop-place-test.true
    (elim c.then-place-ge-MAX_CUTS.branch [
      | then-place-ge-MAX_CUTS-via-then-place-ge-MAX_CUTS w ↦ one_too_many i (nat_le cut 256) (nat_le before cut) w.if-place-ge-MAX_CUTS.true
      | then-place-ge-MAX_CUTS-via-else-place-ge-MAX_CUTS+then-cut-gt-MAX_CUT w ↦ too_great (nat_lt i 63) cut (nat_le before cut) w.if-cut-gt-MAX_CUT.true
      | then-place-ge-MAX_CUTS-via-else-place-ge-MAX_CUTS+else-cut-gt-MAX_CUT+then-cut-before w ↦ falls (nat_lt i 63) (nat_le cut 256) before cut w.if-cut-before.true
    ])

pub loop-place-preserved : goal.loop-place-preserved
loop-place-preserved c =
    let i = c.loop-place.place in
    let list = c.args.list.now in
    let places = c.loop-place.places in
    let room : i < length places = omega (arith, c.if-place-ge-MAX_CUTS.false, c.loop-place.invariant.room) in
    record {
      so_far = same_more i places list c.loop-place-test.true room c.loop-place.invariant.so_far;
      zeros = zeros_more places i (get_or list i 0) c.loop-place.invariant.zeros;
      room = length-set places i (get_or list i 0) ∙ c.loop-place.invariant.room;
      few = omega (arith, c.if-place-ge-MAX_CUTS.false);
      good = c.loop-place.invariant.good ∙ good_more i c.loop-place.before list c.loop-place-test.true c.if-place-ge-MAX_CUTS.false c.if-cut-gt-MAX_CUT.false c.if-cut-before.false;
    }

pub invariant_of-result : goal.invariant_of-result
invariant_of-result c =
    let i = c.loop-place.place in
    let list = c.args.list.now in
    let end : i ≡ length list = omega (arith, c.loop-place-test.false, c.loop-place.auto.place-end) in
    let whole = c.loop-place.invariant.so_far ∙ ap (λ n. take n list) end ∙ take-length list in
    let good = ap (bad_cut 0 0) whole ∙ c.loop-place.invariant.good ∙ ap (λ n. bad_cut i c.loop-place.before (drop n list)) end ∙ ap (bad_cut i c.loop-place.before) (drop-length list) in
    subst (AreCuts c.loop-place.places) end (are_cuts i c.loop-place.places c.loop-place.invariant.few c.loop-place.invariant.room c.loop-place.invariant.zeros good)

pub returns-clause-ok : goal.returns-clause-ok
returns-clause-ok c =
    let i = c.loop-place.place in
    let list = c.args.list.now in
    let end : i ≡ length list = omega (arith, c.loop-place-test.false, c.loop-place.auto.place-end) in
    subst (λ n. take n c.loop-place.places ≡ take n list) end c.loop-place.invariant.so_far ∙ take-length list

pub returns-clause-fits : goal.returns-clause-fits
returns-clause-fits c =
    let i = c.loop-place.place in
    let list = c.args.list.now in
    let end : i ≡ length list = omega (arith, c.loop-place-test.false, c.loop-place.auto.place-end) in
    c.loop-place.invariant.good ∙ ap (λ n. bad_cut i c.loop-place.before (drop n list)) end ∙ ap (bad_cut i c.loop-place.before) (drop-length list)
