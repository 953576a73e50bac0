use Rattle.std.proofs.Common.{◌∙◌, ap, sym, length, arith}
use Rattle.nemo_transform.specs.Gives.{is_filled}
use Rattle.nemo_transform.proofs.JoinSteps.{exceeds, faults_kept, filled, fits, rows_kept, rows_passed, width}
use Rattle.nemo_transform.proofs.joining.push_pairs.Goals.{then-fields-le-MAX_FIELDS+in_ok-push_pair, else-fields-le-MAX_FIELDS}
use Rattle.nemo_transform.proofs.joining.push_pairs.Goals as goal

pub loop-other-preserved : goal.loop-other-preserved
loop-other-preserved c =
    let l = c.args.left.now in
    let rs = c.args.right.now in
    let i = c.loop-other.other-index in
    let r = c.other-item.result in
    let w = width l r.now c.fields-in-loop-other.ensures.some in
    let own = ap length c.fields.ensures.fields in
    let other = ap length c.fields-in-loop-other.ensures.fields in
    elim c.if-fields-le-MAX_FIELDS.branch [
      | then-fields-le-MAX_FIELDS+in_ok-push_pair b ↦
          let p = fits l r.now (omega (arith, b.if-fields-le-MAX_FIELDS.true)) in
          record {
            rows = rows_kept l rs i r c.loop-other-test.true c.other-item.is c.loop-other.rows _ _ _ p (b.rows-is ∙ b.in_ok-push_pair.ensures) c.loop-other.invariant.rows;
            wide = b.wide-is ∙ c.loop-other.invariant.wide ∙ ap is_filled (sym (faults_kept l rs i r c.loop-other-test.true c.other-item.is _ p));
          }
      | else-fields-le-MAX_FIELDS b ↦
          let p = exceeds l r.now (omega (arith, b.if-fields-le-MAX_FIELDS.false)) in
          record {
            rows = rows_passed l rs i r c.loop-other-test.true c.other-item.is c.loop-other.rows _ _ p b.rows-is c.loop-other.invariant.rows;
            wide = b.wide-is ∙ filled l rs i r c.loop-other-test.true c.other-item.is p;
          }
    ]
