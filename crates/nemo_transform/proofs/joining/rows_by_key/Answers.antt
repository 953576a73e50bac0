use Rattle.std.proofs.Common.{refl, arith}
use Rattle.std.specs.HashMap.{get_by}
use Rattle.std.specs.Ordering.{is_eq}
use Rattle.nemo_value.specs.Order.{field_cmp}
use Rattle.nemo_transform.proofs.FirstFields.{keyless_more}
use Rattle.nemo_transform.proofs.RowsByKey.{grown, opened}
use Rattle.nemo_transform.proofs.joining.rows_by_key.Goals as goal

pub loop-row-preserved : goal.loop-row-preserved
loop-row-preserved c = record {
  rows = λ q.
      let step =
      grown q c.key.result.now c.row-item.result c.args.rows.now c.loop-row.row-index (λ p. get_by (λ k. is_eq (field_cmp p k.now)) c.loop-row.by_key) _ c.or_default.result.now c.push.new.self _
      c.loop-row-test.true c.row-item.is c.key.ensures ((c.in_ok-by_key.ensures.update.0 c.push.new.self).0 (record c.key.result { now = q })) c.in_ok-push.ensures.items refl
      (opened _ _ _ c.in_ok-by_key.ensures.value c.or_default.ensures.value) c.loop-row.invariant.rows
      in grind (arith, step);
  keyed = keyless_more c.args.rows.now c.loop-row.row-index c.row-item.result c.key.result.now c.loop-row-test.true c.row-item.is c.key.ensures c.loop-row.invariant.keyed;
}
