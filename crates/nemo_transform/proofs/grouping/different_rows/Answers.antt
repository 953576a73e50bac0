use Rattle.std.proofs.Common.{◌≡◌, ◌∙◌, ◌++◌, ◌∷◌, [], ap, refl, true, cond, not}
use Rattle.std.proofs.lemmas.List.{take_all}
use Rattle.std.specs.Cmp.Lexicographic.{pointwise, lists_ties}
use Rattle.std.specs.HashSet.{contains_by}
use Rattle.std.specs.List.{list_any}
use Rattle.std.specs.Ordering.{eq_by_cmp}
use Rattle.nemo_value.proofs.RecordOrder.{record_strict}
use Rattle.nemo_value.specs.Ascending.{ascending}
use Rattle.nemo_value.specs.Order.{field_cmp, record_cmp}
use Rattle.nemo_transform.specs.Gives.{Row}
use Rattle.nemo_transform.proofs.ApartLists.{sorted_apart}
use Rattle.nemo_transform.proofs.Keeping.{none_yet, new_item, old_item}
use Rattle.std.specs.Prelude.{vec_items}
use Rattle.nemo_transform.proofs.grouping.different_rows.Goals as goal
use Rattle.nemo_transform.proofs.grouping.different_rows.Goals.{then-branch+in_ok-push, else-branch}

-- rows are equal where they tie
ties : (a b : Row) → pointwise (eq_by_cmp field_cmp) a b ≡ eq_by_cmp record_cmp a b
ties = lists_ties field_cmp (λ x y. refl)

pub loop-row-init : goal.loop-row-init
loop-row-init c = none_yet record_cmp _ _ c.new-different.ensures.items (λ q. ap (λ keys. list_any (λ r. pointwise (eq_by_cmp field_cmp) q r.now) keys) c.new-seen.ensures.empty)

pub loop-row-preserved : goal.loop-row-preserved
loop-row-preserved c =
    let rows = c.args.rows.now in
    let i = c.loop-row.row-index in
    let row = c.row-item.result in
    let has = λ (q : Row). contains_by (λ r. pointwise (eq_by_cmp field_cmp) q r.now) c.loop-row.seen in
    let now = λ (q : Row). contains_by (λ r. pointwise (eq_by_cmp field_cmp) q r.now) c.insert.new.self in
    let updates : (q : Row) → now q ≡ cond (eq_by_cmp record_cmp row q) true (has q) = λ q.
    c.in_ok-insert.ensures.updates.0 (record c.fields.result { now = q }) ∙ ap (λ b. cond b true (has q)) (ties c.fields.result.now q ∙ ap (λ r. eq_by_cmp record_cmp r q) c.fields.ensures.fields) in
    elim c.if-branch.branch [
      | then-branch+in_ok-push w ↦
          new_item record_cmp record_strict rows i row c.loop-row-test.true c.row-item.is c.loop-row.different.items has now c.loop-row.invariant c.if-branch.different.items c.in_ok-insert.field-0
          (ap vec_items w.different-is ∙ w.in_ok-push.ensures.items ∙ ap (λ r. c.loop-row.different.items ++ r ∷ []) w.again.ensures) w.if-branch.true (c.in_ok-insert.ensures.added ∙ ap (λ r. not (has r)) c.fields.ensures.fields) updates
      | else-branch w ↦
          old_item record_cmp record_strict rows i row c.loop-row-test.true c.row-item.is c.loop-row.different.items has now c.loop-row.invariant c.if-branch.different.items c.in_ok-insert.field-0
          (ap vec_items w.different-is) w.if-branch.false (c.in_ok-insert.ensures.added ∙ ap (λ r. not (has r)) c.fields.ensures.fields) updates
    ]

pub returns : goal.returns
returns c =
    sorted_apart record_cmp record_strict c.loop-row.different.items c.loop-row.invariant.apart
    ∙ c.loop-row.invariant.same ∙ ap (ascending record_cmp) (take_all c.loop-row.row-index c.args.rows.now c.loop-row-test.false)
