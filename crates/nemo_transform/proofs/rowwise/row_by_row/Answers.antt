use Rattle.std.proofs.Common.{◌∙◌, ◌∷◌, ◌++◌, [], ap}
use Rattle.nemo_transform.specs.RowByRow.{rows_for}
use Rattle.nemo_transform.proofs.RowSteps.{at_row, after_added, after_fault}
use Rattle.nemo_transform.proofs.rowwise.row_by_row.Goals as goal
use Rattle.nemo_transform.proofs.rowwise.row_by_row.Goals.{in-Ok, in-Err-Fault+in_ok-to_record-in-Err-Fault+in_ok-push-in-Err-Fault}

pub loop-row-preserved : goal.loop-row-preserved
loop-row-preserved c =
    let rows = c.args.rows.now in
    let at = at_row rows c.loop-row.row-index c.row-item.result c.loop-row-test.true c.row-item.is in
    let f = rows_for c.args.transform.now in
    elim c.match-add_rows.branch [
      | in-Ok w ↦ after_added f rows _ _ _ at _ _ _ _ w.in-Ok.ensures (ap (λ v. v.items) w.faults-is) c.loop-row.invariant
      | in-Err-Fault+in_ok-to_record-in-Err-Fault+in_ok-push-in-Err-Fault w ↦
          let stopped = rw w.in-Err-Fault.field-0-is at w.in-Err-Fault.ensures in
          let faults = ap (λ v. v.items) w.faults-is ∙ w.in_ok-push-in-Err-Fault.ensures.items ∙ ap (λ r. c.loop-row.faults.items ++ record { kind = w.in-Err-Fault.kind; rec = r } ∷ []) w.in_ok-to_record-in-Err-Fault.ensures in
          after_fault f rows _ _ _ at w.in-Err-Fault.kind _ _ _ _ stopped.0 stopped.1 faults c.loop-row.invariant
    ]
