use Rattle.std.proofs.Common.{◌≡◌, ◌∙◌, ◌++◌, [], ap, subst, sym, refl, append-nil, false, map, IfOk, Some, None}
use Rattle.std.specs.List.{filter_map, flat_map}
use Rattle.std.proofs.lemmas.List.{drop_all}
use Rattle.nemo_value.specs.Ascending.{ascending}
use Rattle.nemo_value.specs.Key.{first_key}
use Rattle.nemo_transform.specs.FaultOrder.{fault_cmp}
use Rattle.nemo_transform.specs.FirstField.{side_by_side}
use Rattle.nemo_transform.specs.Gives.{fault_in, joined, own_faults, rows_in}
use Rattle.nemo_transform.proofs.JoinSteps.{faults_more, joined_by, rows_more}
use Rattle.nemo_transform.proofs.joining.joined.Goals as goal

pub loop-row-init : goal.loop-row-init
loop-row-init c =
    let all = flat_map (joined first_key first_key c.args.right.now) c.args.left.now in
    let given = ap (λ none. none ++ all) c.in_ok-by_key.ensures.keyed in
    record {
      rows = ap (λ none. none ++ rows_in all) c.new-rows.ensures ∙ sym (ap rows_in given);
      faults = ap (λ none. ascending fault_cmp (none ++ filter_map fault_in all)) c.new-faults.ensures.items ∙ sym (ap own_faults given);
    }

pub loop-row-preserved-in_default : goal.loop-row-preserved-in_default
loop-row-preserved-in_default c =
    let right = c.args.right.now in
    let left = c.args.left.now in
    let i = c.loop-row.row-index in
    let x = c.row-item.result in
    let k = c.key-key.result.now in
    let answers = joined_by right x k None _ c.in_ok-by_key.ensures.keyed c.key-key.ensures c.in_default.ensures.value (c.in_ok-by_key.ensures.rows k) in
    record {
      rows = rows_more right left i x c.loop-row-test.true c.row-item.is [] answers c.loop-row.rows _ _ (sym (append-nil c.loop-row.rows)) c.loop-row.invariant.rows;
      faults = faults_more right left i x c.loop-row-test.true c.row-item.is [] answers c.loop-row.faults.items _ _ false refl (sym (append-nil c.loop-row.faults.items)) c.loop-row.invariant.faults;
    }

pub loop-row-preserved : goal.loop-row-preserved
loop-row-preserved c =
    let right = c.args.right.now in
    let left = c.args.left.now in
    let i = c.loop-row.row-index in
    let x = c.row-item.result in
    let k = c.key-key.result.now in
    let found = map (λ r. r.now) c.deref.result.now in
    let answers =
    joined_by right x k (Some c.in-Some.others.now) _ c.in_ok-by_key.ensures.keyed c.key-key.ensures c.in-Some.ensures.value (c.in_ok-by_key.ensures.rows k)
    ∙ ap (λ rs. map (side_by_side x) (map (λ r. r.now) rs)) (sym c.deref.ensures.value)
    in
    record {
      rows = rows_more right left i x c.loop-row-test.true c.row-item.is found answers c.loop-row.rows _ _ c.in_ok-push_joined.ensures.rows c.loop-row.invariant.rows;
      faults = faults_more right left i x c.loop-row-test.true c.row-item.is found answers c.loop-row.faults.items _ _ _ refl c.in_ok-push_joined.ensures.faults c.loop-row.invariant.faults;
    }

pub returns-clause-rows : goal.returns-clause-rows
returns-clause-rows c =
    let none = drop_all c.loop-row.row-index c.args.left.now c.loop-row-test.false in
    let given = sym (append-nil c.loop-row.rows) ∙ ap (λ rest. c.loop-row.rows ++ rows_in (flat_map (joined first_key first_key c.args.right.now) rest)) (sym none) ∙ c.loop-row.invariant.rows in
    subst (λ rows. IfOk c.new.result (λ a. a.rows ≡ rows)) given c.new.ensures.rows

pub returns-clause-faults : goal.returns-clause-faults
returns-clause-faults c =
    let none = drop_all c.loop-row.row-index c.args.left.now c.loop-row-test.false in
    let faults = ap (ascending fault_cmp) (sym (append-nil c.loop-row.faults.items))
    ∙ ap (λ rest. ascending fault_cmp (c.loop-row.faults.items ++ filter_map fault_in (flat_map (joined first_key first_key c.args.right.now) rest))) (sym none) ∙ c.loop-row.invariant.faults in
    subst (λ all. IfOk c.new.result (λ a. a.faults ≡ all)) faults c.new.ensures.faults
