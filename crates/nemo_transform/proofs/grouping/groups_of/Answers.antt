use Rattle.std.proofs.Common.{◌≡◌, ◌∙◌, ◌++◌, ◌*◌, ◌+◌, ◌≤◌, List, Option, [], ap, arith, rules, take, unwrap_or}
use Rattle.std.specs.HashMap.{get_by}
use Rattle.std.specs.HashMap.Entry.{map_with_value}
use Rattle.std.specs.Map.{lookup}
use Rattle.std.specs.List.{filter_map, cons_option}
use Rattle.nemo_transform.specs.Folds.{size, known, known_group, folding_of, with_read, why}
use Rattle.nemo_transform.specs.FirstField.{with_first}
use Rattle.nemo_transform.specs.Gives.{read}
use Rattle.nemo_transform.specs.Groups.{at_key, fault_of}
use Rattle.nemo_value.specs.declared.field.Field.{Field}
use Rattle.nemo_transform.specs.declared.fault.Fault.{Fault}
use Rattle.nemo_transform.proofs.FirstFields.{keyless_more}
use Rattle.nemo_transform.proofs.GroupSteps.{kept_more, old_small, folding_stays, fault_with, bad_more, fault_pushed, none_pushed}
use Rattle.nemo_transform.proofs.grouping.groups_of.Goals as goal
use Rattle.nemo_transform.proofs.grouping.groups_of.Goals.{in-Some+in_ok-to_record+in_ok-push, in_default}

pub with_row-why-requires : goal.with_row-why-requires
with_row-why-requires c =
    let i = c.loop-row.row-index in
    let n = 9223372036854775808 * i in
    let k = c.key.result.now in
    let none : size c.start-empty.result.fold ≤ n = omega (arith, c.start-empty.ensures.size) in
    let low = old_small c.args.by c.args.field (with_first k (take i c.args.rows.now)) n c.start-empty.result c.or_insert-group.result.now (get_by (at_key k) c.loop-row.groups)
    (c.or_insert-group.ensures.value ∙ ap (λ o. unwrap_or o c.start-empty.result) c.in_ok-groups.ensures.value) c.start-empty.ensures.known (c.loop-row.invariant.groups k) none in
    omega (arith, low, c.loop-row-test.true, c.loop-row.auto.row-index-end)

pub loop-row-preserved : goal.loop-row-preserved
loop-row-preserved c =
    let i = c.loop-row.row-index in
    let n = 9223372036854775808 * i in
    let rows = c.args.rows.now in
    let row = c.row-item.result in
    let k = c.key.result.now in
    let empty = c.start-empty.result in
    let old = c.or_insert-group.result.now in
    let new = c.with_row-why.result.0 in
    let look = λ (q : Field). get_by (at_key q) c.loop-row.groups in
    let none : size empty.fold ≤ n = omega (arith, c.start-empty.ensures.size) in
    let old_is : old ≡ unwrap_or (look k) empty = c.or_insert-group.ensures.value ∙ ap (λ o. unwrap_or o empty) c.in_ok-groups.ensures.value in
    let low = old_small c.args.by c.args.field (with_first k (take i rows)) n empty old (look k) old_is c.start-empty.ensures.known (c.loop-row.invariant.groups k) none in
    let same = folding_stays c.args.by c.args.field (with_first k (take i rows)) n empty old (look k) old_is c.start-empty.ensures.known (c.loop-row.invariant.groups k) in
    let bound : size new.fold ≤ 9223372036854775808 * (i + 1) = omega (arith, low, c.with_row-why.ensures.size) in
    let read_of = λ (o : Option Field). read (folding_of (known old.fold)) o in
    let bad : (fs : List Fault) → fs ≡ c.loop-row.faults.items ++ cons_option (fault_with row c.with_row-why.result.1) [] → fs ≡ c.args.faults.now.items ++ filter_map (fault_of c.args.by c.args.field) (take (i + 1) rows) = λ fs e.
    e ∙ bad_more c.args.by c.args.field rows i row c.args.faults.now.items c.loop-row.faults.items _ c.with_row-why.result.1 c.loop-row-test.true c.row-item.is same
    (c.with_row-why.ensures.why ∙ ap (λ o. why (read_of o)) c.get.ensures) c.loop-row.invariant.faults in
    record {
      groups = λ q.
          kept_more c.args.by c.args.field rows i row k q empty old new look _ n (9223372036854775808 * (i + 1)) c.loop-row-test.true c.row-item.is c.key.ensures c.loop-row.invariant.groups old_is
          c.start-empty.ensures.known (c.with_row-why.ensures.known ∙ ap (λ o. with_read (known_group old) (read_of o)) c.get.ensures) bound (omega arith)
          (let update = (c.in_ok-groups.ensures.update.0 new).0 (record c.key.result { now = q }) in ap (lookup (at_key q)) {y = (map_with_value c.in_ok-groups.field-0 new).entries} (search rules) ∙ update);
      keyed = keyless_more rows i row k c.loop-row-test.true c.row-item.is c.key.ensures c.loop-row.invariant.keyed;
      faults = elim c.match-why.branch [
        | in-Some+in_ok-to_record+in_ok-push w ↦ bad _ (ap (λ fs. fs.items) w.faults-is ∙ fault_pushed c.loop-row.faults.items w.push.new.self.items row w.in_ok-to_record.field-0 w.in-Some.kind c.with_row-why.result.1 w.in-Some.is w.in_ok-to_record.ensures w.in_ok-push.ensures.items)
        | in_default w ↦ bad _ (ap (λ fs. fs.items) w.faults-is ∙ none_pushed c.loop-row.faults.items row c.with_row-why.result.1 w.in_default.is)
      ];
    }
