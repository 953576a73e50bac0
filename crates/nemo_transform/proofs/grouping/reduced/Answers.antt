use Rattle.std.proofs.Common.{◌≡◌, ◌∙◌, ◌++◌, IfOk, ap, map, subst}
use Rattle.std.specs.List.{filter_map, flat_map}
use Rattle.nemo_transform.specs.Gives.{fault_in, rows_in}
use Rattle.std.specs.HashMap.{get_by}
use Rattle.nemo_transform.specs.Groups.{answer_at, at_key, seen}
use Rattle.nemo_transform.proofs.GroupSteps.{all_rows, all_faults}
use Rattle.nemo_transform.proofs.grouping.reduced.Goals as goal

pub returns-clause-rows : goal.returns-clause-rows
returns-clause-rows c =
    let given = c.in_ok-given.ensures.rows ∙ ap (λ es. rows_in (flat_map answer_at (map seen es))) c.deref.ensures.value
    ∙ all_rows c.args.by c.args.field c.args.rows.now c.in_ok-entries.entries.items (λ k. get_by (at_key k) c.in_ok-groups.groups) c.in_ok-entries.ensures.order c.in_ok-entries.ensures.same c.in_ok-groups.ensures.groups c.in_ok-groups.ensures.keyed in
    subst (λ rows. IfOk c.new.result (λ a. a.rows ≡ rows)) given c.new.ensures.rows

pub returns-clause-faults : goal.returns-clause-faults
returns-clause-faults c =
    let faults = all_faults c.args.by c.args.field c.args.rows.now c.in_ok-entries.entries.items (λ k. get_by (at_key k) c.in_ok-groups.groups) c.in_ok-entries.ensures.order c.in_ok-entries.ensures.same c.in_ok-groups.ensures.groups c.in_ok-groups.ensures.keyed
    c.new-faults.result.items c.groups_of.new.faults.items _ c.new-faults.ensures.items c.in_ok-groups.ensures.faults
    (c.in_ok-given.ensures.faults ∙ ap (λ es. c.groups_of.new.faults.items ++ filter_map fault_in (flat_map answer_at (map seen es))) c.deref.ensures.value) in
    subst (λ all. IfOk c.new.result (λ a. a.faults ≡ all)) faults c.new.ensures.faults
