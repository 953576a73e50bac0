use Rattle.std.proofs.Common.{rules, ◌≡◌, subst}
use Rattle.std.specs.List.Sorted.{IsPermutation}
use Rattle.std.proofs.lemmas.List.Sorted.{answers_always}
use Rattle.nemo_transform.proofs.KeyOrder.{keys_rise, same_groups}
use Rattle.nemo_transform.proofs.grouping.in_key_order.Goals as goal

pub returns-clause-order : goal.returns-clause-order
returns-clause-order c =
    let all : c.in_ok-entries.entries.items ≡ c.args.groups.entries = search rules in
    let moved = subst (λ l. IsPermutation l c.sort_unstable_by_key.new.self.items) all c.sort_unstable_by_key.ensures.permutation in
    keys_rise c.args.groups.entries c.sort_unstable_by_key.new.self.items moved c.into_iter.ensures.into_iter_gives.4
    (c.sort_unstable_by_key.ensures.sorted (λ e. e.0) (answers_always _ _ _ (λ f a r g q. search rules)))

pub returns-clause-same : goal.returns-clause-same
returns-clause-same c =
    let all : c.in_ok-entries.entries.items ≡ c.args.groups.entries = search rules in
    let moved = subst (λ l. IsPermutation l c.sort_unstable_by_key.new.self.items) all c.sort_unstable_by_key.ensures.permutation in
    same_groups c.args.groups.entries c.sort_unstable_by_key.new.self.items moved c.into_iter.ensures.into_iter_gives.4
