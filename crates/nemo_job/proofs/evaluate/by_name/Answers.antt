use Rattle.std.proofs.Common.{rules}
use Rattle.std.proofs.lemmas.List.Sorted.{answers_always, ranks_by}
use Rattle.std.specs.Cmp.{nat_cmp_total}
use Rattle.std.specs.Cmp.Lexicographic.{lists_total}
use Rattle.std.specs.Ordering.{is_lt}
use Rattle.nemo_value.specs.declared.record.SinkRows.{SinkRows}
use Rattle.nemo_value.specs.SinkOrder.{by_name}
use Rattle.nemo_job.proofs.NamedSinks.{only_by_name}
use Rattle.nemo_job.proofs.evaluate.by_name.Goals as goal

pub returns : goal.returns
returns c =
    let s = c.sort_unstable_by.ensures in
    only_by_name c.args.sinks.items c.sort_unstable_by.new.self.items c.requires s.permutation
    (s.sorted (λ a b. is_lt (by_name a b)) (ranks_by (lists_total nat_cmp_total) (λ (k : SinkRows). k.name)) (answers_always _ _ _ (λ f a r g h. search rules)))
