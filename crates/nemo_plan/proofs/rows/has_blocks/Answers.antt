use Rattle.std.proofs.Common.{◌∙◌, ◌||◌, ap, sym, filter}
use Rattle.nemo_plan.specs.Graph.{is_any, leaves}
use Rattle.nemo_plan.proofs.Walks.{is_any_filtered}
use Rattle.nemo_plan.proofs.rows.has_blocks.Goals as goal

pub returns-else-is_sink : goal.returns-else-is_sink
returns-else-is_sink c =
    c.any_leaves.ensures ∙ sym (is_any_filtered (leaves c.args.stages.now) c.args.out.now) ∙ ap (λ b. b || is_any (filter (leaves c.args.stages.now) c.args.out.now)) (sym c.if-is_sink.false ∙ c.is_sink.ensures)
