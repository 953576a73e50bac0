use Rattle.std.proofs.Common.{◌∙◌, ap, sym}
use Rattle.nemo_core.specs.Cell.{with_item}
use Rattle.nemo_core.proofs.Cells.{ended_cell}
use Rattle.nemo_core.proofs.task.end.Goals as goal

pub returns : goal.returns
returns c =
    c.set.ensures
    ∙ ap (λ row. with_item c.args.tasks.now c.args.place.stage c.args.place.index row) c.idle.ensures
    ∙ ended_cell c.args.tasks.now c.args.attempt c.args.place.stage c.args.place.index c.in-Some.row c.requires (sym c.task_at.ensures ∙ c.in-Some.is)
