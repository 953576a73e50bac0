use Rattle.std.proofs.Common.{◌∙◌, sym}
use Rattle.nemo_core.proofs.Cells.{launched_cell}
use Rattle.nemo_core.proofs.task.launch.Goals as goal

pub returns : goal.returns
returns c = c.set.ensures ∙ launched_cell c.args.tasks.now c.args.attempt c.args.task c.args.slot c.in-Some.row (sym c.get.ensures ∙ c.in-Some.is)
