use Rattle.std.proofs.Common.{◌∙◌, sym}
use Rattle.nemo_check.proofs.Standing.{behind}
use Rattle.nemo_check.proofs.producers.op_behind.Goals as goal

pub returns-then-is_utility : goal.returns-then-is_utility
returns-then-is_utility c = behind _ _ _ _ _ c.args.u.now c.producer.ensures c.op_at.ensures c.requires.so_far (sym c.is_utility.ensures ∙ c.if-is_utility.true)
