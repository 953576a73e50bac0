use Rattle.nemo_core.proofs.Holders.{uneven}
use Rattle.nemo_core.proofs.refusal.are_holders.Goals as goal

pub returns-then-names-blocks : goal.returns-then-names-blocks
returns-then-names-blocks c = let e = uneven c.args.blocks.now c.args.names.now c.if-names-blocks.true in cc
