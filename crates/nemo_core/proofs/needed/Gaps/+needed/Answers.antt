use Rattle.std.proofs.Common.{arith, sym, ◌∙◌, ◌+◌, ◌-◌}
use Rattle.nemo_core.specs.Needed.{needed_in}
use Rattle.nemo_core.specs.State.{gone_in}
use Rattle.nemo_core.proofs.Turns.{needed_turn, any_skip}
use Rattle.nemo_core.proofs.needed.Gaps.+needed.Goals as goal

pub any_needed-loop-i-preserved : goal.any_needed-loop-i-preserved
any_needed-loop-i-preserved t c =
    sym (any_skip (needed_in c.args.self.now.graph.now (gone_in c.args.self.now.blocks.now) c.args.turns c.args.stage) c.loop-i.i (c.args.count - c.loop-i.i) (c.args.count - (c.loop-i.i + 1)) (omega (arith, c.loop-i-test.true)) (sym c.needed_in.ensures ∙ c.if-needed_in.false))
    ∙ c.loop-i.invariant

pub needed_in-returns : goal.needed_in-returns
needed_in-returns t c =
    needed_turn c.args.self.now.graph.now (gone_in c.args.self.now.blocks.now) c.args.turns (c.args.turns - 1) c.args.stage c.args.i c.blocks_of.result.now c.any_wanted.result (omega (arith, c.if-turns-eq0.false)) c.any_wanted.ensures c.blocks_of.ensures
