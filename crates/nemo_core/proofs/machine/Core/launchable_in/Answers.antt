use Rattle.std.proofs.Common.{◌+◌, ◌-◌, arith, sym, ◌∙◌}
use Rattle.nemo_core.specs.Reading.{may_launch}
use Rattle.nemo_core.proofs.Turns.{first_skip}
use Rattle.nemo_core.proofs.machine.Core.launchable_in.Goals as goal

pub loop-index-preserved : goal.loop-index-preserved
loop-index-preserved c =
    sym (first_skip (may_launch c.args.self.now c.args.slot c.args.stage) c.loop-index.index (c.args.count - c.loop-index.index) (c.args.count - (c.loop-index.index + 1)) (omega (arith, c.loop-index-test.true)) (sym c.may_launch.ensures.least ∙ c.in_default.is))
    ∙ c.loop-index.invariant
