use Rattle.std.proofs.Common.{◌+◌, ◌-◌, arith, sym, ◌∙◌}
use Rattle.nemo_core.specs.Reading.{runs_there}
use Rattle.nemo_core.proofs.Turns.{first_skip}
use Rattle.nemo_core.proofs.machine.Core.running_among.Goals as goal

pub loop-index-preserved : goal.loop-index-preserved
loop-index-preserved c =
    sym (first_skip (runs_there c.args.self.now.state c.args.attempt c.args.stage) c.loop-index.index (c.args.count - c.loop-index.index) (c.args.count - (c.loop-index.index + 1)) (omega (arith, c.loop-index-test.true)) (sym c.runs_there.ensures ∙ c.in_default.is))
    ∙ c.loop-index.invariant
