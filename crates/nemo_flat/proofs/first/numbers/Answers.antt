use Rattle.std.proofs.Common.{◌∙◌, ap, ◌++◌, ◌+◌, ◌-◌}
use Rattle.nemo_ir.specs.Along.{counted}
use Rattle.nemo_ir.proofs.FlatPlaces.{number_more}
use Rattle.nemo_flat.proofs.first.numbers.Goals as goal

pub loop-i-preserved : goal.loop-i-preserved
loop-i-preserved c =
    ap (λ l. l ++ counted (c.loop-i.i + 1) (c.args.count - (c.loop-i.i + 1))) c.in_ok-push.ensures.ok
    ∙ number_more c.loop-i.all c.loop-i.i c.args.count c.loop-i-test.true ∙ c.loop-i.invariant
