use Rattle.std.proofs.Common.{◌∙◌, ap, sym}
use Rattle.nemo_job.proofs.Feeding.{passed_more}
use Rattle.nemo_job.proofs.held.passed_on.Goals as goal

pub loop-input-preserved : goal.loop-input-preserved
loop-input-preserved c = λ vals feeds.
    passed_more vals c.args.held.now c.args.inputs.now c.loop-input.input-index c.index-held-input.result c.loop-input.first c.earlier-first.result c.in_ok-copied.field-0
    feeds c.requires.within c.loop-input-test.true c.index-held-input.is
    (c.in_ok-copied.ensures ∙ ap (λ h. h.first) (sym c.index-held-input.is))
    c.earlier-first.ensures (c.loop-input.invariant vals feeds)
