use Rattle.std.proofs.Common.{◌∙◌, ap, sym}
use Rattle.nemo_job.specs.HeldRows.{rows_held}
use Rattle.nemo_job.proofs.Feeding.{joined_more}
use Rattle.nemo_job.proofs.held.joined.Goals as goal

pub loop-input-preserved : goal.loop-input-preserved
loop-input-preserved c = λ vals feeds.
    joined_more vals c.args.held.now c.args.inputs.now c.loop-input.input-index c.index-held-input.result c.loop-input.all.items c.append.new.self.items c.in_ok-rows.rows.items
    feeds c.requires.within c.loop-input-test.true c.index-held-input.is
    (c.in_ok-rows.ensures ∙ ap (λ h. rows_held h.rows) (sym c.index-held-input.is))
    c.in_ok-append.ensures.items (c.loop-input.invariant vals feeds)
