use Rattle.std.proofs.Common.{◌∙◌, ap, sym, get_or}
use Rattle.std.proofs.lemmas.Result.{IfOk-weaker}
use Rattle.nemo_job.specs.HeldRows.{rows_held}
use Rattle.nemo_job.proofs.Feeding.{rows_of_port}
use Rattle.nemo_job.proofs.held.rows_at.Goals as goal

pub returns-in-Some : goal.returns-in-Some
returns-in-Some c =
    let h = c.index-held-input.result in
    let held = c.args.held.now in
    let found = c.in-Some.ensures.lookup.3 in
    IfOk-weaker c.lend.result _ _ (λ rows lent vals feeds.
    lent ∙ ap (λ g. rows_held g.rows) (sym c.index-held-input.is)
    ∙ rows_of_port vals held c.args.inputs.now c.args.number h feeds c.requires.within found.0 (c.index-held-input.is ∙ ap (λ j. get_or held j h) (found.1 0)))
    c.lend.ensures
