use Rattle.std.proofs.Common.{◌≡◌, ◌∙◌, ap, map, true}
use Rattle.std.specs.Prelude.{IsTrue}
use Rattle.nemo_transform.specs.RowByRow.{goes_by_row}
use Rattle.nemo_transform.specs.Soundness.{is_sound}
use Rattle.nemo_job.proofs.LineSteps.{so_lent}
use Rattle.nemo_job.proofs.held.through_held.Goals as goal

pub all_through-requires-clause-sound : goal.all_through-requires-clause-sound
all_through-requires-clause-sound c =
    so_lent (λ t. IsTrue (is_sound t)) c.args.line.now c.as_slice.result.now (ap (map (λ t. t.now)) c.as_slice.ensures.value ∙ c.in_ok-transforms.ensures) c.requires.sound

pub all_through-requires-clause-by_row : goal.all_through-requires-clause-by_row
all_through-requires-clause-by_row c =
    so_lent (λ t. goes_by_row t ≡ true) c.args.line.now c.as_slice.result.now (ap (map (λ t. t.now)) c.as_slice.ensures.value ∙ c.in_ok-transforms.ensures) c.requires.by_row
