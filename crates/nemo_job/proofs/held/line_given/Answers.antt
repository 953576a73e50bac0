use Rattle.std.proofs.Common.{◌≡◌, ◌∙◌, refl, ap, sym, length, map, true, Some}
use Rattle.std.specs.Prelude.{option_map}
use Rattle.std.proofs.lemmas.List.Elements.{All-map}
use Rattle.std.proofs.lemmas.Option.{slice_get-map, slice_get_read}
use Rattle.nemo_transform.specs.RowByRow.{goes_by_row}
use Rattle.nemo_transform.specs.ArisenOrder.{place_cmp}
use Rattle.nemo_transform.specs.FirstFault.{arisen_at, lesser_by}
use Rattle.nemo_transform.specs.Through.{passed}
use Rattle.nemo_job.specs.Held.{known, transform_of}
use Rattle.nemo_job.specs.HeldRows.{rows_held}
use Rattle.nemo_job.proofs.Feeding.{some_one}
use Rattle.nemo_job.proofs.LineSteps.{line_known}
use Rattle.nemo_job.proofs.held.line_given.Goals as goal

pub returns-clause-given : goal.returns-clause-given
returns-clause-given c = λ k at.
    let held = c.args.held.now.items in
    let h = c.index-source.result.now in
    let there : Some k ≡ Some (known h) =
    sym at ∙ slice_get-map known held c.args.input ∙ ap (option_map known) (slice_get_read held (length held) c.args.input h refl c.requires.within c.index-source.ensures) in
    line_known c.args.place (map transform_of c.args.line.now) (rows_held h.rows) (passed c.in_ok-made.made) k (option_map arisen_at c.earlier.result) (option_map arisen_at h.first) (All-map (λ t. goes_by_row t ≡ true) transform_of c.args.line.now c.requires.by_row)
    (some_one _ _ there) c.in_ok-made.ensures
    (c.earlier.ensures ∙ ap (λ p. lesser_by place_cmp (option_map arisen_at p) (option_map arisen_at c.in_ok-made.made.first)) c.in_ok-passed.ensures)
