use Rattle.std.proofs.Common.{rules, ◌≡◌, ◌∙◌, ◌++◌, ◌∷◌, [], Some}
use Rattle.serde_json.specs.View.{view}
use Rattle.nemo_bundle.specs.Scripts.{line_of}
use Rattle.nemo_bundle.proofs.Fronts.{put_front_line}
use Rattle.nemo_bundle.proofs.scripts.read_lines.Goals as goal

pub loop-place-preserved : goal.loop-place-preserved
loop-place-preserved c =
    let loop = c.loop-place in
    let line = c.in_ok-at.field-0 in
    let value = c.index-items-place.result in
    let read : line_of c.args.cluster loop.place loop.before (view value) ≡ Some line = search rules in
    let pushed : c.push.new.self ≡ loop.lines ++ line ∷ [] = c.in_ok-push.ensures.ok in
    rw pushed (put_front_line c.args.cluster loop.place loop.before loop.lines line c.args.items.now value c.loop-place-test.true c.index-items-place.is read ∙ loop.invariant)
