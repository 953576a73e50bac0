use Rattle.std.proofs.Common.{arith, ◌<◌, ap, get_or, length, set}
use Rattle.std.proofs.lemmas.Option.{slice_get-get_or}
use Rattle.nemo_job.proofs.LastReaders.{marks_next}
use Rattle.nemo_job.proofs.readers.mark.Goals as goal

pub loop-input-preserved : goal.loop-input-preserved
loop-input-preserved c =
    let inputs = c.args.inputs.now in
    let i = c.loop-input.input-index in
    let old = c.loop-input.last.items in
    let small : get_or inputs i 0 < length c.args.last.now.items = c.requires i (get_or inputs i 0) (slice_get-get_or inputs i 0 c.loop-input-test.true) in
    let inside : get_or inputs i 0 < length old = omega (arith, c.loop-input.invariant.size) in
    marks_next inputs i c.args.place c.index.result.now c.args.last.now.items old (set old (get_or inputs i 0) c.or.result) c.loop-input-test.true inside c.index.ensures
    (ap (set old (get_or inputs i 0)) c.or.ensures) c.loop-input.invariant
