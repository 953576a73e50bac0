use Rattle.std.proofs.Common.{refl, length, arith}
use Rattle.std.proofs.lemmas.List.{length-map}
use Rattle.std.proofs.lemmas.Option.{slice_get_read}
use Rattle.nemo_job.specs.Held.{known}
use Rattle.nemo_job.proofs.Lining.{by_row_all, input_below, line, line_held, line_size, one_input, sound_all}
use Rattle.nemo_job.proofs.evaluate.hold_line.Goals as goal

pub only_input-input-requires : goal.only_input-input-requires
only_input-input-requires c =
    let nodes = c.args.nodes.now in
    let all = line nodes c.args.last.now c.args.place c.args.end c.requires.placed c.requires.last c.requires.line in
    let size = line_size nodes c.args.last.now c.args.place c.args.end c.requires.placed c.requires.last c.requires.line in
    let more = c.requires.line.more in
    let n = c.index-line-0.result in
    one_input nodes c.args.last.now c.args.place c.args.end c.requires.placed c.requires.last c.requires.line 0 n (slice_get_read all (length all) 0 n refl (omega arith) c.index-line-0.is)

pub line_given-requires-clause-sound : goal.line_given-requires-clause-sound
line_given-requires-clause-sound c = sound_all c.args.nodes.now c.args.last.now c.args.place c.args.end c.requires.placed c.requires.last c.requires.line

pub line_given-requires-clause-by_row : goal.line_given-requires-clause-by_row
line_given-requires-clause-by_row c = by_row_all c.args.nodes.now c.args.last.now c.args.place c.args.end c.requires.placed c.requires.last c.requires.line

pub line_given-requires-clause-within : goal.line_given-requires-clause-within
line_given-requires-clause-within c =
    let nodes = c.args.nodes.now in
    let all = line nodes c.args.last.now c.args.place c.args.end c.requires.placed c.requires.last c.requires.line in
    let size = line_size nodes c.args.last.now c.args.place c.args.end c.requires.placed c.requires.last c.requires.line in
    let more = c.requires.line.more in
    let n = c.index-line-0.result in
    let low = input_below nodes c.args.last.now c.args.place c.args.end c.requires.placed c.requires.last c.requires.line n c.only_input-input.result (slice_get_read all (length all) 0 n refl (omega arith) c.index-line-0.is) c.only_input-input.ensures in
    let held = c.requires.held.size in
    let same = length-map c.args.held.now.items known in
    omega arith

pub returns : goal.returns
returns c =
    let nodes = c.args.nodes.now in
    let all = line nodes c.args.last.now c.args.place c.args.end c.requires.placed c.requires.last c.requires.line in
    let size = line_size nodes c.args.last.now c.args.place c.args.end c.requires.placed c.requires.last c.requires.line in
    let more = c.requires.line.more in
    let n = c.index-line-0.result in
    line_held nodes c.args.last.now c.args.place c.args.end c.requires.placed c.requires.last c.requires.line n c.only_input-input.result (slice_get_read all (length all) 0 n refl (omega arith) c.index-line-0.is) c.only_input-input.ensures
    _ _ _ (known c.in_ok-given.given) c.requires.held c.in_ok-given.ensures.released c.in_ok-given.ensures.given c.in_ok-push_last.ensures
