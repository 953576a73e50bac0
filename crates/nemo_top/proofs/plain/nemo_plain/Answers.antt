use Rattle.std.proofs.Common.{subst, OnOk, OnErr}
use Rattle.std.specs.Cow.{cow_slice_items}
use Rattle.std.specs.Io.KnownBytes.{Appends}
use Rattle.nemo_io.specs.Told.{AppendsPart}
use Rattle.nemo_top.specs.Calls.{call_of}
use Rattle.nemo_top.proofs.Answering.{all_written, count_kept, count_rose, part_written}
use Rattle.nemo_top.proofs.Completing.{written_completes}
use Rattle.nemo_top.proofs.plain.nemo_plain.Goals as goal

pub returns-clause-wrote : goal.returns-clause-wrote
returns-clause-wrote g c =
    let call = call_of c.args.words.now (g.S.Source.left c.args.source.now) (g.S.Source.left c.reach-status.new.source) (g.S.Source.faults c.args.source.now) (g.S.Source.faults c.reach-status.new.source) in
    let reached = c.reach-status.result in
    let before = g.K.Sink.given c.args.sink.now in
    let after = g.K.Sink.given c.write_all-written.new.sink in
    let r = c.write_all-written.result in
    all_written call reached.status c.status_after-status.result reached.log (cow_slice_items reached.text) before after r c.reach-status.ensures c.status_after-status.ensures.kept c.status_after-status.ensures.fault
    (subst (λ bytes. OnOk r (Appends before after bytes)) c.as_slice.ensures.value c.write_all-written.ensures.all)

pub returns-clause-sink_kept : goal.returns-clause-sink_kept
returns-clause-sink_kept g c = count_kept c.status_after-status.result (g.K.Sink.faults c.args.sink.now) (g.K.Sink.faults c.write_all-written.new.sink) c.write_all-written.result c.status_after-status.ensures.fault c.write_all-written.ensures.cause

pub returns-clause-part : goal.returns-clause-part
returns-clause-part g c =
    let call = call_of c.args.words.now (g.S.Source.left c.args.source.now) (g.S.Source.left c.reach-status.new.source) (g.S.Source.faults c.args.source.now) (g.S.Source.faults c.reach-status.new.source) in
    let reached = c.reach-status.result in
    let before = g.K.Sink.given c.args.sink.now in
    let after = g.K.Sink.given c.write_all-written.new.sink in
    let r = c.write_all-written.result in
    part_written call reached.status c.status_after-status.result reached.log (cow_slice_items reached.text) before after r c.reach-status.ensures c.status_after-status.ensures.kept
    (subst (λ bytes. OnErr r (AppendsPart before after bytes)) c.as_slice.ensures.value c.write_all-written.ensures.part)

pub returns-clause-write_fault : goal.returns-clause-write_fault
returns-clause-write_fault g c =
    let call = call_of c.args.words.now (g.S.Source.left c.args.source.now) (g.S.Source.left c.reach-status.new.source) (g.S.Source.faults c.args.source.now) (g.S.Source.faults c.reach-status.new.source) in
    let reached = c.reach-status.result in
    count_rose call reached.status c.status_after-status.result reached.log (cow_slice_items reached.text) (g.K.Sink.faults c.args.sink.now) (g.K.Sink.faults c.write_all-written.new.sink) c.write_all-written.result c.reach-status.ensures c.status_after-status.ensures.kept
    c.write_all-written.ensures.cause

pub returns-clause-complete : goal.returns-clause-complete
returns-clause-complete g c command bundle =
    let call = call_of c.args.words.now (g.S.Source.left c.args.source.now) (g.S.Source.left c.reach-status.new.source) (g.S.Source.faults c.args.source.now) (g.S.Source.faults c.reach-status.new.source) in
    let reached = c.reach-status.result in
    written_completes call command bundle reached.status c.status_after-status.result reached.log (cow_slice_items reached.text) (g.K.Sink.faults c.args.sink.now) (g.K.Sink.faults c.write_all-written.new.sink) c.write_all-written.result c.reach-status.ensures
    c.status_after-status.ensures.kept c.write_all-written.ensures.cause
