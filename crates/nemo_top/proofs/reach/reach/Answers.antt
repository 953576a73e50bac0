use Rattle.std.specs.Cow.{cow_slice_items}
use Rattle.nemo_top.specs.Calls.{call_of}
use Rattle.nemo_top.proofs.Answering.{stands_answers}
use Rattle.nemo_top.proofs.reach.reach.Goals as goal

pub returns-in-Err : goal.returns-in-Err
returns-in-Err g c =
    let call = call_of c.args.words.now (g.S.Source.left c.args.source.now) (g.S.Source.left c.try_reach.new.source) (g.S.Source.faults c.args.source.now) (g.S.Source.faults c.try_reach.new.source) in
    stands_answers call c.in-Err.status c.alone.result.status c.alone.result.log (cow_slice_items c.alone.result.text) c.in-Err.ensures c.alone.ensures.status c.alone.ensures.alone
