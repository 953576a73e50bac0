use Rattle.std.proofs.Common.{◌≡◌, true, rules, arith}
use Rattle.nemo_job.proofs.Lining.{joined_more}
use Rattle.nemo_job.proofs.evaluate.end_of_line.Goals as goal

pub loop-end-preserved : goal.loop-end-preserved
loop-end-preserved c =
    let so : c.goes_on.result ≡ true = search rules in
    joined_more c.args.nodes.now c.args.last.now c.args.place c.loop-end.end c.loop-end.invariant (c.goes_on.ensures so)

pub returns-clause-joined : goal.returns-clause-joined
returns-clause-joined c = λ k low high. let past = c.loop-end-test.false in c.loop-end.invariant k low (omega arith)
