use Rattle.nemo_transform.proofs.GroupSteps.{given_more, faults_more}
use Rattle.nemo_transform.proofs.grouping.rows_of.Goals as goal

pub loop-entry-preserved : goal.loop-entry-preserved
loop-entry-preserved c = record {
  given = given_more c.args.entries.now c.loop-entry.entry-index c.entry-item.result c.loop-entry-test.true c.entry-item.is c.loop-entry.given _ c.in_ok-push_answer.ensures.rows c.loop-entry.invariant.given;
  faults = faults_more c.args.entries.now c.loop-entry.entry-index c.entry-item.result c.loop-entry-test.true c.entry-item.is c.args.faults.now.items c.loop-entry.faults.items _ c.in_ok-push_answer.ensures.faults c.loop-entry.invariant.faults;
}
