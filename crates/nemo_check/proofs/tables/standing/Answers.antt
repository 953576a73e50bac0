use Rattle.nemo_check.proofs.Numbered.{standing_next}
use Rattle.nemo_check.proofs.tables.standing.Goals as goal

pub loop-v-preserved : goal.loop-v-preserved
loop-v-preserved c = standing_next _ _ _ _ _ _ c.loop-v-test.true c.loop-v.invariant c.mark.ensures
