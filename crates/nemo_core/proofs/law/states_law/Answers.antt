use Rattle.nemo_core.proofs.Keeping.{states}
use Rattle.nemo_core.proofs.law.states_law.Goals as goal

pub returns : goal.returns
returns c = states
