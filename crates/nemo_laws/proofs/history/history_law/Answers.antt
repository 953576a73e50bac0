use Rattle.nemo_laws.proofs.Histories.{history}
use Rattle.nemo_laws.proofs.history.history_law.Goals as goal

pub returns : goal.returns
returns c = history
