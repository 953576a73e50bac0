use Rattle.nemo_laws.proofs.Recomputing.{recomputation}
use Rattle.nemo_laws.proofs.recomputation.recomputation_law.Goals as goal

pub returns : goal.returns
returns c = recomputation
