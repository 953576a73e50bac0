use Rattle.nemo_bundle.proofs.FittingSites.{listed_fit, listed_filled}
use Rattle.nemo_bundle.proofs.bundle.take_list.Goals as goal

pub returns-clause-fitting : goal.returns-clause-fitting
returns-clause-fitting c = rw c.coded.ensures (listed_fit c.read_vertices-vertices.result _ 0 _ c.read_vertices-vertices.ensures)

pub returns-clause-filled : goal.returns-clause-filled
returns-clause-filled c = rw c.coded.ensures (listed_filled c.read_vertices-vertices.result _ 0 _ c.read_vertices-vertices.ensures)
