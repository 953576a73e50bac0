use Rattle.nemo_transform.proofs.GivenLaws.{order_faults, order_rows}
use Rattle.nemo_transform.proofs.laws.order_law.Goals as goal

pub returns : goal.returns
returns c = record { rows = order_rows; faults = order_faults }
