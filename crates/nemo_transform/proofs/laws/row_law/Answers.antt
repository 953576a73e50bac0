use Rattle.nemo_transform.proofs.GivenLaws.{row_faults, row_rows}
use Rattle.nemo_transform.proofs.laws.row_law.Goals as goal

pub returns : goal.returns
returns c = record { rows = row_rows; faults = row_faults }
