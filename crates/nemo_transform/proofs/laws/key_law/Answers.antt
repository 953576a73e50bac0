use Rattle.nemo_transform.proofs.GivenLaws.{key_faults, key_rows}
use Rattle.nemo_transform.proofs.laws.key_law.Goals as goal

pub returns : goal.returns
returns c = record { rows = key_rows; faults = key_faults }
