use Rattle.std.proofs.Common.{arith, ◌+◌, length}
use Rattle.nemo_value.proofs.Perm.{to_std}
use Rattle.nemo_value.proofs.Split.{split}
use Rattle.nemo_ir.specs.Part.{task_of}
use Rattle.nemo_ir.proofs.Dealing.{dealt_from, row_within}
use Rattle.nemo_ir.proofs.law.split_law.Goals as goal

pub returns-clause-hashed : goal.returns-clause-hashed
returns-clause-hashed c = λ cuts rows. to_std (split (task_of cuts) (length cuts + 1) rows (λ r m. row_within cuts (length cuts + 1) (omega arith) r))

pub returns-clause-dealt : goal.returns-clause-dealt
returns-clause-dealt c = λ n first rows some. to_std (dealt_from n first rows some)
