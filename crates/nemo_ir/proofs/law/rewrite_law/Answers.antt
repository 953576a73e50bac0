use Rattle.nemo_ir.proofs.Computing.{computes}
use Rattle.nemo_ir.proofs.LocalParts.{parts_local}
use Rattle.nemo_ir.proofs.ValidNodes.{valid_wired}
use Rattle.nemo_ir.proofs.law.rewrite_law.Goals as goal

pub returns-clause-computes : goal.returns-clause-computes
returns-clause-computes c = λ flat dag kept valid. computes flat dag kept valid (valid_wired flat dag valid)

pub returns-clause-local : goal.returns-clause-local
returns-clause-local c = parts_local
