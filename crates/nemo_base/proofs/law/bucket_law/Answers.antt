use Rattle.nemo_base.proofs.BucketTasks.{one_task}
use Rattle.nemo_base.proofs.law.bucket_law.Goals as goal

pub returns : goal.returns
returns c = one_task 0 0
