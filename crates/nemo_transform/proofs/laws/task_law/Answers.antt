use Rattle.nemo_transform.proofs.TaskLaws.{task_all, task_main}
use Rattle.nemo_transform.proofs.laws.task_law.Goals as goal

pub returns : goal.returns
returns c = record {
  main = task_main;
  all = λ name tasks n x t gots wholes source some meet low. task_all name n tasks x some low t meet gots wholes source;
}
