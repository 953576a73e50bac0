use Rattle.std.proofs.Common.{refl, sym, subst, []}
use Rattle.nemo_top.specs.Ends.{Ends}
use Rattle.nemo_top.specs.Statuses.{status_text}
use Rattle.nemo_top.specs.declared.word.Command.TheVariants.{Solo}
use Rattle.nemo_top.proofs.Leading.{dag_ends}
use Rattle.nemo_top.proofs.Running.{uniform_dag}
use Rattle.nemo_top.proofs.solo.run_bundle.Goals as goal

pub run_dag-requires-clause-uniform : goal.run_dag-requires-clause-uniform
run_dag-requires-clause-uniform c = uniform_dag c.args.bundle c.in-Ok.dag c.requires c.in-Ok.ensures.uniform

pub returns-in-Err : goal.returns-in-Err
returns-in-Err c = subst (λ s. Ends Solo c.args.bundle s [] (status_text s)) (sym c.from.ensures) (dag_ends Solo c.args.bundle c.in-Err.end refl c.in-Err.ensures.refused)
