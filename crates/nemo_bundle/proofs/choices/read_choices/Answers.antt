use Rattle.std.proofs.Common.{rules}
use Rattle.serde_json.specs.View.{view}
use Rattle.nemo_bundle.proofs.Chosen.{chosen_with, ends_with, made_with}
use Rattle.nemo_bundle.proofs.choices.read_choices.Goals as goal

pub returns-in_err-settings-clause-choices : goal.returns-in_err-settings-clause-choices
returns-in_err-settings-clause-choices c =
    rw (chosen_with (view c.args.value.now) c.in_ok-cluster.cluster c.in_ok-parallelism.parallelism c.in_ok-policy.policy (search rules) (search rules) (search rules)) (search (rules, ends_with))

pub returns-clause-choices : goal.returns-clause-choices
returns-clause-choices c =
    rw (chosen_with (view c.args.value.now) c.in_ok-cluster.cluster c.in_ok-parallelism.parallelism c.in_ok-policy.policy (search rules) (search rules) (search rules)) (search (rules, made_with))
