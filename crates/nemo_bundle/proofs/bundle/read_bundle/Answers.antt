use Rattle.serde_json.specs.View.{view}
use Rattle.nemo_bundle.proofs.Beside.{bundle_gives}
use Rattle.nemo_bundle.proofs.bundle.read_bundle.Goals as goal

pub returns-clause-bundle : goal.returns-clause-bundle
returns-clause-bundle c = bundle_gives (view c.args.value) (view c.accepted_job.new.value) c.in_ok-job.ensures.others c.in_ok-job.job c.bundle_beside.result c.in_ok-job.ensures.job c.bundle_beside.ensures.bundle
