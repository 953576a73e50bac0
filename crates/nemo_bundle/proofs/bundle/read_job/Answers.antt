use Rattle.serde_json.specs.View.{view}
use Rattle.nemo_bundle.proofs.Beside.{job_gives}
use Rattle.nemo_bundle.proofs.bundle.read_job.Goals as goal

pub returns : goal.returns
returns c = record { job = job_gives (view c.args.value) (view c.accepted_job.new.value) c.in_ok-job.ensures.others c.in_ok-job.job c.job_beside.result c.in_ok-job.ensures.job c.job_beside.ensures }
