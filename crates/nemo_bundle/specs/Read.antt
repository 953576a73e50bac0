-- The bundle that a JSON value stands for, or its refusal.
use Rattle.std.specs.Prelude.{Bool, nat_le, if◌then◌else◌, List, Option, Some, None, Result, Ok, Err, codes}
use Rattle.serde_json.specs.Data.{Data, Items}
use Rattle.serde_json.specs.Find.{get, as_array}
use Rattle.nemo_flat.specs.Counts.{copies}
use Rattle.nemo_flat.specs.Flattened.{flattened}
use Rattle.nemo_ir.specs.declared.flat.FlatVertex.{FlatVertex}
use Rattle.nemo_job.specs.Refusals.{refusal_of}
use Rattle.nemo_job.specs.declared.vertex.JobVertex.{JobVertex}
use Rattle.nemo_read.specs.Parts.{is_exactly, member_of, whole_of}
use Rattle.nemo_bundle.specs.Answers.{Refusal, on_ok, refused}
use Rattle.nemo_bundle.specs.Choices.{choices_of}
pub use Rattle.nemo_bundle.specs.Choices.{cluster_of}
use Rattle.nemo_bundle.specs.Dags.{at_code, dag_in}
use Rattle.nemo_bundle.specs.Scripts.{schedule_in, script_in}
use Rattle.nemo_bundle.specs.Vertices.{Walk, vertices_in}
use Rattle.nemo_bundle.specs.declared.bundle.Bundle.{Bundle}
use Rattle.nemo_bundle.specs.declared.bundle.Members.{Members}
use Rattle.nemo_bundle.specs.declared.end.Code.TheVariants.{Top, VertexShape, TooMany, Setting, ScriptLine, Step}

-- code 1: the value is no object, or `nemo` isn't 1
abbrev pub has_version : Data → Bool
has_version d = is_exactly 1 (member_of (codes "nemo") whole_of d)

-- code 2: `job` is absent or no array, or a vertex has not its form
abbrev pub walked : Walk (List JobVertex) → Result (List JobVertex) Refusal
walked (Ok w) = Ok w.made
walked (Err i) = Err (refused VertexShape i)

abbrev pub vertices_of : Option Items → Result (List JobVertex) Refusal
vertices_of (Some items) = walked (vertices_in items)
vertices_of None = Err (refused VertexShape 0)

abbrev pub job_of : Data → Result (List JobVertex) Refusal
job_of d = vertices_of (member_of (codes "job") as_array d)

-- codes 3 to 8: the vertices are no job
abbrev pub accepted : List JobVertex → Option Refusal → Result (List JobVertex) Refusal
accepted vs (Some r) = Err r
accepted vs None = Ok vs

-- code 9: more than 512 copies
abbrev pub counted : List JobVertex → Result (List JobVertex) Refusal
counted vs = if nat_le (copies vs) 512 then Ok vs else Err (refused TooMany (copies vs))

-- codes 10 to 15: the members beside the job, for a flat job of these vertices
abbrev pub members_of : Data → List FlatVertex → Result Members Refusal
members_of d flat =
    on_ok (at_code Setting (choices_of d)) (λ c. on_ok (at_code ScriptLine (script_in (cluster_of c.settings) (get (codes "script") d))) (λ script.
    on_ok (at_code Step (schedule_in (get (codes "schedule") d))) (λ schedule. on_ok (dag_in flat (get (codes "dag") d)) (λ dag.
    Ok (record { choices = c; script = script; schedule = schedule; dag = dag })))))

abbrev pub bundle_with : List JobVertex → Members → Bundle
bundle_with vs m = record {
  job = vs;
  flat = flattened vs;
  settings = m.choices.settings;
  parallelism = m.choices.parallelism;
  policy = m.choices.policy;
  dag = m.dag;
  script = m.script;
  schedule = m.schedule;
}

-- codes 1 to 8
abbrev pub accepted_job : Data → Result (List JobVertex) Refusal
accepted_job d = if has_version d then on_ok (job_of d) (λ vs. accepted vs (refusal_of vs)) else Err (refused Top 0)

-- codes 9 to 15: the bundle of this job
abbrev pub bundle_beside : Data → List JobVertex → Result Bundle Refusal
bundle_beside d vs = on_ok (counted vs) (λ _. on_ok (members_of d (flattened vs).vertices) (λ m. Ok (bundle_with vs m)))

-- the first code that fails
abbrev pub bundle_of : Data → Result Bundle Refusal
bundle_of d = on_ok (accepted_job d) (bundle_beside d)

-- its job
abbrev pub job_of_bundle : Result Bundle Refusal → Result (List JobVertex) Refusal
job_of_bundle r = on_ok r (λ b. Ok b.job)

abbrev pub job_beside : Data → List JobVertex → Result (List JobVertex) Refusal
job_beside d vs = job_of_bundle (bundle_beside d vs)

abbrev pub job_in : Data → Result (List JobVertex) Refusal
job_in d = job_of_bundle (bundle_of d)
