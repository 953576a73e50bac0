-- What stands beside the job stays when the job is taken.
use Rattle.std.proofs.Common.{◌≡◌, ◌∙◌, refl, sym, ap, subst, ℕ, List, bytes_eq, false, true≢false, codes, Result, Ok}
use Rattle.std.proofs.lemmas.Slice.Eq.{bytes_eq-Decides}
use Rattle.serde_json.specs.Data.{Data}
use Rattle.serde_json.specs.Find.{get}
use Rattle.nemo_flat.specs.Flattened.{flattened}
use Rattle.nemo_ir.specs.declared.flat.FlatVertex.{FlatVertex}
use Rattle.nemo_job.specs.declared.vertex.JobVertex.{JobVertex}
use Rattle.nemo_read.specs.Parts.{KeepsOthers}
use Rattle.nemo_bundle.specs.Answers.{Gives, on_ok}
use Rattle.nemo_bundle.specs.Read.{accepted_job, bundle_beside, bundle_of, bundle_with, counted, job_beside, job_in, job_of_bundle, members_of}
use Rattle.nemo_bundle.specs.declared.bundle.Bundle.{Bundle}
use Rattle.nemo_bundle.specs.declared.end.BundleEnd.{BundleEnd}

module _ (d e : Data) (kept : KeepsOthers (codes "job") d e) where
  beside : (k : List ℕ) → bytes_eq k (codes "job") ≡ false → get k e ≡ get k d
  beside k apart = kept k (λ same. true≢false (sym ((bytes_eq-Decides k (codes "job")).1 same) ∙ apart))

  members_kept : (flat : List FlatVertex) → members_of e flat ≡ members_of d flat
  members_kept flat =
      rw (beside (codes "cluster") refl, beside (codes "parallelism") refl, beside (codes "policy") refl, beside (codes "settings") refl, beside (codes "script") refl, beside (codes "schedule") refl, beside (codes "dag") refl) refl

  bundle_read : (vs : List JobVertex) → accepted_job d ≡ Ok vs → bundle_beside e vs ≡ bundle_of d
  bundle_read vs h = ap (λ r. on_ok (counted vs) (λ _. on_ok r (λ m. Ok (bundle_with vs m)))) (members_kept (flattened vs).vertices) ∙ sym (ap (λ r. on_ok r (bundle_beside d)) h)

  pub dag_kept : get (codes "dag") e ≡ get (codes "dag") d
  dag_kept = beside (codes "dag") refl

  -- what the members beside a job give with it, the whole gives
  pub bundle_gives : (vs : List JobVertex) (r : Result Bundle BundleEnd) → accepted_job d ≡ Ok vs → Gives r (bundle_beside e vs) → Gives r (bundle_of d)
  bundle_gives vs r h = subst (Gives r) (bundle_read vs h)

  pub job_gives : (vs : List JobVertex) (r : Result (List JobVertex) BundleEnd) → accepted_job d ≡ Ok vs → Gives r (job_beside e vs) → Gives r (job_in d)
  job_gives vs r h = subst (Gives r) (ap job_of_bundle (bundle_read vs h))
