-- From what a command does with a bundle to what bytes lead to.
use Rattle.std.proofs.Common.{◌≡◌, refl, sym, subst, ◌∙◌, ap, ℕ, List, [], ◌++◌, true, Result, Ok, Err}
use Rattle.std.specs.Result.{IsErrAnd}
use Rattle.serde_json.specs.Data.{Data}
use Rattle.nemo_bundle.specs.Answers.{Gives, Refusal, on_ok}
use Rattle.nemo_bundle.specs.Read.{bundle_of, job_in}
use Rattle.nemo_bundle.specs.declared.bundle.Bundle.{Bundle}
use Rattle.nemo_bundle.specs.declared.end.BundleEnd.{BundleEnd}
use Rattle.nemo_bundle.specs.declared.end.BundleEnd.TheVariants as bundle
use Rattle.nemo_check.specs.declared.checker.CheckEnd.{CheckEnd}
use Rattle.nemo_check.specs.declared.checker.CheckEnd.TheVariants as check
use Rattle.nemo_core.specs.declared.event.Event.{Event}
use Rattle.nemo_job.specs.Ends.{IsEndOf}
use Rattle.nemo_job.specs.Sinks.{job_faults, job_rows}
use Rattle.nemo_job.specs.declared.evaluate.JobEnd.{JobEnd}
use Rattle.nemo_job.specs.declared.evaluate.JobEnd.TheVariants as job
use Rattle.nemo_job.specs.declared.vertex.JobVertex.{JobVertex}
use Rattle.nemo_report.specs.Texts.{sinks_lines, text_of}
use Rattle.nemo_top.specs.Answers.{Leads}
use Rattle.nemo_top.specs.Bundles.{IsBundle, IsJson, bundle_for}
use Rattle.nemo_top.specs.Ends.{Ends, looks_at_dag}
use Rattle.nemo_top.specs.Reached.{IsDagEnd, IsParseEnd, Reaches, of_bundle, of_check, of_job, of_parse}
use Rattle.nemo_top.specs.Statuses.{Alone, last_lines, status_text}
use Rattle.nemo_top.specs.declared.parse.ParseEnd.{ParseEnd}
use Rattle.nemo_top.specs.declared.parse.ParseEnd.TheVariants as parse
use Rattle.nemo_top.specs.declared.reached.Reached.{Reached}
use Rattle.nemo_top.specs.declared.status.Status.{Status}
use Rattle.nemo_top.specs.declared.status.Status.TheVariants.{Done, Usage, ReadFault, WriteFault, NotJson, TooLong, BundleRefused, DagRefused, TransformFault, NoMemory}
use Rattle.nemo_top.specs.declared.word.Command.{Command}
use Rattle.nemo_top.specs.declared.word.Command.TheVariants.{Eval}

-- a status stands alone with its text
pub is_alone : (status : Status) → Alone status [] (status_text status)
is_alone status = record { without = refl; line = refl }

-- what an error that was passed on reaches
pub ends_in : (r : Result Reached Status) (P : Status → List Event → List ℕ → Type 0) (status : Status) → IsErrAnd r (λ s. s ≡ status) → P status [] (status_text status) → Reaches r P
ends_in (Ok reached) P status h p = absurd h
ends_in (Err s) P status h p = subst (λ x. P x [] (status_text x)) (sym h) p

---- a bundle

end_leads : (command : Command) (bytes : List ℕ) (b : Bundle) (status : Status) (log : List Event) (text : List ℕ) → IsBundle command bytes b → Ends command b status log text → Leads command bytes status log text
end_leads command bytes b Done log text is h = (b, is, h)
end_leads command bytes b (DagRefused clause index) log text is h = (b, is, h)
end_leads command bytes b (TransformFault name kind rec) log text is h = (b, is, h)
end_leads command bytes b NoMemory log text is h = h
end_leads command bytes b Usage log text is h = absurd h
end_leads command bytes b ReadFault log text is h = absurd h
end_leads command bytes b WriteFault log text is h = absurd h
end_leads command bytes b NotJson log text is h = absurd h
end_leads command bytes b TooLong log text is h = absurd h
end_leads command bytes b (BundleRefused code place) log text is h = absurd h

-- what a bundle leads to, its bytes lead to
pub ends_lead : (command : Command) (d : Data) (b : Bundle) (result : Result Reached Status) → bundle_for command d ≡ Ok b → Reaches result (Ends command b)
    → (bytes : List ℕ) → IsJson bytes d → Reaches result (Leads command bytes)
ends_lead command d b (Ok reached) is h bytes json = end_leads command bytes b reached.status reached.log _ (d, json, is) h
ends_lead command d b (Err status) is h bytes json = end_leads command bytes b status [] (status_text status) (d, json, is) h

---- no bundle

-- what is no bundle is refused
pub refused_leads : (command : Command) (d : Data) (end : BundleEnd) → Gives {X = Bundle} (Err end) (bundle_for command d) → (bytes : List ℕ) → IsJson bytes d → Leads command bytes (of_bundle end) [] (status_text (of_bundle end))
refused_leads command d (bundle.Refused code place) h bytes json = ((d, json, h), is_alone (BundleRefused code place))
refused_leads command d bundle.NoMemory h bytes json = is_alone NoMemory

-- nor is what is no JSON
pub no_value : (command : Command) (bytes : List ℕ) (end : ParseEnd) → IsParseEnd bytes end → Leads command bytes (of_parse end) [] (status_text (of_parse end))
no_value command bytes parse.NotJson h = (h, is_alone NotJson)
no_value command bytes parse.NoMemory h = is_alone NoMemory

---- no valid DAG

pub dag_ends : (command : Command) (b : Bundle) (end : CheckEnd) → looks_at_dag command ≡ true → IsDagEnd b end → Ends command b (of_check end) [] (status_text (of_check end))
dag_ends command b (check.Refused clause index) looks h = (looks, h, is_alone (DagRefused clause index))
dag_ends command b check.NoMemory looks h = is_alone NoMemory

---- the job alone

-- the job of a bundle that is there
bundle_under : (r : Result Bundle Refusal) (vs : List JobVertex) → on_ok r (λ b. Ok b.job) ≡ Ok vs → (b : Bundle) × (r ≡ Ok b) × (b.job ≡ vs)
bundle_under (Ok b) vs h = (b, refl, (cc))
bundle_under (Err r) vs h = cc

refused_under : (r : Result Bundle Refusal) (end : BundleEnd) → Gives {X = List JobVertex} (Err end) (on_ok r (λ b. Ok b.job)) → Gives {X = Bundle} (Err end) r
refused_under (Ok b) (bundle.Refused code place) h = cc
refused_under (Err r) (bundle.Refused code place) h = cc
refused_under r bundle.NoMemory h = tt

-- no job
pub no_job_leads : (d : Data) (end : BundleEnd) → Gives {X = List JobVertex} (Err end) (job_in d) → (bytes : List ℕ) → IsJson bytes d → Leads Eval bytes (of_bundle end) [] (status_text (of_bundle end))
no_job_leads d end h bytes json = refused_leads Eval d end (refused_under (bundle_of d) end h) bytes json

-- a job of which this holds
job_leads : (d : Data) (vs : List JobVertex) (status : Status) (log : List Event) (text : List ℕ) → job_in d ≡ Ok vs → ((b : Bundle) → b.job ≡ vs → Ends Eval b status log text)
    → (bytes : List ℕ) → IsJson bytes d → Leads Eval bytes status log text
job_leads d vs status log text is h bytes json =
    let b = bundle_under (bundle_of d) vs is in
    end_leads Eval bytes b.0 status log text (d, json, b.1) (h b.0 b.2)

faulty_ends : (b : Bundle) (end : JobEnd) → IsEndOf b.job end → Ends Eval b (of_job end) [] (status_text (of_job end))
faulty_ends b (job.Fault name kind rec) h = (h, is_alone (TransformFault name kind rec))
faulty_ends b job.NoMemory h = is_alone NoMemory

-- its first fault
pub fault_leads : (d : Data) (vs : List JobVertex) (end : JobEnd) → job_in d ≡ Ok vs → IsEndOf vs end → (bytes : List ℕ) → IsJson bytes d → Leads Eval bytes (of_job end) [] (status_text (of_job end))
fault_leads d vs end given h bytes json = job_leads d vs (of_job end) [] (status_text (of_job end)) given (λ b same. faulty_ends b end (subst (λ xs. IsEndOf xs end) (sym same) h)) bytes json

-- the rows of its sinks
pub rows_lead : (d : Data) (vs : List JobVertex) (text : List ℕ) → job_in d ≡ Ok vs → job_faults vs ≡ [] → text ≡ text_of (sinks_lines (job_rows vs) ++ last_lines Done)
    → (bytes : List ℕ) → IsJson bytes d → Leads Eval bytes Done [] text
rows_lead d vs text given faultless is bytes json =
    job_leads d vs Done [] text given (λ b same. ((ap job_faults same ∙ faultless, refl), is ∙ ap (λ xs. text_of (sinks_lines (job_rows xs) ++ last_lines Done)) (sym same))) bytes json

-- as they are reached
pub rows_done : (d : Data) (vs : List JobVertex) (status : Status) (log : List Event) (text : List ℕ) → status ≡ Done → log ≡ [] → job_in d ≡ Ok vs → job_faults vs ≡ [] → text ≡ text_of (sinks_lines (job_rows vs) ++ last_lines Done)
    → (bytes : List ℕ) → IsJson bytes d → Leads Eval bytes status log text
rows_done d vs status log text is empty given faultless same bytes json =
    subst (λ s. Leads Eval bytes s log text) (sym is) (subst (λ es. Leads Eval bytes Done es text) (sym empty) (rows_lead d vs text given faultless same bytes json))
