-- Why a job has no rows.
use Rattle.std.specs.Prelude.{◌≡◌, ℕ, List, Some, slice_get}
use Rattle.nemo_transform.specs.Brought.{Arisen}
use Rattle.nemo_job.specs.Sinks.{job_faults}
use Rattle.nemo_job.specs.Unrolled.{path_at}
use Rattle.nemo_job.specs.declared.evaluate.JobEnd.{JobEnd}
use Rattle.nemo_job.specs.declared.evaluate.JobEnd.TheVariants.{Fault, NoMemory}
use Rattle.nemo_job.specs.declared.vertex.JobVertex.{JobVertex}

-- it is the first fault of the job, or memory ran out
abbrev pub IsEndOf : List JobVertex → JobEnd → Type 0
IsEndOf vs (Fault name kind rec) = slice_get (job_faults vs) 0 ≡ Some (record { vertex = name; kind = kind; rec = rec })
IsEndOf vs NoMemory = Unit {0}

-- a fault with the path of the copy of its place
abbrev pub by_path : List JobVertex → Arisen ℕ → Arisen (List ℕ)
by_path vs a = record { vertex = path_at vs a.vertex; kind = a.kind; rec = a.rec }

abbrev pub fault_end : Arisen (List ℕ) → JobEnd
fault_end a = Fault a.vertex a.kind a.rec
