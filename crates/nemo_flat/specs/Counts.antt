-- How many copies a job's vertices have.
use Rattle.std.specs.Prelude.{◌≡◌, ◌≤◌, ◌^◌, ◌-◌, ℕ, ◌*◌, List, map, min, sum}
use Rattle.nemo_flat.specs.declared.copies.FlattenRefused.{FlattenRefused}
use Rattle.nemo_flat.specs.declared.copies.FlattenRefused.TheVariants.{TooMany, NoMemory}
use Rattle.nemo_job.specs.declared.vertex.JobVertex.{JobVertex}
use Rattle.nemo_job.specs.declared.vertex.Work.{Work}
use Rattle.nemo_job.specs.declared.vertex.Work.TheFolds.{fold-Work, fold-JobVertex}
use Rattle.nemo_job.specs.declared.vertex.Work.TheOpen.{Work-F, JobVertex-F}

-- an operation has one, and a loop those of its body at each turn
abbrev pub work_step : Work-F ℕ ℕ → ℕ
work_step (Work-F.Op t) = 1
work_step (Work-F.Loop turns carry body next) = turns * sum body

abbrev pub vertex_step : JobVertex-F ℕ ℕ → ℕ
vertex_step v = v.work

abbrev pub work_copies : Work → ℕ
work_copies = fold-Work ℕ ℕ work_step vertex_step

abbrev pub vertex_copies : JobVertex → ℕ
vertex_copies = fold-JobVertex ℕ ℕ work_step vertex_step

abbrev pub copies : List JobVertex → ℕ
copies vs = sum (map vertex_copies vs)

-- there are more than 512, with their number, where one beyond 2^64-1 is given as that; or memory ran out
abbrev pub IsTooMany : ℕ → FlattenRefused → Type 0
IsTooMany n (TooMany count) = (513 ≤ n) × (count ≡ min n (2 ^ 64 - 1))
IsTooMany n NoMemory = Unit {0}
