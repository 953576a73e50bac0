-- The operations of a job, as they are gathered.
use Rattle.std.specs.Prelude.{List, [], ◌∷◌, map}
use Rattle.std.specs.List.{flat_map}
use Rattle.nemo_transform.specs.declared.transform.Transform.{Transform}
use Rattle.nemo_job.specs.declared.vertex.JobVertex.{JobVertex}
use Rattle.nemo_job.specs.declared.vertex.Work.{Work}
use Rattle.nemo_job.specs.declared.vertex.Work.TheFolds.{fold-Work, fold-JobVertex}
use Rattle.nemo_job.specs.declared.vertex.Work.TheOpen.{Work-F, JobVertex-F}

-- an operation's own, and those of a loop's body
abbrev pub work_step : Work-F (List Transform) (List Transform) → List Transform
work_step (Work-F.Op t) = t ∷ []
work_step (Work-F.Loop turns carry body next) = flat_map (λ ts. ts) body

abbrev pub vertex_step : JobVertex-F (List Transform) (List Transform) → List Transform
vertex_step v = v.work

abbrev pub work_operations : Work → List Transform
work_operations = fold-Work (List Transform) (List Transform) work_step vertex_step

abbrev pub vertex_operations : JobVertex → List Transform
vertex_operations = fold-JobVertex (List Transform) (List Transform) work_step vertex_step

abbrev pub all_operations : List JobVertex → List Transform
all_operations vs = flat_map (λ ts. ts) (map vertex_operations vs)
