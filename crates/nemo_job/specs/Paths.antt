-- The copies of a job's vertices in the order of evaluation, by their paths.
use Rattle.std.specs.Prelude.{ℕ, zero, suc, ◌+◌, List, [], ◌∷◌, ◌++◌}
use Rattle.std.specs.List.{flat_map}
use Rattle.nemo_job.specs.Mean.{turn_path}
use Rattle.nemo_job.specs.declared.vertex.JobVertex.{JobVertex}
use Rattle.nemo_job.specs.declared.vertex.Work.TheFolds.{fold-JobVertex}
use Rattle.nemo_job.specs.declared.vertex.Work.TheOpen.{Work-F, JobVertex-F}

-- what a body has at n turns from turn i on
abbrev pub each_turn : ℕ → ℕ → (ℕ → List (List ℕ)) → List (List ℕ)
each_turn i zero body = []
each_turn i (suc n) body = body i ++ each_turn (i + 1) n body

abbrev pub work_step : Work-F (List ℕ → List (List ℕ)) (List ℕ → List (List ℕ)) → List ℕ → List (List ℕ)
work_step (Work-F.Op t) path = path ∷ []
work_step (Work-F.Loop turns carry body next) path = each_turn 0 turns (λ i. flat_map (λ v. v (turn_path path i)) body)

abbrev pub vertex_step : JobVertex-F (List ℕ → List (List ℕ)) (List ℕ → List (List ℕ)) → List ℕ → List (List ℕ)
vertex_step v path = v.work (path ++ v.name)

abbrev pub vertex_paths : JobVertex → List ℕ → List (List ℕ)
vertex_paths = fold-JobVertex (List ℕ → List (List ℕ)) (List ℕ → List (List ℕ)) work_step vertex_step

abbrev pub paths : List JobVertex → List (List ℕ)
paths vs = flat_map (λ v. vertex_paths v []) vs
