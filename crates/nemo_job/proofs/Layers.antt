-- What the folds over a job say of a vertex, an operation and a loop.
use Rattle.std.proofs.Common.{rules, ◌≡◌, ℕ, ◌+◌, List, [], ◌∷◌, ◌++◌, map}
use Rattle.std.specs.List.{flat_map}
use Rattle.nemo_transform.specs.declared.transform.Transform.{Transform}
use Rattle.nemo_job.specs.Mean as mean
use Rattle.nemo_job.specs.Mean.{ByPath, Entry, look, turn_path, turns_from, vertex_mean, work_mean}
use Rattle.nemo_job.specs.Paths.{each_turn, vertex_paths}
use Rattle.nemo_job.specs.Sites.{Does, Loops, faces, port_face, sites_after, standing, stands, working}
use Rattle.nemo_job.specs.Unrolled as unrolled
use Rattle.nemo_job.specs.Unrolled.{Fed, Scope, bind, copied, fed_by, unroll_vertex, unroll_work}
use Rattle.nemo_job.specs.declared.vertex.JobVertex.{JobVertex}
use Rattle.nemo_job.specs.declared.vertex.Ref.{Ref}
use Rattle.nemo_job.specs.declared.vertex.Work.{Work, the_lemmas}
use Rattle.nemo_job.specs.declared.vertex.Work.TheVariants.{Op, Loop}

---- what it means (of a vertex and an operation it stands with the lookups)

pub loop_mean : (turns : ℕ) (carry : List (List ℕ)) (body : List JobVertex) (next : List Ref) (path : List ℕ) (ports : List ByPath)
    → work_mean (Loop turns carry body next) path ports ≡ turns_from 0 turns (λ i. mean.turn carry (map vertex_mean body) next (turn_path path i)) ports
loop_mean turns carry body next path ports = search (rules, the_lemmas)

---- its copies

pub vertex_unrolled : (v : JobVertex) (path : List ℕ) (s : Scope) → unroll_vertex v path s ≡ bind s.names v.name (unroll_work v.work (path ++ v.name) (fed_by v.inputs s))
vertex_unrolled v path s = search (rules, the_lemmas)

pub op_unrolled : (t : Transform) (path : List ℕ) (f : Fed) → unroll_work (Op t) path f ≡ copied path t f
op_unrolled t path f = search (rules, the_lemmas)

pub loop_unrolled : (turns : ℕ) (carry : List (List ℕ)) (body : List JobVertex) (next : List Ref) (path : List ℕ) (f : Fed)
    → unroll_work (Loop turns carry body next) path f ≡ turns_from 0 turns (λ i. unrolled.turn f.copies.next carry (map unroll_vertex body) next (turn_path path i)) f
loop_unrolled turns carry body next path f = search (rules, the_lemmas)

---- their paths

-- the paths of a work that stands at a path
abbrev pub work_paths : Work → List ℕ → List (List ℕ)
work_paths w path = vertex_paths (record { name = path; work = w; inputs = [] }) []

pub vertex_path : (v : JobVertex) (path : List ℕ) → vertex_paths v path ≡ work_paths v.work (path ++ v.name)
vertex_path v path = search (rules, the_lemmas)

pub op_path : (t : Transform) (path : List ℕ) → work_paths (Op t) path ≡ path ∷ []
op_path t path = search (rules, the_lemmas)

pub loop_paths : (turns : ℕ) (carry : List (List ℕ)) (body : List JobVertex) (next : List Ref) (path : List ℕ)
    → work_paths (Loop turns carry body next) path ≡ each_turn 0 turns (λ i. flat_map (λ v. v (turn_path path i)) (map vertex_paths body))
loop_paths turns carry body next path = search (rules, the_lemmas)

---- where it stands

pub vertex_stands : (v : JobVertex) → standing v ≡ stands v.name v.inputs (working v.work)
vertex_stands v = search (rules, the_lemmas)

pub op_works : (t : Transform) → working (Op t) ≡ record { doing = Does t; sites = λ depth. [] }
op_works t = search (rules, the_lemmas)

pub loop_works : (turns : ℕ) (carry : List (List ℕ)) (body : List JobVertex) (next : List Ref)
    → working (Loop turns carry body next) ≡ record { doing = Loops turns carry (faces (map standing body)) next; sites = λ depth. sites_after (map port_face carry) (depth + 1) (map standing body) }
loop_works turns carry body next = search (rules, the_lemmas)
