-- Induction over the vertices of a job and the bodies of its loops.
use Rattle.std.proofs.Common.{◌≡◌, subst, ℕ, List, [], ◌∷◌, map}
use Rattle.nemo_transform.specs.declared.transform.Transform.{Transform}
use Rattle.nemo_job.specs.declared.vertex.JobVertex.{JobVertex}
use Rattle.nemo_job.specs.declared.vertex.Ref.{Ref}
use Rattle.nemo_job.specs.declared.vertex.Work.{Work}
use Rattle.nemo_job.specs.declared.vertex.Work.TheVariants.{Op, Loop, rolls-Op, rolls-Loop}
use Rattle.nemo_job.specs.declared.vertex.Work.TheOpen.{Work-F, JobVertex-F}
use Rattle.nemo_job.specs.declared.vertex.Work.TheFolds.{ind-Work, ind-JobVertex, map-Work, map-JobVertex}
use Rattle.nemo_job.specs.declared.vertex.Work.TheViews.{roll-Work, roll-JobVertex}

-- each of some vertices is so
abbrev pub Each : (JobVertex → Type 0) → List JobVertex → Type 0
Each Q [] = Unit {0}
Each Q (v ∷ vs) = Q v × Each Q vs

module _ (P : Work → Type 0) (Q : JobVertex → Type 0)
    (op : (t : Transform) → P (Op t))
    (loop : (turns : ℕ) (carry : List (List ℕ)) (body : List JobVertex) (next : List Ref) → Each Q body → P (Loop turns carry body next))
    (vertex : (v : JobVertex) → P v.work → Q v) where
  gathered : (body : List ((v : JobVertex) × Q v)) → Each Q (map (λ e. e.0) body)
  gathered [] = tt
  gathered (e ∷ body) = (e.1, gathered body)

  on_work : (x : Work-F Work JobVertex) (y : Work-F ((w : Work) × P w) ((v : JobVertex) × Q v))
      → map-Work ((w : Work) × P w) ((v : JobVertex) × Q v) Work JobVertex (λ e. e.0) (λ e. e.0) y ≡ x → P (roll-Work x)
  unfolding roll-Work denote.Hole.Carrier.roll
  on_work x (Work-F.Op t) is = subst (λ z. P (roll-Work z)) is (subst P (rolls-Op t) (op t))
  on_work x (Work-F.Loop turns carry body next) is =
      subst (λ z. P (roll-Work z)) is (subst P (rolls-Loop turns carry (map (λ e. e.0) body) next) (loop turns carry (map (λ e. e.0) body) next (gathered body)))

  on_vertex : (x : JobVertex-F Work JobVertex) (y : JobVertex-F ((w : Work) × P w) ((v : JobVertex) × Q v))
      → map-JobVertex ((w : Work) × P w) ((v : JobVertex) × Q v) Work JobVertex (λ e. e.0) (λ e. e.0) y ≡ x → Q (roll-JobVertex x)
  on_vertex x y is = vertex (roll-JobVertex x) (subst (λ z. P z.work) is y.work.1)

  pub each_work : (w : Work) → P w
  each_work = ind-Work P Q on_work on_vertex

  pub each_vertex : (v : JobVertex) → Q v
  each_vertex = ind-JobVertex P Q on_work on_vertex

  pub each_one : (vs : List JobVertex) → Each Q vs
  each_one [] = tt
  each_one (v ∷ vs) = (each_vertex v, each_one vs)
