-- The vertices of a job as they are counted: in list order, a loop before its body.
use Rattle.std.specs.Prelude.{ℕ, ◌+◌, List, [], ◌∷◌, ◌++◌, length, map, Option, Some, None}
use Rattle.nemo_transform.specs.declared.transform.Transform.{Transform}
use Rattle.nemo_job.specs.declared.vertex.JobVertex.{JobVertex}
use Rattle.nemo_job.specs.declared.vertex.Ref.{Ref}
use Rattle.nemo_job.specs.declared.vertex.Work.{Work}
use Rattle.nemo_job.specs.declared.vertex.Work.TheFolds.{fold-Work, fold-JobVertex}
use Rattle.nemo_job.specs.declared.vertex.Work.TheOpen.{Work-F, JobVertex-F}

-- what references see of a vertex, or of a port of a loop around them: its name, how many ports it has for them, and
-- its transform where it is an operation
pub record Face : Type 0 where
  pub name : List ℕ
  pub ports : ℕ
  pub transform : Option Transform

-- what a vertex does, with the faces of what stands in a body
pub data Doing : Type 0 where
  Does : Transform → Doing
  Loops : ℕ → List (List ℕ) → List Face → List Ref → Doing

-- a vertex where it stands: what stands before it in its list, the ports of the loop first; the vertex itself and what
-- comes after it; and how many loops are around it
pub record Site : Type 0 where
  pub before : List Face
  pub from : List Face
  pub depth : ℕ
  pub name : List ℕ
  pub inputs : List Ref
  pub doing : Doing

-- a vertex with the sites that it and its body have, on what stands before it, on what stands from it on, and on how
-- many loops are around it
pub record Standing : Type 0 where
  pub face : Face
  pub sites : List Face → List Face → ℕ → List Site

pub record Working : Type 0 where
  pub doing : Doing
  pub sites : ℕ → List Site

abbrev pub port_face : List ℕ → Face
port_face name = record { name = name; ports = 1; transform = None }

abbrev pub faces : List Standing → List Face
faces vs = map (λ v. v.face) vs

-- the sites of some vertices behind these
abbrev pub sites_after : List Face → ℕ → List Standing → List Site
sites_after before depth [] = []
sites_after before depth (v ∷ vs) = v.sites before (faces (v ∷ vs)) depth ++ sites_after (before ++ v.face ∷ []) depth vs

abbrev pub face_of : List ℕ → Doing → Face
face_of name (Does t) = record { name = name; ports = 1; transform = Some t }
face_of name (Loops turns carry body next) = record { name = name; ports = length carry; transform = None }

abbrev pub work_step : Work-F Working Standing → Working
work_step (Work-F.Op t) = record { doing = Does t; sites = λ depth. [] }
work_step (Work-F.Loop turns carry body next) = record { doing = Loops turns carry (faces body) next; sites = λ depth. sites_after (map port_face carry) (depth + 1) body }

abbrev pub stands : List ℕ → List Ref → Working → Standing
stands name inputs w = record {
  face = face_of name w.doing;
  sites = λ before from depth. record { before = before; from = from; depth = depth; name = name; inputs = inputs; doing = w.doing } ∷ w.sites depth;
}

abbrev pub vertex_step : JobVertex-F Working Standing → Standing
vertex_step v = stands v.name v.inputs v.work

abbrev pub working : Work → Working
working = fold-Work Working Standing work_step vertex_step

abbrev pub standing : JobVertex → Standing
standing = fold-JobVertex Working Standing work_step vertex_step

-- all vertices of a job
abbrev pub sites : List JobVertex → List Site
sites vs = sites_after [] 0 (map standing vs)
