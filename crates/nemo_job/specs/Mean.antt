-- What each vertex of a job gives, on whole inputs.
use Rattle.std.specs.Prelude.{ℕ, zero, suc, ◌+◌, List, [], ◌∷◌, ◌++◌, map, decimal, if◌then◌else◌}
use Rattle.nemo_value.specs.Along.{along}
use Rattle.nemo_value.specs.Texts.{same_text}
use Rattle.nemo_transform.specs.Brought.{Brought, port, at}
use Rattle.nemo_job.specs.declared.vertex.JobVertex.{JobVertex}
use Rattle.nemo_job.specs.declared.vertex.Ref.{Ref}
use Rattle.nemo_job.specs.declared.vertex.Work.{Work}
use Rattle.nemo_job.specs.declared.vertex.Work.TheFolds.{fold-Work, fold-JobVertex}
use Rattle.nemo_job.specs.declared.vertex.Work.TheOpen.{Work-F, JobVertex-F}

-- what a port brings, in which a vertex is named by its path
abbrev pub ByPath : Type 0
ByPath = Brought (List ℕ)

-- a vertex or a port of a loop by its name, with what each of its own ports gives
pub record Entry : Type 0 where
  pub name : List ℕ
  pub ports : List ByPath

-- what the first entry of a name gives
abbrev pub ports_at : List ℕ → List Entry → List ByPath
ports_at name [] = []
ports_at name (e ∷ es) = if same_text e.name name then e.ports else ports_at name es

-- what a reference names
abbrev pub look : List Entry → Ref → ByPath
look es r = port (ports_at r.name es) r.port

-- each vertex in list order, on the entries before it
abbrev pub run : List (List Entry → Entry) → List Entry → List Entry
run vs es = along (λ done v. v done) es vs

-- the ports of a turn under their names
abbrev pub carried : List ByPath → List (List ℕ) → List Entry
carried [] names = []
carried (f ∷ ports) [] = []
carried (f ∷ ports) (name ∷ names) = record { name = name; ports = f ∷ [] } ∷ carried ports names

-- the path of what stands in the body of a loop at one turn, as `l[2]/`
abbrev pub turn_path : List ℕ → ℕ → List ℕ
turn_path path i = path ++ 91 ∷ [] ++ decimal i ++ 93 ∷ 47 ∷ []

-- a vertex under the path of what it stands in
abbrev pub Vertex : Type 0
Vertex = List ℕ → List Entry → Entry

-- one turn of a loop
abbrev pub turn : List (List ℕ) → List Vertex → List Ref → List ℕ → List ByPath → List ByPath
turn carry body next path ports = map (look (run (map (λ v. v path) body) (carried ports carry))) next

-- n turns from turn i on
abbrev pub turns_from : {S : Type 0} → ℕ → ℕ → (ℕ → S → S) → S → S
turns_from i zero f s = s
turns_from i (suc n) f s = turns_from (i + 1) n f (f i s)

abbrev pub work_step : Work-F (List ℕ → List ByPath → List ByPath) Vertex → List ℕ → List ByPath → List ByPath
work_step (Work-F.Op t) path ports = at path t ports ∷ []
work_step (Work-F.Loop turns carry body next) path ports = turns_from 0 turns (λ i. turn carry body next (turn_path path i)) ports

abbrev pub vertex_step : JobVertex-F (List ℕ → List ByPath → List ByPath) Vertex → Vertex
vertex_step v path es = record { name = v.name; ports = v.work (path ++ v.name) (map (look es) v.inputs) }

-- what a work gives to each of its own ports, on its path and on what its ports bring
abbrev pub work_mean : Work → List ℕ → List ByPath → List ByPath
work_mean = fold-Work (List ℕ → List ByPath → List ByPath) Vertex work_step vertex_step

abbrev pub vertex_mean : JobVertex → Vertex
vertex_mean = fold-JobVertex (List ℕ → List ByPath → List ByPath) Vertex work_step vertex_step

-- the entries of a job's vertices
abbrev pub mean : List JobVertex → List Entry
mean vs = run (map (λ v. vertex_mean v []) vs) []
