-- A job without its loops: the copies of its vertices in the order of evaluation, a loop's turn by turn.
use Rattle.std.specs.Prelude.{ℕ, ◌+◌, List, [], ◌∷◌, ◌++◌, length, map, slice_get, slice_index_or, unwrap_or, Option, Some, None, if◌then◌else◌}
use Rattle.nemo_value.specs.Texts.{same_text}
use Rattle.nemo_transform.specs.declared.transform.Transform.{Transform}
use Rattle.nemo_job.specs.ByPlace.{Placed}
use Rattle.nemo_job.specs.Mean.{turn_path, turns_from}
use Rattle.nemo_job.specs.declared.vertex.JobVertex.{JobVertex}
use Rattle.nemo_job.specs.declared.vertex.Ref.{Ref}
use Rattle.nemo_job.specs.declared.vertex.Work.{Work}
use Rattle.nemo_job.specs.declared.vertex.Work.TheFolds.{fold-Work, fold-JobVertex}
use Rattle.nemo_job.specs.declared.vertex.Work.TheOpen.{Work-F, JobVertex-F}

-- an operation in one turn of each loop around it: its path, its number among the operations of the job, its
-- transform, and the places of the copies that its ports take
pub record Copy : Type 0 where
  pub path : List ℕ
  pub number : ℕ
  pub transform : Transform
  pub inputs : List ℕ

-- the copies so far, and the number of the next operation
pub record Copies : Type 0 where
  pub made : List Copy
  pub next : ℕ

-- for each port the place of the copy that it takes; a reference that names nothing takes none
abbrev pub Ports : Type 0
Ports = List (Option ℕ)

-- a vertex or a port of a loop by its name, with the copies that each of its own ports stands for
pub record Bound : Type 0 where
  pub name : List ℕ
  pub ports : Ports

-- the ports of the first of a name
abbrev pub ports_of : List ℕ → List Bound → Ports
ports_of name [] = []
ports_of name (b ∷ names) = if same_text b.name name then b.ports else ports_of name names

-- the copy that a reference names
abbrev pub source_of : List Bound → Ref → Option ℕ
source_of names r = slice_index_or (ports_of r.name names) r.port None

-- the copies, with some ports
pub record Fed : Type 0 where
  pub copies : Copies
  pub ports : Ports

-- the copies, with the names that stand in a list so far
pub record Scope : Type 0 where
  pub copies : Copies
  pub names : List Bound

-- what these references name
abbrev pub fed_by : List Ref → Scope → Fed
fed_by refs s = record { copies = s.copies; ports = map (source_of s.names) refs }

-- one name more
abbrev pub bind : List Bound → List ℕ → Fed → Scope
bind names name f = record { copies = f.copies; names = names ++ record { name = name; ports = f.ports } ∷ [] }

-- the ports of a turn under their names
abbrev pub bound : Ports → List (List ℕ) → List Bound
bound [] carry = []
bound (p ∷ ports) [] = []
bound (p ∷ ports) (name ∷ carry) = record { name = name; ports = p ∷ [] } ∷ bound ports carry

-- each vertex in list order
abbrev pub each : List (Scope → Scope) → Scope → Scope
each [] s = s
each (v ∷ vs) s = each vs (v s)

-- one copy more; a port that takes none has the copy's own place, where there is nothing yet
abbrev pub copied : List ℕ → Transform → Fed → Fed
copied path t f = record {
  copies = record {
    made = f.copies.made ++ record { path = path; number = f.copies.next; transform = t; inputs = map (λ p. unwrap_or p (length f.copies.made)) f.ports } ∷ [];
    next = f.copies.next + 1;
  };
  ports = Some (length f.copies.made) ∷ [];
}

-- a vertex under the path of what it stands in
abbrev pub Vertex : Type 0
Vertex = List ℕ → Scope → Scope

-- one turn of a loop whose first operation has this number
abbrev pub turn : ℕ → List (List ℕ) → List Vertex → List Ref → List ℕ → Fed → Fed
turn first carry body next path f = fed_by next (each (map (λ v. v path) body) (record { copies = record { made = f.copies.made; next = first }; names = bound f.ports carry }))

abbrev pub work_step : Work-F (List ℕ → Fed → Fed) Vertex → List ℕ → Fed → Fed
work_step (Work-F.Op t) path f = copied path t f
work_step (Work-F.Loop turns carry body next) path f = turns_from 0 turns (λ i. turn f.copies.next carry body next (turn_path path i)) f

abbrev pub vertex_step : JobVertex-F (List ℕ → Fed → Fed) Vertex → Vertex
vertex_step v path s = bind s.names v.name (v.work (path ++ v.name) (fed_by v.inputs s))

abbrev pub unroll_work : Work → List ℕ → Fed → Fed
unroll_work = fold-Work (List ℕ → Fed → Fed) Vertex work_step vertex_step

abbrev pub unroll_vertex : JobVertex → Vertex
unroll_vertex = fold-JobVertex (List ℕ → Fed → Fed) Vertex work_step vertex_step

-- vertices under a path
abbrev pub unroll_all : List JobVertex → List ℕ → Scope → Scope
unroll_all vs path s = each (map (λ v. unroll_vertex v path) vs) s

-- before the first vertex
abbrev pub at_start : Scope
at_start = record { copies = record { made = []; next = 0 }; names = [] }

-- the copies of a job's vertices
abbrev pub unrolled : List JobVertex → List Copy
unrolled vs = (unroll_all vs [] at_start).copies.made

abbrev pub placed_copy : Copy → Placed
placed_copy c = record { transform = c.transform; inputs = c.inputs }

-- the copies as vertices by their places
abbrev pub placed_copies : List JobVertex → List Placed
placed_copies vs = map placed_copy (unrolled vs)

abbrev pub path_or : Option Copy → List ℕ
path_or (Some c) = c.path
path_or None = []

-- the path of the copy of a place
abbrev pub path_in : List Copy → ℕ → List ℕ
path_in copies place = path_or (slice_get copies place)

abbrev pub path_at : List JobVertex → ℕ → List ℕ
path_at vs place = path_in (unrolled vs) place
