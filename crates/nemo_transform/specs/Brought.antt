-- What goes from vertex to vertex.
use Rattle.std.specs.Prelude.{ℕ, List, [], ◌∷◌, ◌++◌, map, slice_index_or}
use Rattle.std.specs.List.{flat_map}
use Rattle.nemo_value.specs.declared.expr.Kind.{Kind}
use Rattle.nemo_transform.specs.Gives.{Row, Answer, answers, rows_in, own_faults}
use Rattle.nemo_transform.specs.Ports.{PortKind, Main, Keyed, Side, kinds_of}
use Rattle.nemo_transform.specs.declared.fault.Fault.{Fault}
use Rattle.nemo_transform.specs.declared.transform.Transform.{Transform}
use Rattle.nemo_transform.specs.declared.transform.Transform.TheVariants.{Union}

-- a fault, with the name of the vertex where it arose
pub record Arisen (X : Type 0) : Type 0 where
  pub vertex : X
  pub kind : Kind
  pub rec : Row

-- what a port brings: rows, and the faults of all that they came through
pub record Brought (X : Type 0) : Type 0 where
  pub rows : List Row
  pub faults : List (Arisen X)

abbrev pub nothing : {X : Type 0} → Brought X
nothing = record { rows = []; faults = [] }

abbrev pub port : {X : Type 0} → List (Brought X) → ℕ → Brought X
port ports k = slice_index_or ports k nothing

abbrev pub all_rows : {X : Type 0} → List (Brought X) → List Row
all_rows ports = flat_map (λ f. f.rows) ports

abbrev pub all_faults : {X : Type 0} → List (Brought X) → List (Arisen X)
all_faults ports = flat_map (λ f. f.faults) ports

-- the rows of the first port, or of all ports of a union
abbrev pub first_rows : {X : Type 0} → Transform → List (Brought X) → List Row
first_rows (Union n) ports = all_rows ports
first_rows t ports = (port ports 0).rows

abbrev pub second_rows : {X : Type 0} → List (Brought X) → List Row
second_rows ports = (port ports 1).rows

-- the faults that Keyed and Side ports bring
abbrev pub blocking : {X : Type 0} → List PortKind → List (Brought X) → List (Arisen X)
blocking [] ports = []
blocking (k ∷ ks) [] = []
blocking (Main ∷ ks) (f ∷ ports) = blocking ks ports
blocking (Keyed ∷ ks) (f ∷ ports) = f.faults ++ blocking ks ports
blocking (Side ∷ ks) (f ∷ ports) = f.faults ++ blocking ks ports

abbrev pub arisen : {X : Type 0} → X → Fault → Arisen X
arisen x fault = record { vertex = x; kind = fault.kind; rec = fault.rec }

-- the answers with the faults that were passed on; where there are faults that block, these alone
abbrev pub brought_by : {X : Type 0} → X → List (Arisen X) → List (Arisen X) → List Answer → Brought X
brought_by x [] passed given = record { rows = rows_in given; faults = passed ++ map (arisen x) (own_faults given) }
brought_by x (b ∷ bs) passed given = record { rows = []; faults = passed }

-- what the vertex of a name gives on what its ports bring
abbrev pub at : {X : Type 0} → X → Transform → List (Brought X) → Brought X
at x t ports = brought_by x (blocking (kinds_of t) ports) (all_faults ports) (answers t (first_rows t ports) (second_rows ports))
