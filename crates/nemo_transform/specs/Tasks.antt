-- What the tasks of a vertex get, and when they stand for the vertex on whole rows.
use Rattle.std.specs.Prelude.{ℕ, suc, List, [], ◌∷◌, map}
use Rattle.std.specs.List.{flat_map}
use Rattle.std.specs.List.Sorted.{IsPermutation}
use Rattle.nemo_value.specs.Counted.{below}
use Rattle.nemo_value.specs.Members.{SameMembers}
use Rattle.nemo_transform.specs.Brought.{Arisen, Brought}
use Rattle.nemo_transform.specs.Gives.{Row}
use Rattle.nemo_transform.specs.Laws.{share}
use Rattle.nemo_transform.specs.Ports.{PortKind, Main, Keyed, Side}

-- what goes from vertex to vertex, in which a vertex is named by a number
abbrev pub Numbered : Type 0
Numbered = Brought ℕ

abbrev pub renamed : (ℕ → ℕ) → Arisen ℕ → Arisen ℕ
renamed name a = record { vertex = name a.vertex; kind = a.kind; rec = a.rec }

-- the rows of n tasks are together the whole's, up to order, and so are their faults, under other names
pub record IsParted (name : ℕ → ℕ) (n : ℕ) (got : ℕ → Numbered) (whole : Numbered) : Type 0 where
  pub rows : IsPermutation (flat_map (λ i. (got i).rows) (below n)) whole.rows
  pub faults : SameMembers (flat_map (λ i. (got i).faults) (below n)) (map (renamed name) whole.faults)

-- each task gets the rows that go to it, and all faults
pub record IsShared (name : ℕ → ℕ) (task : Row → ℕ) (got : ℕ → Numbered) (whole : Numbered) : Type 0 where
  pub rows : (i : ℕ) → IsPermutation (got i).rows (share task i whole.rows)
  pub faults : (i : ℕ) → SameMembers (got i).faults (map (renamed name) whole.faults)

-- each task gets all
pub record IsWhole (name : ℕ → ℕ) (got : ℕ → Numbered) (whole : Numbered) : Type 0 where
  pub rows : (i : ℕ) → IsPermutation (got i).rows whole.rows
  pub faults : (i : ℕ) → SameMembers (got i).faults (map (renamed name) whole.faults)

-- a port of each kind brings its rows so
abbrev pub IsBrought : (ℕ → ℕ) → (Row → ℕ) → ℕ → PortKind → (ℕ → Numbered) → Numbered → Type 0
IsBrought name task n Main got whole = IsParted name n got whole
IsBrought name task n Keyed got whole = IsShared name task got whole
IsBrought name task n Side got whole = IsWhole name got whole

-- all ports do; each has its own assignment of rows to tasks, by the port's number
abbrev pub AllBrought : (ℕ → ℕ) → (ℕ → Row → ℕ) → ℕ → List PortKind → List (ℕ → Numbered) → List Numbered → Type 0
AllBrought name tasks n [] [] [] = Unit {0}
AllBrought name tasks n (k ∷ ks) (got ∷ gots) (w ∷ ws) = IsBrought name (tasks 0) n k got w × AllBrought name (λ p. tasks (suc p)) n ks gots ws
AllBrought name tasks n _ _ _ = ⊥

-- the same along Main ports alone
abbrev pub AllParted : (ℕ → ℕ) → ℕ → List (ℕ → Numbered) → List Numbered → Type 0
AllParted name n [] [] = Unit {0}
AllParted name n (got ∷ gots) (w ∷ ws) = IsParted name n got w × AllParted name n gots ws
AllParted name n _ _ = ⊥

-- what each port brings to a task
abbrev pub at_task : List (ℕ → Numbered) → ℕ → List Numbered
at_task gots i = map (λ got. got i) gots
