-- How the nodes of a valid DAG are wired.
use Rattle.std.proofs.Common.{◌≡◌, ◌<◌, ◌≤◌, ℕ, List, [], ◌∷◌, slice_get, Some, true}
use Rattle.nemo_transform.specs.declared.shape.PortKind.{PortKind}
use Rattle.nemo_ir.specs.Nodes.{Feed, Node, kinds_in}
use Rattle.nemo_ir.specs.Valid.{is_one_to_one, takes}

-- an in-edge of vertex v serves a port of this kind
pub record Serves (ns : List Node) (v : ℕ) (node : Node) (k : PortKind) (f : Feed) : Type 0 where
  pub low : f.from < v
  pub taken : takes k f.pattern ≡ true
  pub from : Node
  pub there : slice_get ns f.from ≡ Some from
  pub level : is_one_to_one f.pattern ≡ true → from.parallelism ≡ node.parallelism

-- each port has one that serves it
abbrev pub AllServe : List Node → ℕ → Node → List PortKind → List Feed → Type 0
AllServe ns v node [] [] = Unit {0}
AllServe ns v node (k ∷ ks) (f ∷ fs) = Serves ns v node k f × AllServe ns v node ks fs
AllServe ns v node _ _ = ⊥

pub record IsWired (ns : List Node) (v : ℕ) (node : Node) : Type 0 where
  pub serves : AllServe ns v node (kinds_in node.deed) node.feeds
  pub some : 1 ≤ node.parallelism
