-- The nine clauses of a valid DAG, place by place, and its first failure.
use Rattle.std.specs.Prelude.{◌≡◌, ◌⊎◌, ◌<◌, ℕ, ◌+◌, ◌==◌, ◌&&◌, ◌||◌, Bool, true, false, not, IsTrue, nat_le, nat_lt, List, [], ◌∷◌, length, map, filter, count_by, slice_get, Option, Some, None}
use Rattle.std.specs.List.{list_all, list_any}
use Rattle.nemo_base.specs.declared.annotation.Pattern.{Pattern}
use Rattle.nemo_base.specs.declared.annotation.Pattern.TheVariants.{OneToOne, Broadcast, Hash, Spread}
use Rattle.nemo_transform.specs.declared.shape.PortKind.{PortKind}
use Rattle.nemo_transform.specs.declared.shape.PortKind.TheVariants.{Main, Keyed, Side}
use Rattle.nemo_ir.specs.Along.{below, passes}
use Rattle.nemo_ir.specs.Flat.{FlatForm, transform_of}
use Rattle.nemo_ir.specs.Nodes.{Node, nodes, deed_of, deed_or, kinds_in, is_utility, resolve, rep_of}
pub use Rattle.nemo_ir.specs.declared.clause.Clause.{Clause}
pub use Rattle.nemo_ir.specs.declared.clause.Clause.TheVariants.{V1, V2, V3, V4, V5, V6, V7, V8, V9}
use Rattle.nemo_ir.specs.declared.dag.IrDag.{IrDag}
use Rattle.nemo_ir.specs.declared.dag.IrEdge.{IrEdge}
use Rattle.nemo_ir.specs.declared.dag.IrVertex.{IrVertex}
use Rattle.nemo_ir.specs.declared.dag.VertexKind.{VertexKind}
use Rattle.nemo_ir.specs.declared.dag.VertexKind.TheVariants.{Trigger}
use Rattle.nemo_ir.specs.declared.flat.FlatVertex.{FlatVertex}

abbrev pub number_of : Clause → ℕ
number_of V1 = 1
number_of V2 = 2
number_of V3 = 3
number_of V4 = 4
number_of V5 = 5
number_of V6 = 6
number_of V7 = 7
number_of V8 = 8
number_of V9 = 9

abbrev pub clauses : List Clause
clauses = V1 ∷ V2 ∷ V3 ∷ V4 ∷ V5 ∷ V6 ∷ V7 ∷ V8 ∷ V9 ∷ []

-- how many places a clause looks at: edges, vertices, or flat vertices and one more
abbrev pub places : FlatForm → IrDag → Clause → ℕ
places flat dag V1 = length dag.edges
places flat dag V2 = length dag.vertices
places flat dag V3 = length dag.vertices
places flat dag V4 = length flat.vertices + 1
places flat dag V5 = length dag.vertices
places flat dag V6 = length dag.edges
places flat dag V7 = length dag.edges
places flat dag V8 = length dag.edges
places flat dag V9 = length dag.vertices

-- V1: the edge leads to a later vertex
abbrev pub rises : IrDag → IrEdge → Bool
rises dag e = nat_lt e.from e.to && nat_lt e.to (length dag.vertices)

-- V2: a utility vertex has an out-edge
abbrev pub is_used : IrDag → ℕ → IrVertex → Bool
is_used dag v u = not (is_utility u.kind) || list_any (λ e. e.from == v) dag.edges

abbrev pub kinds_at : FlatForm → IrVertex → List PortKind
kinds_at flat u = kinds_in (deed_of flat.transforms u.kind)

-- the ports that in-edges of a vertex name
abbrev pub ports_named : List IrEdge → ℕ → List ℕ
ports_named es v = map (λ e. e.port) (filter (λ e. e.to == v) es)

-- each number below n is named once, and no other is
abbrev pub names_each : ℕ → List ℕ → Bool
names_each n ports = list_all (λ p. count_by (λ q. q == p) ports == 1) (below n) && list_all (λ q. nat_lt q n) ports

-- V3: each port of the vertex has exactly one in-edge, and no in-edge names another port
abbrev pub is_fed : FlatForm → IrDag → ℕ → IrVertex → Bool
is_fed flat dag v u = names_each (length (kinds_at flat u)) (ports_named dag.edges v)

-- V4: the vertex is an Op with the transform of x, and port by port it takes what stands for the inputs of x
abbrev pub StandsFor : FlatForm → IrDag → FlatVertex → Option Node → Type 0
StandsFor flat dag x (Some node) = (node.deed ≡ deed_or (transform_of flat x)) × (map (λ f. resolve dag f.from) node.feeds ≡ map (rep_of dag) x.inputs)
StandsFor flat dag x None = ⊥

-- a flat vertex has an entry in `rep` that stands for it, and there is no entry more
abbrev pub HasRep : FlatForm → IrDag → Option FlatVertex → Option ℕ → Type 0
HasRep flat dag (Some x) (Some v) = StandsFor flat dag x (slice_get (nodes flat.transforms dag) v)
HasRep flat dag (Some x) None = ⊥
HasRep flat dag None (Some v) = ⊥
HasRep flat dag None None = Unit {0}

-- V5: an Op stands for a flat vertex
abbrev pub is_rep : IrDag → ℕ → IrVertex → Bool
is_rep dag v u = is_utility u.kind || list_any (λ r. r == v) dag.rep

-- the patterns that a port takes
abbrev pub takes : PortKind → Pattern → Bool
takes Main OneToOne = true
takes Main Hash = true
takes Main Spread = true
takes Main Broadcast = false
takes Keyed Hash = true
takes Keyed OneToOne = false
takes Keyed Broadcast = false
takes Keyed Spread = false
takes Side Broadcast = true
takes Side OneToOne = false
takes Side Hash = false
takes Side Spread = false

-- V6: the port takes the edge's pattern
abbrev pub is_taken : FlatForm → IrDag → IrEdge → Bool
is_taken flat dag e = passes (λ u. passes (λ k. takes k e.pattern) (slice_get (kinds_at flat u) e.port)) (slice_get dag.vertices e.to)

abbrev pub is_one_to_one : Pattern → Bool
is_one_to_one OneToOne = true
is_one_to_one _ = false

abbrev pub is_hash : Pattern → Bool
is_hash Hash = true
is_hash _ = false

-- V7: the ends of a OneToOne edge have equal parallelism
abbrev pub is_level : IrDag → IrEdge → Bool
is_level dag e = not (is_one_to_one e.pattern) || passes (λ u. passes (λ w. u.parallelism == w.parallelism) (slice_get dag.vertices e.to)) (slice_get dag.vertices e.from)

abbrev pub is_trigger : VertexKind → Bool
is_trigger Trigger = true
is_trigger _ = false

-- V8: an out-edge of a Trigger is Hash
abbrev pub is_counted : IrDag → IrEdge → Bool
is_counted dag e = is_hash e.pattern || passes (λ u. not (is_trigger u.kind)) (slice_get dag.vertices e.from)

-- V9: the vertex's number is below 4,096 and its parallelism is 1 to 64
abbrev pub is_within : ℕ → IrVertex → Bool
is_within v u = nat_lt v 4096 && nat_le 1 u.parallelism && nat_le u.parallelism 64

-- whether a clause is met at a place
abbrev pub Meets : FlatForm → IrDag → Clause → ℕ → Type 0
Meets flat dag V1 i = IsTrue (passes (rises dag) (slice_get dag.edges i))
Meets flat dag V2 v = IsTrue (passes (is_used dag v) (slice_get dag.vertices v))
Meets flat dag V3 v = IsTrue (passes (is_fed flat dag v) (slice_get dag.vertices v))
Meets flat dag V4 x = HasRep flat dag (slice_get flat.vertices x) (slice_get dag.rep x)
Meets flat dag V5 v = IsTrue (passes (is_rep dag v) (slice_get dag.vertices v))
Meets flat dag V6 i = IsTrue (passes (is_taken flat dag) (slice_get dag.edges i))
Meets flat dag V7 i = IsTrue (passes (is_level dag) (slice_get dag.edges i))
Meets flat dag V8 i = IsTrue (passes (is_counted dag) (slice_get dag.edges i))
Meets flat dag V9 v = IsTrue (passes (is_within v) (slice_get dag.vertices v))

-- a clause holds where it is met everywhere
abbrev pub Holds : FlatForm → IrDag → Clause → Type 0
Holds flat dag c = (i : ℕ) → i < places flat dag c → Meets flat dag c i

pub record Valid (flat : FlatForm) (dag : IrDag) : Type 0 where
  pub v1 : Holds flat dag V1
  pub v2 : Holds flat dag V2
  pub v3 : Holds flat dag V3
  pub v4 : Holds flat dag V4
  pub v5 : Holds flat dag V5
  pub v6 : Holds flat dag V6
  pub v7 : Holds flat dag V7
  pub v8 : Holds flat dag V8
  pub v9 : Holds flat dag V9

-- the first six clauses, which a DAG meets before any pass
pub record IsFirst (flat : FlatForm) (dag : IrDag) : Type 0 where
  pub v1 : Holds flat dag V1
  pub v2 : Holds flat dag V2
  pub v3 : Holds flat dag V3
  pub v4 : Holds flat dag V4
  pub v5 : Holds flat dag V5
  pub v6 : Holds flat dag V6

-- the least place at which a clause isn't met
pub record FailsAt (flat : FlatForm) (dag : IrDag) (c : Clause) (i : ℕ) : Type 0 where
  pub within : i < places flat dag c
  pub fails : Meets flat dag c i → ⊥
  pub before : (j : ℕ) → j < i → Meets flat dag c j

-- the number of the first of some clauses that fails, with its least place
abbrev pub FirstAmong : FlatForm → IrDag → List Clause → ℕ → ℕ → Type 0
FirstAmong flat dag [] n i = ⊥
FirstAmong flat dag (c ∷ cs) n i = ((n ≡ number_of c) × FailsAt flat dag c i) ⊎ (Holds flat dag c × FirstAmong flat dag cs n i)

abbrev pub FirstFailure : FlatForm → IrDag → ℕ → ℕ → Type 0
FirstFailure flat dag n i = FirstAmong flat dag clauses n i
