-- The vertices of a DAG with the in-edges of their ports.
use Rattle.std.specs.Prelude.{ℕ, ◌+◌, ◌==◌, ◌&&◌, Bool, true, false, List, [], ◌∷◌, length, position, slice_get, slice_index_or, unwrap_or, Option, Some, None, if◌then◌else◌}
use Rattle.nemo_base.specs.declared.annotation.Pattern.{Pattern}
use Rattle.nemo_base.specs.declared.annotation.Pattern.TheVariants.{OneToOne}
use Rattle.nemo_transform.specs.Ports.{kinds_of}
use Rattle.nemo_transform.specs.declared.shape.PortKind.{PortKind}
use Rattle.nemo_transform.specs.declared.shape.PortKind.TheVariants.{Main}
use Rattle.nemo_transform.specs.declared.transform.Transform.{Transform}
use Rattle.nemo_ir.specs.Along.{along}
use Rattle.nemo_ir.specs.declared.dag.IrDag.{IrDag}
use Rattle.nemo_ir.specs.declared.dag.IrEdge.{IrEdge}
use Rattle.nemo_ir.specs.declared.dag.IrVertex.{IrVertex}
use Rattle.nemo_ir.specs.declared.dag.VertexKind.{VertexKind}
use Rattle.nemo_ir.specs.declared.dag.VertexKind.TheVariants.{Op, Relay, Trigger}

-- what a vertex does: a utility vertex passes its rows on, and an Op whose number is outside of the table does nothing
pub data Deed : Type 0 where
  Passes Nothing : Deed
  Does : Transform → Deed

abbrev pub deed_or : Option Transform → Deed
deed_or (Some t) = Does t
deed_or None = Nothing

abbrev pub deed_of : List Transform → VertexKind → Deed
deed_of transforms (Op k) = deed_or (slice_get transforms k)
deed_of transforms Relay = Passes
deed_of transforms Trigger = Passes

-- its transform, where it has one
abbrev pub transform_in : Deed → Option Transform
transform_in (Does t) = Some t
transform_in Passes = None
transform_in Nothing = None

-- the ports of what a vertex does
abbrev pub kinds_in : Deed → List PortKind
kinds_in Passes = Main ∷ []
kinds_in Nothing = []
kinds_in (Does t) = kinds_of t

-- an in-edge as a task reads it: the producer and the pattern
pub record Feed : Type 0 where
  pub from : ℕ
  pub pattern : Pattern

-- a vertex with the in-edge of each of its ports, in order
pub record Node : Type 0 where
  pub deed : Deed
  pub parallelism : ℕ
  pub feeds : List Feed

-- the first in-edge of a port
abbrev pub edge_at : List IrEdge → ℕ → ℕ → Option IrEdge
edge_at [] v port = None
edge_at (e ∷ es) v port = if e.to == v && e.port == port then Some e else edge_at es v port

abbrev pub feed_of : Option IrEdge → Feed
feed_of (Some e) = record { from = e.from; pattern = e.pattern }
feed_of None = record { from = 0; pattern = OneToOne }

-- the in-edges of the ports from a port on
abbrev pub feeds_from : List IrEdge → ℕ → ℕ → List PortKind → List Feed
feeds_from es v port [] = []
feeds_from es v port (k ∷ ks) = feed_of (edge_at es v port) ∷ feeds_from es v (port + 1) ks

abbrev pub node_of : List Transform → List IrEdge → ℕ → IrVertex → Node
node_of transforms es v u = record { deed = deed_of transforms u.kind; parallelism = u.parallelism; feeds = feeds_from es v 0 (kinds_in (deed_of transforms u.kind)) }

abbrev pub nodes_from : List Transform → List IrEdge → ℕ → List IrVertex → List Node
nodes_from transforms es v [] = []
nodes_from transforms es v (u ∷ us) = node_of transforms es v u ∷ nodes_from transforms es (v + 1) us

-- the vertices of a DAG whose Ops name transforms of the table
abbrev pub nodes : List Transform → IrDag → List Node
nodes transforms dag = nodes_from transforms dag.edges 0 dag.vertices

---- the Op behind an edge

abbrev pub is_utility : VertexKind → Bool
is_utility (Op k) = false
is_utility Relay = true
is_utility Trigger = true

abbrev pub producer : Option IrEdge → ℕ
producer (Some e) = e.from
producer None = 0

-- an Op is its own; a utility vertex has that of its producer
abbrev pub resolve_step : List IrEdge → List ℕ → IrVertex → ℕ
resolve_step es done u = if is_utility u.kind then slice_index_or done (producer (edge_at es (length done) 0)) 0 else length done

abbrev pub resolved : IrDag → List ℕ
resolved dag = along (resolve_step dag.edges) [] dag.vertices

-- the first Op found backwards from a vertex, where it is one itself or through utility vertices
abbrev pub resolve : IrDag → ℕ → ℕ
resolve dag v = slice_index_or (resolved dag) v 0

-- the Op that stands for a flat vertex
abbrev pub rep_of : IrDag → ℕ → ℕ
rep_of dag x = slice_index_or dag.rep x 0

-- the least flat vertex that an Op stands for
abbrev pub origin : IrDag → ℕ → ℕ
origin dag v = unwrap_or (position (λ r. r == v) dag.rep) 0
