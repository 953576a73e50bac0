-- The first DAG of a flat job: an Op for each flat vertex, and an edge for each of its ports.
use Rattle.std.specs.Prelude.{ℕ, List, [], length, map, slice_get, Option, Some, None}
use Rattle.std.specs.List.{flat_map}
use Rattle.nemo_base.specs.declared.annotation.Class.TheVariants.{Transient}
use Rattle.nemo_base.specs.declared.annotation.Flow.TheVariants.{Pull}
use Rattle.nemo_base.specs.declared.annotation.Keep.{Keep}
use Rattle.nemo_base.specs.declared.annotation.Pattern.{Pattern}
use Rattle.nemo_base.specs.declared.annotation.Pattern.TheVariants.{OneToOne, Hash, Broadcast}
use Rattle.nemo_transform.specs.Ports.{kinds_of}
use Rattle.nemo_transform.specs.declared.shape.PortKind.{PortKind}
use Rattle.nemo_transform.specs.declared.shape.PortKind.TheVariants.{Main, Keyed, Side}
use Rattle.nemo_transform.specs.declared.transform.Transform.{Transform}
use Rattle.nemo_ir.specs.Along.{below}
use Rattle.nemo_ir.specs.Flat.{FlatForm, transform_of}
pub use Rattle.nemo_ir.specs.Valid.{IsFirst}
use Rattle.nemo_ir.specs.declared.dag.IrDag.{IrDag}
use Rattle.nemo_ir.specs.declared.dag.IrEdge.{IrEdge}
use Rattle.nemo_ir.specs.declared.dag.IrVertex.{IrVertex}
use Rattle.nemo_ir.specs.declared.dag.VertexKind.TheVariants.{Op}
use Rattle.nemo_ir.specs.declared.flat.FlatVertex.{FlatVertex}
use Rattle.nemo_base.specs.Numbered.{map_at}

-- a vertex of one task with the transform of a flat vertex
abbrev pub op_of : FlatVertex → IrVertex
op_of x = record { kind = Op x.transform; class = Transient; parallelism = 1 }

-- the pattern into a port
abbrev pub pattern_into : Option PortKind → Pattern
pattern_into (Some Main) = OneToOne
pattern_into (Some Keyed) = Hash
pattern_into (Some Side) = Broadcast
pattern_into None = OneToOne

-- the ports of a transform; a number outside of the table has none
abbrev pub ports_of : Option Transform → List PortKind
ports_of (Some t) = kinds_of t
ports_of None = []

-- the edge from `input` into a port of the vertex `to`, which has these ports
abbrev pub edge_into : List PortKind → ℕ → ℕ → ℕ → IrEdge
edge_into kinds to port input = record {
  from = input;
  to = to;
  port = port;
  pattern = pattern_into (slice_get kinds port);
  flow = Pull;
  keep = Keep.Keep;
}

-- the edges into a flat vertex, port by port
abbrev pub edges_into : FlatForm → ℕ → FlatVertex → List IrEdge
edges_into flat to x = map_at (edge_into (ports_of (transform_of flat x)) to) 0 x.inputs

-- the edges stand in the order of vertices and ports, and each flat vertex is stood for by the Op of its number
abbrev pub first_dag : FlatForm → IrDag
first_dag flat = record {
  vertices = map op_of flat.vertices;
  edges = flat_map (λ es. es) (map_at (edges_into flat) 0 flat.vertices);
  rep = below (length flat.vertices);
}
