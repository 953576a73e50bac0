-- The compile-time passes, each from a DAG to a DAG, and what a policy makes of a flat job.
use Rattle.std.specs.Prelude.{ℕ, ◌==◌, Bool, List, [], length, map, max, min, slice_get, Option, Some, None, if◌then◌else◌}
use Rattle.std.specs.List.{list_any}
use Rattle.nemo_base.specs.declared.annotation.Pattern.{Pattern}
use Rattle.nemo_base.specs.declared.annotation.Pattern.TheVariants.{OneToOne, Broadcast, Hash, Spread}
use Rattle.nemo_transform.specs.Ports.{is_keyed, kinds_of}
use Rattle.nemo_transform.specs.declared.shape.PortKind.{PortKind}
use Rattle.nemo_transform.specs.declared.shape.PortKind.TheVariants.{Main, Keyed, Side}
use Rattle.nemo_transform.specs.declared.transform.Transform.{Transform}
use Rattle.nemo_transform.specs.declared.transform.Transform.TheVariants.{Source}
use Rattle.nemo_ir.specs.Along.{along}
use Rattle.nemo_ir.specs.Flat.{FlatForm}
use Rattle.nemo_ir.specs.Nodes.{Deed, Passes, Nothing, Does, deed_of, edge_at, kinds_in, producer}
use Rattle.nemo_ir.specs.declared.dag.IrDag.{IrDag}
use Rattle.nemo_ir.specs.declared.dag.IrEdge.{IrEdge}
use Rattle.nemo_ir.specs.declared.dag.IrVertex.{IrVertex}
use Rattle.nemo_flat.specs.FirstDag.{first_dag}

-- the parallelism of a vertex, and 1 where there is none
abbrev pub parallelism_at : List IrVertex → ℕ → ℕ
parallelism_at us v = tasks_in (slice_get us v)
  where
    tasks_in : Option IrVertex → ℕ
    tasks_in (Some u) = u.parallelism
    tasks_in None = 1

---- set_parallelism

-- a source has no more tasks than rows, a vertex with a Keyed port has p, and any other has those of the vertex before it
abbrev pub parallelism_for : ℕ → ℕ → Transform → ℕ
parallelism_for p before (Source rows) = max 1 (min p (length rows))
parallelism_for p before t = if list_any is_keyed (kinds_of t) then p else before

abbrev pub parallelism_of : ℕ → ℕ → Deed → ℕ
parallelism_of p before (Does t) = parallelism_for p before t
parallelism_of p before Passes = before
parallelism_of p before Nothing = before

-- a vertex with its parallelism, after the vertices before it; the vertex before it is the producer on its port 0
abbrev pub set_tasks : FlatForm → ℕ → List IrEdge → List IrVertex → IrVertex → IrVertex
set_tasks flat p es done u = record u { parallelism = parallelism_of p (parallelism_at done (producer (edge_at es (length done) 0))) (deed_of flat.transforms u.kind) }

abbrev pub set_parallelism : FlatForm → ℕ → IrDag → IrDag
set_parallelism flat p dag = record dag { vertices = along (set_tasks flat p dag.edges) [] dag.vertices }

---- set_patterns

-- into a Main port task by task where both ends have equal parallelism
abbrev pub into_main : Bool → Pattern
into_main level = if level then OneToOne else Spread

-- the pattern into a port; the old one where there is no such port
abbrev pub pattern_by : Bool → Pattern → Option PortKind → Pattern
pattern_by level old (Some Main) = into_main level
pattern_by level old (Some Keyed) = Hash
pattern_by level old (Some Side) = Broadcast
pattern_by level old None = old

-- the kind of the port that an edge leads to
abbrev pub kind_into : FlatForm → IrEdge → Option IrVertex → Option PortKind
kind_into flat e (Some u) = slice_get (kinds_in (deed_of flat.transforms u.kind)) e.port
kind_into flat e None = None

abbrev pub set_pattern : FlatForm → List IrVertex → IrEdge → IrEdge
set_pattern flat us e = record e { pattern = pattern_by (parallelism_at us e.from == parallelism_at us e.to) e.pattern (kind_into flat e (slice_get us e.to)) }

abbrev pub set_patterns : FlatForm → IrDag → IrDag
set_patterns flat dag = record dag { edges = map (set_pattern flat dag.vertices) dag.edges }

---- policies

-- what the policy `plain` makes of a flat job
abbrev pub plain_dag : FlatForm → ℕ → IrDag
plain_dag flat p = set_patterns flat (set_parallelism flat p (first_dag flat))
