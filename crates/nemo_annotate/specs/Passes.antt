-- The passes that annotate a DAG, each from a DAG to a DAG: by vertex, or by edge.
use Rattle.std.specs.Prelude.{ℕ, ◌==◌, Bool, List, [], length, map, max, min, slice_get, Option, Some, None, option_map, if◌then◌else◌}
use Rattle.std.specs.List.{list_any}
use Rattle.nemo_base.specs.declared.annotation.Class.{Class}
use Rattle.nemo_base.specs.declared.annotation.Class.TheVariants.{Reserved, Transient}
use Rattle.nemo_base.specs.declared.annotation.Flow.{Flow}
use Rattle.nemo_base.specs.declared.annotation.Flow.TheVariants.{Push, Pull}
use Rattle.nemo_base.specs.declared.annotation.Keep.{Keep as KeepOf}
use Rattle.nemo_base.specs.declared.annotation.Keep.TheVariants.{Keep, Discard}
use Rattle.nemo_base.specs.declared.annotation.Pattern.{Pattern}
use Rattle.nemo_base.specs.declared.annotation.Pattern.TheVariants.{OneToOne, Broadcast, Hash, Spread}
use Rattle.nemo_transform.specs.Ports.{is_keyed, kinds_of}
use Rattle.nemo_transform.specs.declared.shape.PortKind.{PortKind}
use Rattle.nemo_transform.specs.declared.shape.PortKind.TheVariants.{Main, Keyed, Side}
use Rattle.nemo_transform.specs.declared.transform.Transform.{Transform}
use Rattle.nemo_transform.specs.declared.transform.Transform.TheVariants.{Source}
use Rattle.nemo_ir.specs.Along.{along}
use Rattle.nemo_ir.specs.Flat.{FlatForm}
use Rattle.nemo_ir.specs.Nodes.{Deed, Passes, Nothing, Does, deed_of, edge_at, is_utility, kinds_in, producer}
use Rattle.nemo_ir.specs.declared.dag.IrDag.{IrDag}
use Rattle.nemo_ir.specs.declared.dag.IrEdge.{IrEdge}
use Rattle.nemo_ir.specs.declared.dag.IrVertex.{IrVertex}

-- the parallelism of a vertex, and 1 where there is none
abbrev pub parallelism_at : List IrVertex → ℕ → ℕ
parallelism_at us v = tasks_in (slice_get us v)
  where
    tasks_in : Option IrVertex → ℕ
    tasks_in (Some u) = u.parallelism
    tasks_in None = 1

---- set_parallelism

-- a source has no more tasks than rows, but at least 1, a vertex with a Keyed port has p, and any other has those before it
abbrev pub parallelism_for : ℕ → ℕ → Transform → ℕ
parallelism_for p before (Source rows) = max 1 (min p (length rows))
parallelism_for p before t = if list_any is_keyed (kinds_of t) then p else before

abbrev pub parallelism_of : ℕ → ℕ → Deed → ℕ
parallelism_of p before (Does t) = parallelism_for p before t
parallelism_of p before Passes = before
parallelism_of p before Nothing = before

-- how many tasks the producer on port 0 of the vertex after these has
abbrev pub tasks_before : List IrEdge → List IrVertex → ℕ
tasks_before es done = parallelism_at done (producer (edge_at es (length done) 0))

-- a vertex with its parallelism, after the vertices before it
abbrev pub with_tasks : FlatForm → ℕ → List IrEdge → List IrVertex → IrVertex → IrVertex
with_tasks flat p es done u = record u { parallelism = parallelism_of p (tasks_before es done) (deed_of flat.transforms u.kind) }

abbrev pub set_parallelism : FlatForm → ℕ → IrDag → IrDag
set_parallelism flat p dag = record dag { vertices = along (with_tasks flat p dag.edges) [] dag.vertices }

---- set_patterns

-- into a Main port task by task where both ends have equal parallelism
abbrev pub into_main : Bool → Pattern
into_main level = if level then OneToOne else Spread

-- the pattern into a port; the old one where there is no such port
abbrev pub pattern_by : Bool → Pattern → Option PortKind → Pattern
pattern_by level old (Some Main) = into_main level
pattern_by level old (Some Keyed) = Hash
pattern_by level old (Some Side) = Broadcast
pattern_by level old None = old

-- the kind of the port that an edge leads to, where this is the vertex at its end
abbrev pub kind_into : FlatForm → IrEdge → Option IrVertex → Option PortKind
kind_into flat e (Some u) = slice_get (kinds_in (deed_of flat.transforms u.kind)) e.port
kind_into flat e None = None

-- both ends of an edge have equal parallelism
abbrev pub is_even : List IrVertex → IrEdge → Bool
is_even us e = parallelism_at us e.from == parallelism_at us e.to

abbrev pub with_pattern : FlatForm → List IrVertex → IrEdge → IrEdge
with_pattern flat us e = record e { pattern = pattern_by (is_even us e) e.pattern (kind_into flat e (slice_get us e.to)) }

abbrev pub set_patterns : FlatForm → IrDag → IrDag
set_patterns flat dag = record dag { edges = map (with_pattern flat dag.vertices) dag.edges }

---- set_flow

-- the class of a vertex that is there
abbrev pub class_at : List IrVertex → ℕ → Option Class
class_at us v = option_map (λ u. u.class) (slice_get us v)

-- from a Transient vertex to a Reserved one is pushed, and all else is pulled
abbrev pub flow_between : Option Class → Option Class → Flow
flow_between (Some Transient) (Some Reserved) = Push
flow_between _ _ = Pull

abbrev pub with_flow : List IrVertex → IrEdge → IrEdge
with_flow us e = record e { flow = flow_between (class_at us e.from) (class_at us e.to) }

abbrev pub set_flow : IrDag → IrDag
set_flow dag = record dag { edges = map (with_flow dag.vertices) dag.edges }

---- set_keep

-- what a Relay or a Trigger gives is discarded, and all else is kept
abbrev pub keep_from : Option IrVertex → KeepOf
keep_from (Some u) = if is_utility u.kind then Discard else Keep
keep_from None = Keep

abbrev pub with_keep : List IrVertex → IrEdge → IrEdge
with_keep us e = record e { keep = keep_from (slice_get us e.from) }

abbrev pub set_keep : IrDag → IrDag
set_keep dag = record dag { edges = map (with_keep dag.vertices) dag.edges }
