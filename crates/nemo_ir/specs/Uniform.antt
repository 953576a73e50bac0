-- Uniform DAGs: Ops of one parallelism on transient machines, each fed task by task by blocks that are fetched and kept.
use Rattle.std.specs.Prelude.{ℕ, ◌==◌, ◌&&◌, Bool, true, false, List, [], ◌∷◌}
use Rattle.std.specs.List.{list_all}
use Rattle.nemo_base.specs.declared.annotation.Class.{Class}
use Rattle.nemo_base.specs.declared.annotation.Class.TheVariants.{Reserved, Transient}
use Rattle.nemo_base.specs.declared.annotation.Flow.{Flow}
use Rattle.nemo_base.specs.declared.annotation.Flow.TheVariants.{Push, Pull}
use Rattle.nemo_base.specs.declared.annotation.Keep.{Keep as KeepOf}
use Rattle.nemo_base.specs.declared.annotation.Keep.TheVariants.{Keep, Discard}
use Rattle.nemo_ir.specs.Valid.{is_one_to_one}
use Rattle.nemo_ir.specs.declared.dag.IrDag.{IrDag}
use Rattle.nemo_ir.specs.declared.dag.IrEdge.{IrEdge}
use Rattle.nemo_ir.specs.declared.dag.IrVertex.{IrVertex}
use Rattle.nemo_ir.specs.declared.dag.VertexKind.{VertexKind}
use Rattle.nemo_ir.specs.declared.dag.VertexKind.TheVariants.{Op, Relay, Trigger}

abbrev pub is_op : VertexKind → Bool
is_op (Op k) = true
is_op Relay = false
is_op Trigger = false

abbrev pub is_transient : Class → Bool
is_transient Reserved = false
is_transient Transient = true

abbrev pub is_pull : Flow → Bool
is_pull Push = false
is_pull Pull = true

abbrev pub is_kept : KeepOf → Bool
is_kept Keep = true
is_kept Discard = false

-- an Op of n tasks on transient machines
abbrev pub is_uniform_op : ℕ → IrVertex → Bool
is_uniform_op n u = is_op u.kind && is_transient u.class && (u.parallelism == n)

abbrev pub is_uniform_edge : IrEdge → Bool
is_uniform_edge e = is_one_to_one e.pattern && is_pull e.flow && is_kept e.keep

-- how many tasks the first vertex has
abbrev pub first_tasks : List IrVertex → ℕ
first_tasks [] = 0
first_tasks (u ∷ us) = u.parallelism

abbrev pub is_uniform : IrDag → Bool
is_uniform dag = list_all (is_uniform_op (first_tasks dag.vertices)) dag.vertices && list_all is_uniform_edge dag.edges
