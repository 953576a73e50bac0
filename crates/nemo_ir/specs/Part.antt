-- What each task of a DAG's vertex gives.
use Rattle.std.specs.Prelude.{ℕ, ◌+◌, ◌%◌, ◌==◌, List, [], ◌∷◌, length, map, filter, slice_index_or, if◌then◌else◌}
use Rattle.std.specs.List.{flat_map}
use Rattle.nemo_base.specs.Cuts.{task_at}
use Rattle.nemo_base.specs.declared.annotation.Pattern.{Pattern}
use Rattle.nemo_base.specs.declared.annotation.Pattern.TheVariants.{OneToOne, Broadcast, Hash, Spread}
use Rattle.nemo_value.specs.Key.{first_key, row_bucket}
use Rattle.nemo_transform.specs.Brought.{nothing, port, all_rows, all_faults, at}
use Rattle.nemo_transform.specs.Gives.{Row}
use Rattle.nemo_transform.specs.declared.transform.Transform.{Transform}
use Rattle.nemo_transform.specs.declared.transform.Transform.TheVariants.{Source}
use Rattle.nemo_ir.specs.Along.{along, below}
use Rattle.nemo_ir.specs.Flat.{FlatForm}
use Rattle.nemo_ir.specs.Nodes.{Deed, Passes, Nothing, Does, Node, nodes, origin}
use Rattle.nemo_ir.specs.Value.{ByNumber}
use Rattle.nemo_ir.specs.declared.dag.IrDag.{IrDag}

-- what the tasks of a vertex give
pub record Parts : Type 0 where
  pub parallelism : ℕ
  pub task : ℕ → ByNumber

abbrev pub no_parts : Parts
no_parts = record { parallelism = 0; task = λ i. nothing }

-- task by task
abbrev pub all_tasks : Parts → List ByNumber
all_tasks p = map p.task (below p.parallelism)

-- from number k on, the rows whose number modulo n is i
abbrev pub dealt : ℕ → ℕ → ℕ → List Row → List Row
dealt n i k [] = []
dealt n i k (r ∷ rows) = if k % n == i then r ∷ dealt n i (k + 1) rows else dealt n i (k + 1) rows

-- the task on which the bucket of a row's key lies
abbrev pub task_of : List ℕ → Row → ℕ
task_of cuts r = task_at cuts (row_bucket first_key r)

-- what task i of n gets along an edge, by the consumer's cuts
abbrev pub brought : List ℕ → ℕ → Parts → Pattern → ℕ → ByNumber
brought cuts n p OneToOne i = p.task i
brought cuts n p Broadcast i = record { rows = all_rows (all_tasks p); faults = all_faults (all_tasks p) }
brought cuts n p Hash i = record { rows = filter (λ r. task_of cuts r == i) (all_rows (all_tasks p)); faults = all_faults (all_tasks p) }
brought cuts n p Spread i = record { rows = flat_map (λ j. dealt n i j (p.task j).rows) (below p.parallelism); faults = all_faults (all_tasks p) }

-- task i of n of a source has row k where k modulo n is i
abbrev pub dealt_to : ℕ → ℕ → Transform → Transform
dealt_to n i (Source rows) = Source (dealt n i 0 rows)
dealt_to n i t = t

-- what a task gives on what its ports bring; `x` names the flat vertex for which its vertex stands
abbrev pub done_by : ℕ → ℕ → ℕ → Deed → List ByNumber → ByNumber
done_by x n i Passes ports = port ports 0
done_by x n i Nothing ports = nothing
done_by x n i (Does t) ports = at x (dealt_to n i t) ports

-- `names` has the flat vertex of each vertex, and `cuts` its cuts
abbrev pub part_step : (ℕ → ℕ) → (ℕ → List ℕ) → List Parts → Node → Parts
part_step names cuts done node = record {
  parallelism = node.parallelism;
  task = λ i. done_by (names (length done)) node.parallelism i node.deed
      (map (λ f. brought (cuts (length done)) node.parallelism (slice_index_or done f.from no_parts) f.pattern i) node.feeds);
}

abbrev pub all_parts : FlatForm → IrDag → (ℕ → List ℕ) → List Parts
all_parts flat dag cuts = along (part_step (origin dag) cuts) [] (nodes flat.transforms dag)

-- what task i of vertex v gives
abbrev pub part : FlatForm → IrDag → (ℕ → List ℕ) → ℕ → ℕ → ByNumber
part flat dag cuts v i = (slice_index_or (all_parts flat dag cuts) v no_parts).task i
