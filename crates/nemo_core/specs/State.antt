-- The state of a run, and how to read it.
use Rattle.std.specs.Prelude.{ℕ, ◌+◌, ◌==◌, not, Bool, false, List, [], ◌∷◌, Option, Some, None, map, length, replicate, slice_get, is_some, if◌then◌else◌}
use Rattle.std.specs.List.{list_all, list_any, flat_map}
use Rattle.nemo_base.specs.Cuts.{even_cuts}
use Rattle.nemo_base.specs.Sound.{is_in, passes}
use Rattle.nemo_base.specs.declared.graph.Read.{Read}
use Rattle.nemo_base.specs.declared.graph.StageRow.{StageRow}
use Rattle.nemo_base.specs.declared.graph.TaskGraph.{TaskGraph}
use Rattle.nemo_base.specs.declared.graph.VertexRow.{VertexRow}
use Rattle.nemo_base.specs.declared.id.TaskId.{TaskId}
use Rattle.nemo_base.specs.declared.settings.Settings.{Settings}
use Rattle.nemo_core.specs.declared.event.Outcome.{Outcome}
use Rattle.nemo_core.specs.declared.event.Outcome.TheVariants.{Going}
use Rattle.nemo_core.specs.declared.event.HeldBy.{HeldBy}
use Rattle.nemo_core.specs.declared.row.Attempt.{Attempt}
use Rattle.nemo_core.specs.declared.row.TaskRow.{TaskRow}
use Rattle.nemo_core.specs.declared.row.CutsRow.{CutsRow}
use Rattle.nemo_core.specs.Needed.{blocks_of, needed, wanted}
use Rattle.nemo_core.specs.Numbered.{map_at, row_at, item_at}

pub record State : Type 0 where
  pub outcome : Outcome
  -- how many attempts there were, and how many of them committed
  pub launches : ℕ
  pub commits : ℕ
  -- the incarnation of each slot
  pub incs : List ℕ
  -- each task, by its stage and its place there: its running attempt, and its losses
  pub tasks : List (List TaskRow)
  -- of each stage, whether it is sealed
  pub sealed : List Bool
  -- each block, by its vertex and its task: who holds it, or none where it is gone. A vertex without blocks has none.
  pub blocks : List (List (Option HeldBy))
  -- the cuts of each vertex, and whether they are decided
  pub cuts : List CutsRow

-- a core: what it was made for, its state, and how many events it has taken
pub record Machine : Type 0 where
  pub graph : TaskGraph
  pub settings : Settings
  pub state : State
  pub taken : ℕ

abbrev pub fresh_task : TaskRow
fresh_task = record { running = None; losses = 0 }

abbrev pub fresh_tasks : StageRow → List TaskRow
fresh_tasks row = replicate row.parallelism fresh_task

-- vertex v has blocks
abbrev pub has_blocks : TaskGraph → ℕ → VertexRow → Bool
has_blocks g v row = is_in v (blocks_of g row.stage)

abbrev pub fresh_blocks : TaskGraph → ℕ → VertexRow → List (Option HeldBy)
fresh_blocks g v row = if has_blocks g v row then replicate row.parallelism None else []

abbrev pub fresh_cuts : VertexRow → CutsRow
fresh_cuts row = record { cuts = even_cuts row.parallelism; decided = false }

-- before any event everything is idle, gone, 0, unsealed and undecided, with even cuts
abbrev pub start : TaskGraph → Settings → State
start g k = record {
  outcome = Going;
  launches = 0;
  commits = 0;
  incs = replicate (k.reserved + k.transient) 0;
  tasks = map fresh_tasks g.stages;
  sealed = replicate (length g.stages) false;
  blocks = map_at (fresh_blocks g) 0 g.vertices;
  cuts = map fresh_cuts g.vertices;
}

abbrev pub start_machine : TaskGraph → Settings → Machine
start_machine g k = record { graph = g; settings = k; state = start g k; taken = 0 }

abbrev pub task_at : State → TaskId → Option TaskRow
task_at s t = item_at s.tasks t.stage t.index

-- the row runs this attempt
abbrev pub is_number : ℕ → Attempt → Bool
is_number attempt a = a.number == attempt

abbrev pub runs : ℕ → TaskRow → Bool
runs attempt row = passes (is_number attempt) row.running

abbrev pub is_running : State → ℕ → Bool
is_running s attempt = list_any (list_any (runs attempt)) s.tasks

abbrev pub flat : {X : Type 0} → Option (Option X) → Option X
flat (Some x) = x
flat None = None

-- who holds block i of vertex v
abbrev pub held_in : List (List (Option HeldBy)) → ℕ → ℕ → Option HeldBy
held_in blocks v i = flat (item_at blocks v i)

abbrev pub held_at : State → ℕ → ℕ → Option HeldBy
held_at s v i = held_in s.blocks v i

-- the block isn't held
abbrev pub gone_in : List (List (Option HeldBy)) → ℕ → ℕ → Bool
gone_in blocks v i = not (is_some (held_in blocks v i))

abbrev pub is_gone : State → ℕ → ℕ → Bool
is_gone s v i = gone_in s.blocks v i

abbrev pub is_needed : TaskGraph → State → TaskId → Bool
is_needed g s t = needed g (is_gone s) t.stage t.index

abbrev pub is_wanted : TaskGraph → State → ℕ → ℕ → Bool
is_wanted g s v i = wanted g (is_gone s) v i

-- the blocks that task i of a stage reads by this read: all of its vertex where it is wide, else the block of its own number
abbrev pub read_in : List (List (Option HeldBy)) → ℕ → Read → List (Option HeldBy)
read_in blocks i r = if r.wide then row_at blocks r.vertex else held_in blocks r.vertex i ∷ []

abbrev pub reads_by : Option StageRow → List Read
reads_by (Some row) = row.reads
reads_by None = []

-- what a task of a stage reads
abbrev pub reads_of : TaskGraph → ℕ → List Read
reads_of g stage = reads_by (slice_get g.stages stage)

-- the blocks that a task reads, in order
abbrev pub blocks_read : TaskGraph → State → TaskId → List (Option HeldBy)
blocks_read g s t = flat_map (read_in s.blocks t.index) (reads_of g t.stage)

abbrev pub all_held : List (Option HeldBy) → Bool
all_held blocks = list_all is_some blocks

abbrev pub read_held : List (List (Option HeldBy)) → ℕ → Read → Bool
read_held blocks i r = all_held (read_in blocks i r)

-- every block that the task reads is held
abbrev pub reads_held : TaskGraph → State → TaskId → Bool
reads_held g s t = list_all (read_held s.blocks t.index) (reads_of g t.stage)

-- the attempt that holds a block
abbrev pub holder : Option HeldBy → ℕ
holder (Some held) = held.attempt
holder None = 0
