-- The states of the run on one thread of a line that is one stage: m vertices with n tasks each.
use Rattle.std.specs.Prelude.{ℕ, suc, ◌+◌, ◌==◌, nat_lt, Bool, List, [], ◌∷◌, length, map, replicate, Option, Some, None, if◌then◌else◌}
use Rattle.nemo_base.specs.Settings.{SettingsForm}
use Rattle.nemo_ir.specs.Along.{below}
use Rattle.nemo_core.specs.State.{Machine, State, fresh_cuts, fresh_task}
use Rattle.nemo_core.specs.declared.event.HeldBy.{HeldBy}
use Rattle.nemo_core.specs.declared.event.Outcome.TheVariants.{Going}
use Rattle.nemo_core.specs.declared.row.TaskRow.{TaskRow}
use Rattle.nemo_plan.specs.Form.{PlanForm, graph}
use Rattle.nemo_plan.specs.Line.{line_graph}
use Rattle.nemo_replay.specs.StageRun.{tasks_in}

-- the master holds the block from attempt j
abbrev pub from_attempt : ℕ → HeldBy
from_attempt j = record { slot = None; inc = 0; attempt = j }

-- block j once i tasks have committed
abbrev pub block_after : ℕ → ℕ → Option HeldBy
block_after i j = if nat_lt j i then Some (from_attempt j) else None

-- the blocks of a vertex once i tasks have committed: only the last vertex has blocks
abbrev pub blocks_if : Bool → ℕ → ℕ → List (Option HeldBy)
blocks_if last n i = if last then map (block_after i) (below n) else []

abbrev pub blocks_after : ℕ → ℕ → ℕ → ℕ → List (Option HeldBy)
blocks_after m n i v = blocks_if (suc v == m) n i

abbrev pub busy_task : ℕ → ℕ → TaskRow
busy_task i slot = record { running = Some (record { number = i; slot = slot }); losses = 0 }

-- task j while task i runs on the slot
abbrev pub task_while : ℕ → ℕ → ℕ → TaskRow
task_while i slot j = if j == i then busy_task i slot else fresh_task

-- after the tasks 0 to i - 1 have committed
abbrev pub ready : ℕ → ℕ → SettingsForm → ℕ → State
ready m n k i = record {
  outcome = Going;
  launches = i;
  commits = i;
  incs = replicate (k.reserved + k.transient) 0;
  tasks = map (λ j. fresh_task) (below n) ∷ [];
  sealed = nat_lt 0 i ∷ [];
  blocks = map (blocks_after m n i) (below m);
  cuts = map fresh_cuts (line_graph m n).vertices;
}

-- after the launch of task i on a slot
abbrev pub busy : ℕ → ℕ → SettingsForm → ℕ → ℕ → State
busy m n k i slot = record (ready m n k i) { launches = suc i; tasks = map (task_while i slot) (below n) ∷ [] }

-- the core between two turns; each took two events
abbrev pub ready_core : PlanForm → SettingsForm → ℕ → Machine
ready_core p k i = record { graph = graph p; settings = k; state = ready (length p.dag.vertices) (tasks_in p) k i; taken = i + i }
