-- What the attempts of a log compute.
use Rattle.std.specs.Prelude.{ℕ, List, [], ◌∷◌, ◌++◌, slice_get, Option, Some, None}
use Rattle.nemo_base.specs.declared.graph.TaskGraph.{TaskGraph}
use Rattle.nemo_base.specs.declared.id.TaskId.{TaskId}
use Rattle.nemo_base.specs.Settings.{SettingsForm}
use Rattle.nemo_transform.specs.Brought.{nothing}
use Rattle.nemo_ir.specs.Nodes.{Node, nodes}
use Rattle.nemo_ir.specs.Part.{Parts}
use Rattle.nemo_ir.specs.Value.{ByNumber}
use Rattle.nemo_core.specs.Run.{run_on}
use Rattle.nemo_core.specs.State.{State, blocks_read, held_at, holder, start}
use Rattle.nemo_core.specs.Step.{after}
use Rattle.nemo_core.specs.declared.event.Event.{Event}
use Rattle.nemo_core.specs.declared.event.Event.TheVariants.{Launch, Commit, Repeat, GiveBack, Evict, Repartition, Ignored, Decide, Fault, Spent, Starved, Drop, Finish}
use Rattle.nemo_core.specs.declared.event.HeldBy.{HeldBy}
use Rattle.nemo_core.specs.declared.row.CutsRow.{CutsRow}
use Rattle.nemo_plan.specs.Form.{PlanForm, graph}
use Rattle.nemo_plan.specs.Over.{part_over}

-- the state that a log leaves
abbrev pub state_of : TaskGraph → SettingsForm → List Event → State
state_of g k log = run_on g k (start g k) log

-- what an attempt gives at each vertex
abbrev pub Given : Type 0
Given = ℕ → ByNumber

abbrev pub cuts_in : Option CutsRow → List ℕ
cuts_in (Some row) = row.cuts
cuts_in None = []

abbrev pub cuts_at : State → ℕ → List ℕ
cuts_at s v = cuts_in (slice_get s.cuts v)

-- an attempt: its task, its slot, who held the blocks that it reads and how the keys were split when it was launched, and what it gives
pub record Ran : Type 0 where
  pub task : TaskId
  pub slot : ℕ
  pub reads : List (Option HeldBy)
  pub cuts : ℕ → List ℕ
  pub gives : Given

abbrev pub gives_of : Option Ran → Given
gives_of (Some r) = r.gives
gives_of None = λ v. nothing

-- what the attempt of a number gives
abbrev pub given_by : List Ran → ℕ → Given
given_by ran a = gives_of (slice_get ran a)

abbrev pub parallelism_in : Option Node → ℕ
parallelism_in (Some node) = node.parallelism
parallelism_in None = 0

-- what the attempts that hold the blocks of a vertex gave there, task by task
abbrev pub held_parts : List Node → List Ran → State → ℕ → Parts
held_parts all ran s u = record {
  parallelism = parallelism_in (slice_get all u);
  task = λ j. given_by ran (holder (held_at s u j)) u;
}

-- what a task gives in this state: its part, where what it reads is what the holders gave
abbrev pub task_gives : PlanForm → List Ran → State → TaskId → Given
task_gives p ran s t = part_over p (cuts_at s) (held_parts (nodes p.flat.transforms p.dag) ran s) t

-- an attempt of the task that is launched on the slot in this state
abbrev pub launched_as : PlanForm → List Ran → State → TaskId → ℕ → Ran
launched_as p ran s t slot = record {
  task = t;
  slot = slot;
  reads = blocks_read (graph p) s t;
  cuts = cuts_at s;
  gives = task_gives p ran s t;
}

-- the attempts once an event has come: a launch has one more
abbrev pub with_attempt : PlanForm → State → List Ran → Event → List Ran
with_attempt p s ran (Launch attempt task slot reads) = ran ++ launched_as p ran s task slot ∷ []
with_attempt p s ran (Commit attempt) = ran
with_attempt p s ran (Repeat attempt) = ran
with_attempt p s ran (GiveBack attempt) = ran
with_attempt p s ran (Evict slot) = ran
with_attempt p s ran (Repartition vertex cuts) = ran
with_attempt p s ran (Ignored vertex cuts) = ran
with_attempt p s ran (Decide vertex cuts) = ran
with_attempt p s ran (Fault attempt vertex kind rec) = ran
with_attempt p s ran (Spent task) = ran
with_attempt p s ran Starved = ran
with_attempt p s ran (Drop block) = ran
with_attempt p s ran Finish = ran

abbrev pub ran_from : PlanForm → SettingsForm → State → List Ran → List Event → List Ran
ran_from p k s ran [] = ran
ran_from p k s ran (e ∷ es) = ran_from p k (after (graph p) k s e) (with_attempt p s ran e) es

-- the attempts of a log, by their numbers
abbrev pub ran_of : PlanForm → SettingsForm → List Event → List Ran
ran_of p k log = ran_from p k (start (graph p) k) [] log

-- what attempt a of a log gives
abbrev pub data_of : PlanForm → SettingsForm → List Event → ℕ → Given
data_of p k log a = given_by (ran_of p k log) a
