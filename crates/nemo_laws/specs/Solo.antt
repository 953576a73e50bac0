-- A run on one thread: what each of its turns adds to the log.
use Rattle.std.specs.Prelude.{◌≡◌, ◌+◌, ◌%◌, ℕ, List, [], ◌∷◌, ◌++◌, filter, is_none, length, max, Option, Some, None, slice_get, slice_index_or, if◌then◌else◌}
use Rattle.nemo_base.specs.LeastCuts.{IsLeastCuts}
use Rattle.nemo_base.specs.Samples.{counts_of}
use Rattle.nemo_base.specs.Settings.{SettingsForm}
use Rattle.nemo_base.specs.declared.annotation.Class.{Class}
use Rattle.nemo_base.specs.declared.graph.StageRow.{StageRow}
use Rattle.nemo_base.specs.declared.graph.TaskGraph.{TaskGraph}
use Rattle.nemo_base.specs.declared.id.TaskId.{TaskId}
use Rattle.nemo_base.specs.declared.script.ScriptLine.{ScriptLine}
use Rattle.nemo_value.specs.declared.expr.Kind.{Kind}
use Rattle.nemo_transform.specs.Gives.{Row}
use Rattle.nemo_ir.specs.Along.{below}
use Rattle.nemo_core.specs.Laws.{next_launch}
use Rattle.nemo_core.specs.Reading.{first_task}
use Rattle.nemo_core.specs.Run.{run_on}
use Rattle.nemo_core.specs.State.{State, start}
use Rattle.nemo_core.specs.Step.{fits, refusal}
use Rattle.nemo_core.specs.declared.event.Event.{Event}
use Rattle.nemo_core.specs.declared.event.Event.TheVariants.{Decide, Fault, Spent}
use Rattle.nemo_plan.specs.Form.{PlanForm, graph}
use Rattle.nemo_laws.specs.Data.{Ran, ran_of, state_of, task_gives}
use Rattle.nemo_laws.specs.Holds.{commit_hold, fired, least_spent, may_decide}
use Rattle.nemo_laws.specs.Legal.{Faultless, FirstFault, row_of, row_tasks, sample}

---- decisions

-- for each of these vertices, in order, a decision by the least cuts of its sample
abbrev pub LeastDecisions : PlanForm → SettingsForm → State → List Ran → List ℕ → List Event → Type 0
LeastDecisions p k s ran [] es = es ≡ []
LeastDecisions p k s ran (v ∷ vs) es =
    (cuts : List ℕ) × (later : List Event) × (es ≡ Decide v cuts ∷ later) × IsLeastCuts (counts_of (sample p k s ran v)) (row_tasks (row_of p v)) cuts × LeastDecisions p k s ran vs later

-- for each vertex that may be decided
abbrev pub AreDecisions : PlanForm → SettingsForm → State → List Ran → List Event → Type 0
AreDecisions p k s ran es = LeastDecisions p k s ran (filter (may_decide (graph p) s) (below (length (graph p).vertices))) es

---- a launch

-- the slots that fit a class, in order
abbrev pub fitting : SettingsForm → Class → List ℕ
fitting k class = filter (λ slot. fits k slot class) (below (k.reserved + k.transient))

-- the one at place `launches so far mod number of fitting slots`
abbrev pub turn_slot : SettingsForm → State → Option StageRow → ℕ
turn_slot k s (Some row) = slice_index_or (fitting k row.class) (s.launches % max 1 (length (fitting k row.class))) 0
turn_slot k s None = 0

abbrev pub launch_of_turn : TaskGraph → SettingsForm → State → TaskId → Event
launch_of_turn g k s t = next_launch g s t (turn_slot k s (slice_get g.stages t.stage))

abbrev pub may_take_turn : TaskGraph → SettingsForm → State → ℕ → ℕ → Option TaskId
may_take_turn g k s stage i =
    let t : TaskId = record { stage = stage; index = i } in
    if is_none (refusal g k s (launch_of_turn g k s t)) then Some t else None

-- the least task that may be launched on that slot of its class
abbrev pub next_task : TaskGraph → SettingsForm → State → Option TaskId
next_task g k s = first_task g (may_take_turn g k s)

---- turns

-- where nothing is spent: decisions, and then the launch of the next task
pub record IsStart (p : PlanForm) (k : SettingsForm) (s : State) (ran : List Ran) (decisions : List Event) (t : TaskId) : Type 0 where
  pub unspent : least_spent (graph p) k s ≡ None
  pub decided : AreDecisions p k s ran decisions
  pub task : next_task (graph p) k (run_on (graph p) k s decisions) ≡ Some t

abbrev pub started : PlanForm → SettingsForm → State → List Event → TaskId → List Event
started p k s decisions t = decisions ++ launch_of_turn (graph p) k (run_on (graph p) k s decisions) t ∷ []

-- the end by the least task that is spent; or a start, and then the commit of an attempt without fault, or the first fault of one
pub data IsTurn (p : PlanForm) (k : SettingsForm) (script : List ScriptLine) (s : State) (ran : List Ran) : List Event → Type 0 where
  spends : (t : TaskId) → least_spent (graph p) k s ≡ Some t → IsTurn p k script s ran (Spent t ∷ [])
  commits : (decisions : List Event) (t : TaskId) → IsStart p k s ran decisions t → Faultless p (task_gives p ran (run_on (graph p) k s decisions) t)
      → IsTurn p k script s ran (started p k s decisions t ++ commit_hold (graph p) k script (run_on (graph p) k s (started p k s decisions t)) s.launches)
  faults : (decisions : List Event) (t : TaskId) (x : ℕ) (kind : Kind) (rec : Row) → IsStart p k s ran decisions t
      → FirstFault p (task_gives p ran (run_on (graph p) k s decisions) t) (record { vertex = x; kind = kind; rec = rec })
      → IsTurn p k script s ran (started p k s decisions t ++ Fault s.launches x kind rec ∷ [])

-- a log that begins with the lines that are due before any commit, and goes on turn by turn
pub data SoloRun (p : PlanForm) (k : SettingsForm) (script : List ScriptLine) : List Event → Type 0 where
  begins : SoloRun p k script (fired (graph p) k 0 script (start (graph p) k))
  turns : (log es : List Event) → SoloRun p k script log → IsTurn p k script (state_of (graph p) k log) (ran_of p k log) es → SoloRun p k script (log ++ es)
