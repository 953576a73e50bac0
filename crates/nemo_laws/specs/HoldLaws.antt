-- What holds of logs that are made of holds.
use Rattle.std.specs.Prelude.{◌≡◌, ◌<◌, ℕ, suc, ◌==◌, Bool, true, false, List, [], ◌∷◌, ◌++◌, filter, length, map, nat_le, Option, Some, None}
use Rattle.std.specs.List.{filter_map, flat_map}
use Rattle.nemo_base.specs.Settings.{SettingsForm}
use Rattle.nemo_base.specs.Script.{IsScript}
use Rattle.nemo_base.specs.Sound.{is_sound}
use Rattle.nemo_base.specs.declared.graph.TaskGraph.{TaskGraph}
use Rattle.nemo_base.specs.declared.id.TaskId.{TaskId}
use Rattle.nemo_base.specs.declared.script.Action.{Action}
use Rattle.nemo_base.specs.declared.script.Action.TheVariants.{Evict as EvictLine, Repartition as RepartitionLine}
use Rattle.nemo_base.specs.declared.script.ScriptLine.{ScriptLine}
use Rattle.nemo_ir.specs.Along.{below}
use Rattle.nemo_core.specs.Run.{HasState, Reaches, run_on}
use Rattle.nemo_core.specs.State.{State, is_needed, start, task_at}
use Rattle.nemo_core.specs.Step.{is_going, refusal}
use Rattle.nemo_core.specs.declared.event.Event.{Event}
use Rattle.nemo_core.specs.declared.event.Event.TheVariants.{Launch, Commit, Evict, Repartition, Ignored}
use Rattle.nemo_core.specs.declared.row.TaskRow.{TaskRow}
use Rattle.nemo_plan.specs.Form.{PlanForm, graph}
use Rattle.nemo_laws.specs.Data.{state_of}
use Rattle.nemo_laws.specs.Holds.{Holds, IsLaunchHold, commit_hold, drops, fired}
use Rattle.nemo_laws.specs.Legal.{Legal}

---- what a log has of the script

-- the action of the script line that an event is of, if it is of one
abbrev pub scripted : Event → Option Action
scripted (Evict slot) = Some (EvictLine slot)
scripted (Repartition vertex cuts) = Some (RepartitionLine vertex cuts)
scripted (Ignored vertex cuts) = Some (RepartitionLine vertex cuts)
scripted _ = None

-- the actions of the lines that are due at just this number of commits, in order
abbrev pub due_at : List ScriptLine → ℕ → List Action
due_at script n = map (λ line. line.action) (filter (λ line. line.at == n) script)

abbrev pub commits_in : TaskGraph → SettingsForm → List Event → ℕ
commits_in g k log = (state_of g k log).commits

abbrev pub is_evict_line : ScriptLine → Bool
is_evict_line line = is_evict line.action
  where
    is_evict : Action → Bool
    is_evict (EvictLine slot) = true
    is_evict (RepartitionLine vertex cuts) = false

---- the laws

pub record HoldLaws : Type 0 where
  -- where the run is over, a launch hold adds nothing
  pub empty : (g : TaskGraph) (k : SettingsForm) (s : State) (es : List Event) → is_going s.outcome ≡ false → IsLaunchHold g k s es → es ≡ []
  -- a legal log has its state
  pub state : (p : PlanForm) (k : SettingsForm) (log : List Event) → Legal p k log → HasState (graph p) k log (state_of (graph p) k log)
  -- each launch of a legal log is of a task that is needed at that moment
  pub needed : (p : PlanForm) (k : SettingsForm) (before later : List Event) (a : ℕ) (t : TaskId) (slot : ℕ) (reads : List ℕ)
      → Legal p k (before ++ Launch a t slot reads ∷ later) → is_needed (graph p) (state_of (graph p) k before) t ≡ true
  -- evictions and repartitionings, allowed or ignored, are those of the lines that are due at 0 commits, at 1, and so on to the last commit
  pub rounds : (g : TaskGraph) (k : SettingsForm) (script : List ScriptLine) (log : List Event) → Holds g k script log
      → filter_map scripted log ≡ flat_map (due_at script) (below (suc (commits_in g k log)))
  -- so they are those of the lines that are due by now, as the script has them
  pub lines : (g : TaskGraph) (k : SettingsForm) (script : List ScriptLine) (log : List Event) → IsScript k script → Holds g k script log
      → filter_map scripted log ≡ map (λ line. line.action) (filter (λ line. nat_le line.at (commits_in g k log)) script)
  -- the drops of a hold are allowed one after another
  pub drops : (g : TaskGraph) (k : SettingsForm) (s : State) → is_sound g ≡ true → Reaches g k s (drops g k s) (run_on g k s (drops g k s))
  -- the lines before any commit are allowed, and so is each event of a hold whose commit is allowed
  pub begin : (g : TaskGraph) (k : SettingsForm) (script : List ScriptLine) → IsScript k script → HasState g k (fired g k 0 script (start g k)) (state_of g k (fired g k 0 script (start g k)))
  pub commit : (g : TaskGraph) (k : SettingsForm) (script : List ScriptLine) (log : List Event) (s : State) (a : ℕ) → is_sound g ≡ true → IsScript k script → HasState g k log s
      → refusal g k s (Commit a) ≡ None → Reaches g k s (commit_hold g k script s a) (run_on g k s (commit_hold g k script s a))
  -- where fewer lines evict than a task may lose, no task loses that often
  pub losses : (p : PlanForm) (k : SettingsForm) (script : List ScriptLine) (log : List Event) (t : TaskId) (row : TaskRow) → length (filter is_evict_line script) < k.loss_bound
      → Legal p k log → Holds (graph p) k script log → task_at (state_of (graph p) k log) t ≡ Some row → row.losses < k.loss_bound
