-- What holds of every run on one thread.
use Rattle.std.specs.Prelude.{◌≡◌, ◌≤◌, ◌+◌, ◌*◌, Bool, true, false, List, filter, length}
use Rattle.std.specs.List.{list_any}
use Rattle.nemo_base.specs.Script.{IsScript}
use Rattle.nemo_base.specs.Settings.{SettingsForm}
use Rattle.nemo_base.specs.declared.script.ScriptLine.{ScriptLine}
use Rattle.nemo_ir.specs.Flat.{IsFlat}
use Rattle.nemo_ir.specs.Valid.{Valid}
use Rattle.nemo_core.specs.declared.event.Event.{Event}
use Rattle.nemo_core.specs.declared.event.Event.TheVariants.{Evict, GiveBack, Launch}
use Rattle.nemo_core.specs.Kept.{total}
use Rattle.nemo_core.specs.Step.{is_going}
use Rattle.nemo_plan.specs.Form.{PlanForm, graph}
use Rattle.nemo_laws.specs.Data.{state_of}
use Rattle.nemo_laws.specs.Holds.{Holds}
use Rattle.nemo_laws.specs.Legal.{Legal}
use Rattle.nemo_laws.specs.Solo.{SoloRun}

abbrev pub is_give_back : Event → Bool
is_give_back (GiveBack attempt) = true
is_give_back _ = false

abbrev pub is_launch : Event → Bool
is_launch (Launch attempt task slot reads) = true
is_launch _ = false

abbrev pub is_eviction : Event → Bool
is_eviction (Evict slot) = true
is_eviction _ = false

pub record SoloLaws : Type 0 where
  -- no attempt is given back
  pub alone : (p : PlanForm) (k : SettingsForm) (script : List ScriptLine) (log : List Event) → SoloRun p k script log → list_any is_give_back log ≡ false
  -- each log is legal
  pub legal : (p : PlanForm) (k : SettingsForm) (script : List ScriptLine) (log : List Event) → IsFlat p.flat → Valid p.flat p.dag → IsScript k script → SoloRun p k script log → Legal p k log
  -- and made of holds
  pub holds : (p : PlanForm) (k : SettingsForm) (script : List ScriptLine) (log : List Event) → IsFlat p.flat → Valid p.flat p.dag → IsScript k script → SoloRun p k script log → Holds (graph p) k script log
  -- two that end are one: the log is a function of the plan, the settings and the script
  pub same : (p : PlanForm) (k : SettingsForm) (script : List ScriptLine) (a b : List Event) → IsFlat p.flat → Valid p.flat p.dag → IsScript k script → SoloRun p k script a → SoloRun p k script b
      → is_going (state_of (graph p) k a).outcome ≡ false → is_going (state_of (graph p) k b).outcome ≡ false → a ≡ b
  -- there are at most as many launches as tasks, times one more than evictions
  pub launches : (p : PlanForm) (k : SettingsForm) (script : List ScriptLine) (log : List Event) → IsFlat p.flat → Valid p.flat p.dag → IsScript k script → SoloRun p k script log
      → length (filter is_launch log) ≤ total (λ row. row.parallelism) (graph p).stages * (1 + length (filter is_eviction log))
