-- What holds of a run that is done.
use Rattle.std.specs.Prelude.{◌≡◌, List, [], ◌∷◌, ◌++◌}
use Rattle.nemo_base.specs.declared.script.ScriptLine.{ScriptLine}
use Rattle.nemo_base.specs.Settings.{SettingsForm}
use Rattle.nemo_core.specs.declared.event.Event.{Event}
use Rattle.nemo_core.specs.declared.event.Event.TheVariants.{Finish}
use Rattle.nemo_plan.specs.Form.{PlanForm, graph}
use Rattle.nemo_laws.specs.Holds.{Holds}
use Rattle.nemo_laws.specs.Legal.{Legal}
use Rattle.nemo_laws.specs.Written.{FromCommits}

-- its log is legal and made of holds, and ends in Finish, and each block of each sink is from one commit
pub record IsDoneRun (p : PlanForm) (k : SettingsForm) (script : List ScriptLine) (log : List Event) : Type 0 where
  pub legal : Legal p k log
  pub holds : Holds (graph p) k script log
  pub before : List Event
  pub ends : log ≡ before ++ Finish ∷ []
  pub commits : FromCommits p k log
