-- What a state keeps of a task's losses.
use Rattle.std.specs.Prelude.{◌≡◌, List, Some}
use Rattle.nemo_base.specs.declared.graph.TaskGraph.{TaskGraph}
use Rattle.nemo_base.specs.declared.id.TaskId.{TaskId}
use Rattle.nemo_base.specs.Settings.{SettingsForm}
use Rattle.nemo_core.specs.Run.{HasState, losses}
use Rattle.nemo_core.specs.State.{State, task_at}
use Rattle.nemo_core.specs.declared.event.Event.{Event}
use Rattle.nemo_core.specs.declared.row.TaskRow.{TaskRow}

-- it is the number of evictions in the log that ended an attempt of the task or took a block of it
abbrev pub LossesLaw : Type 0
LossesLaw = (g : TaskGraph) (k : SettingsForm) (log : List Event) (s : State) (t : TaskId) (row : TaskRow) → HasState g k log s → task_at s t ≡ Some row → row.losses ≡ losses g k log t
