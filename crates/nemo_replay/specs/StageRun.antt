-- The run of a plan of one stage on one thread.
use Rattle.std.specs.Prelude.{◌≡◌, ℕ, ◌%◌, Bool, true, List, [], ◌∷◌, length, max, slice_index_or, Option, Some, None}
use Rattle.std.specs.List.{flat_map}
use Rattle.nemo_base.specs.declared.id.TaskId.{TaskId}
use Rattle.nemo_base.specs.Settings.{SettingsForm}
use Rattle.nemo_base.specs.declared.annotation.Class.TheVariants.{Transient}
use Rattle.nemo_core.specs.declared.event.Event.{Event}
use Rattle.nemo_core.specs.declared.event.Event.TheVariants.{Launch, Commit}
use Rattle.nemo_transform.specs.Gives.{Row, answers, rows_in}
use Rattle.nemo_transform.specs.Soundness.{is_sound}
use Rattle.nemo_transform.specs.declared.transform.Transform.{Transform}
use Rattle.nemo_ir.specs.Along.{below, passes}
use Rattle.nemo_ir.specs.Flat.{FlatForm, IsFlat, transform_of}
use Rattle.nemo_ir.specs.Line.{IsLine}
use Rattle.nemo_ir.specs.Part.{dealt_to}
use Rattle.nemo_ir.specs.Uniform.{first_tasks, is_uniform}
use Rattle.nemo_ir.specs.Valid.{Valid}
use Rattle.nemo_ir.specs.declared.flat.FlatVertex.{FlatVertex}
use Rattle.nemo_plan.specs.Form.{PlanForm}
use Rattle.nemo_laws.specs.Solo.{fitting}

-- the slot of a launch: among the slots that its task fits on, the one at the place of the launches so far, modulo their number
abbrev pub slot_of : SettingsForm → ℕ → ℕ
slot_of k launches = slice_index_or (fitting k Transient) (launches % max 1 (length (fitting k Transient))) 0

abbrev pub first_stage : ℕ → TaskId
first_stage i = record { stage = 0; index = i }

-- a task reads nothing, so it is launched and committed at once
abbrev pub turn : SettingsForm → ℕ → List Event
turn k i = Launch i (first_stage i) (slot_of k i) [] ∷ Commit i ∷ []

-- the turns of the first tasks
abbrev pub turns : SettingsForm → ℕ → List Event
turns k i = flat_map (turn k) (below i)

-- the plan that a uniform DAG makes of a line, which is one stage
pub record IsOneStage (p : PlanForm) : Type 0 where
  pub flat : IsFlat p.flat
  pub line : IsLine p.flat
  pub valid : Valid p.flat p.dag
  pub uniform : is_uniform p.dag ≡ true

-- how many tasks the one stage has
abbrev pub tasks_in : PlanForm → ℕ
tasks_in p = first_tasks p.dag.vertices

-- the vertex has a transform, which is sound
abbrev pub is_served : FlatForm → FlatVertex → Bool
is_served flat x = passes is_sound (transform_of flat x)

-- what task i of n makes of the rows before a vertex
abbrev pub rows_by : ℕ → ℕ → Option Transform → List Row → List Row
rows_by n i (Some t) rows = rows_in (answers (dealt_to n i t) rows [])
rows_by n i None rows = []

-- the rows that task i of n has after some vertices of a line, one after another, from these on
abbrev pub task_rows : FlatForm → ℕ → ℕ → List FlatVertex → List Row → List Row
task_rows flat n i [] rows = rows
task_rows flat n i (x ∷ xs) rows = task_rows flat n i xs (rows_by n i (transform_of flat x) rows)
