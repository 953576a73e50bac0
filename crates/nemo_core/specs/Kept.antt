-- What every state of a run keeps.
use Rattle.std.specs.Prelude.{◌≡◌, ◌+◌, ◌≤◌, ◌<◌, ℕ, suc, Bool, true, false, List, [], ◌∷◌, map, length, Option, Some, None, slice_get, nat_lt, if◌then◌else◌}
use Rattle.nemo_base.specs.Places.{is_in, item_at, passes}
use Rattle.nemo_base.specs.Settings.{AreInRange}
use Rattle.nemo_base.specs.Sound.{is_sound}
use Rattle.nemo_base.specs.declared.annotation.Class.{Class}
use Rattle.nemo_base.specs.declared.graph.Home.{Home}
use Rattle.nemo_base.specs.declared.graph.Home.TheVariants.{Master, Pushed, Local}
use Rattle.nemo_base.specs.declared.graph.StageRow.{StageRow}
use Rattle.nemo_base.specs.declared.graph.TaskGraph.{TaskGraph}
use Rattle.nemo_base.specs.declared.graph.VertexRow.{VertexRow}
use Rattle.nemo_base.specs.declared.settings.Settings.{Settings}
use Rattle.nemo_core.specs.State.{State, held_at, start}
use Rattle.nemo_core.specs.Step.{fits, is_going, is_idle}
use Rattle.nemo_core.specs.Within.{AreSingle}
use Rattle.nemo_core.specs.declared.event.HeldBy.{HeldBy}
use Rattle.nemo_core.specs.declared.row.Attempt.{Attempt}
use Rattle.nemo_core.specs.declared.row.CutsRow.{CutsRow}
use Rattle.nemo_core.specs.declared.row.TaskRow.{TaskRow}

-- each table has an entry for each of what the graph and the settings name
pub record HasTables (g : TaskGraph) (k : Settings) (s : State) : Type 0 where
  -- a task for each number below the parallelism of its stage
  pub tasks : map length s.tasks ≡ map (λ row. row.parallelism) g.stages
  pub sealed : length s.sealed ≡ length g.stages
  pub slots : length s.incs ≡ k.reserved + k.transient
  -- a vertex that has blocks has as many as tasks, another has none
  pub blocks : map length s.blocks ≡ map length (start g k).blocks
  pub cuts : length s.cuts ≡ length g.vertices

-- each vertex has as many cuts as tasks, less one
abbrev pub AllCutsFit : TaskGraph → State → Type 0
AllCutsFit g s = (v : ℕ) (vertex : VertexRow) (row : CutsRow) → slice_get g.vertices v ≡ Some vertex → slice_get s.cuts v ≡ Some row → suc (length row.cuts) ≡ vertex.parallelism

-- an attempt that runs does so on a slot that is there, and that fits the class of its stage
pub record IsPlaced (g : TaskGraph) (k : Settings) (s : State) (stage : ℕ) (a : Attempt) : Type 0 where
  pub slot : a.slot < length s.incs
  pub class : passes (λ row. fits k a.slot row.class) (slice_get g.stages stage) ≡ true

abbrev pub ArePlaced : TaskGraph → Settings → State → Type 0
ArePlaced g k s = (stage i : ℕ) (row : TaskRow) (a : Attempt) → item_at s.tasks stage i ≡ Some row → row.running ≡ Some a → IsPlaced g k s stage a

-- a reserved slot is in its first incarnation
abbrev pub AreFirst : Settings → State → Type 0
AreFirst k s = (n : ℕ) → n < k.reserved → slice_get s.incs n ≡ Some 0

-- the attempt that made a block that is held was launched
abbrev pub AreMade : State → Type 0
AreMade s = (v i : ℕ) (h : HeldBy) → held_at s v i ≡ Some h → h.attempt < s.launches

-- a block that lies on a slot is held by the slot's present incarnation
abbrev pub ArePresent : State → Type 0
ArePresent s = (v i : ℕ) (h : HeldBy) (n : ℕ) → held_at s v i ≡ Some h → h.slot ≡ Some n → slice_get s.incs n ≡ Some h.inc

-- a block of this home, made by a stage of this class, may lie there: with the master on no slot, pushed on a reserved
-- slot, else on a slot that fits the class
abbrev pub may_lie : Settings → Class → Home → Option ℕ → Bool
may_lie k class Master None = true
may_lie k class Master (Some n) = false
may_lie k class Pushed slot = passes (λ n. nat_lt n k.reserved) slot
may_lie k class Local slot = passes (λ n. fits k n class) slot

-- block i of vertex v, which is held so, is one of a vertex that has blocks, and lies where its home says
pub record IsHome (g : TaskGraph) (k : Settings) (v i : ℕ) (h : HeldBy) : Type 0 where
  pub vertex : VertexRow
  pub named : slice_get g.vertices v ≡ Some vertex
  pub stage : StageRow
  pub made_by : slice_get g.stages vertex.stage ≡ Some stage
  pub has : is_in v stage.blocks ≡ true
  pub below : i < vertex.parallelism
  pub lies : may_lie k stage.class vertex.home h.slot ≡ true

abbrev pub AreHome : TaskGraph → Settings → State → Type 0
AreHome g k s = (v i : ℕ) (h : HeldBy) → held_at s v i ≡ Some h → IsHome g k v i h

---- counts

abbrev pub total : {X : Type 0} → (X → ℕ) → List X → ℕ
total count [] = 0
total count (x ∷ xs) = count x + total count xs

-- 1 for a task that runs an attempt
abbrev pub busy : TaskRow → ℕ
busy row = if is_idle row then 0 else 1

-- how many attempts run
abbrev pub how_many_run : List (List TaskRow) → ℕ
how_many_run tasks = total (total busy) tasks

-- no count passes the number of events, and of the attempts that were launched some run, some committed, and the others ended otherwise
pub record AreCounted (taken : ℕ) (s : State) : Type 0 where
  pub losses : (stage i : ℕ) (row : TaskRow) → item_at s.tasks stage i ≡ Some row → row.losses ≤ taken
  pub incs : (n inc : ℕ) → slice_get s.incs n ≡ Some inc → inc ≤ taken
  pub launches : s.launches ≤ taken
  pub commits : s.commits ≤ taken
  pub committed : s.commits ≤ s.launches
  pub ended : how_many_run s.tasks + s.commits ≤ s.launches

-- once the run is over, no attempt runs
abbrev pub AllRest : State → Type 0
AllRest s = is_going s.outcome ≡ false → (stage i : ℕ) (row : TaskRow) → item_at s.tasks stage i ≡ Some row → row.running ≡ None

-- what a state keeps after so many events
pub record IsKept (g : TaskGraph) (k : Settings) (taken : ℕ) (s : State) : Type 0 where
  pub tables : HasTables g k s
  pub cuts : is_sound g ≡ true → AllCutsFit g s
  pub single : AreSingle s.tasks s.launches
  pub placed : ArePlaced g k s
  pub first : AreInRange k → AreFirst k s
  pub made : AreMade s
  pub present : AreInRange k → ArePresent s
  pub home : AreInRange k → AreHome g k s
  pub counted : AreCounted taken s
  pub rest : AllRest s
