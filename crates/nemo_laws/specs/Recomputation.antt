-- What is computed again is what was lost: what holds of the data along every legal log.
use Rattle.std.specs.Prelude.{◌≡◌, ◌<◌, ℕ, true, false, List, [], ◌∷◌, ◌++◌, length, map, slice_get, Option, Some, None, if◌then◌else◌}
use Rattle.std.specs.List.{flat_map}
use Rattle.nemo_base.specs.Settings.{SettingsForm}
use Rattle.nemo_base.specs.declared.graph.Read.{Read}
use Rattle.nemo_base.specs.declared.graph.TaskGraph.{TaskGraph}
use Rattle.nemo_base.specs.declared.graph.VertexRow.{VertexRow}
use Rattle.nemo_base.specs.declared.id.BlockId.{BlockId}
use Rattle.nemo_base.specs.declared.id.TaskId.{TaskId}
use Rattle.nemo_value.specs.Members.{In}
use Rattle.nemo_transform.specs.Brought.{nothing}
use Rattle.nemo_ir.specs.Along.{below}
use Rattle.nemo_ir.specs.Flat.{IsFlat}
use Rattle.nemo_ir.specs.Part.{part}
use Rattle.nemo_ir.specs.Rewrites.{IsAssignment, Leads}
use Rattle.nemo_ir.specs.Valid.{Valid}
use Rattle.nemo_core.specs.Run.{HasState}
use Rattle.nemo_core.specs.State.{State, blocks_read, held_at, holder, reads_of, start, task_at}
use Rattle.nemo_core.specs.Step.{after, all_decided, is_sealed, refusal}
use Rattle.nemo_core.specs.declared.event.Event.{Event}
use Rattle.nemo_core.specs.declared.event.Event.TheVariants.{Launch}
use Rattle.nemo_core.specs.declared.event.HeldBy.{HeldBy}
use Rattle.nemo_core.specs.declared.row.Attempt.{Attempt}
use Rattle.nemo_core.specs.declared.row.TaskRow.{TaskRow}
use Rattle.nemo_plan.specs.Form.{PlanForm, graph}
use Rattle.nemo_plan.specs.Over.{is_of_stage}
use Rattle.nemo_plan.specs.Stages.{stages_of}
use Rattle.nemo_laws.specs.Data.{Ran, cuts_at, given_by, launched_as, ran_of, state_of, with_attempt}
use Rattle.nemo_laws.specs.Legal.{IsHonest, Legal}

-- attempt a was launched, what it gave at vertex v is the part of task i there under the present cuts, and that part has no fault
pub record IsPart (p : PlanForm) (ran : List Ran) (s : State) (a v i : ℕ) : Type 0 where
  pub launched : a < length ran
  pub is : given_by ran a v ≡ part p.flat p.dag (cuts_at s) v i
  pub faultless : (part p.flat p.dag (cuts_at s) v i).faults ≡ []

-- the blocks of a vertex that a task reads: all of them where the read is wide, else the one of its own number
abbrev pub tasks_in : Option VertexRow → ℕ
tasks_in (Some row) = row.parallelism
tasks_in None = 0

abbrev pub block_of : ℕ → ℕ → BlockId
block_of v j = record { vertex = v; task = j }

abbrev pub named_in : TaskGraph → ℕ → Read → List BlockId
named_in g i r = if r.wide then map (block_of r.vertex) (below (tasks_in (slice_get g.vertices r.vertex))) else block_of r.vertex i ∷ []

-- the blocks that a task reads, in order
abbrev pub named : TaskGraph → TaskId → List BlockId
named g t = flat_map (named_in g t.index) (reads_of g t.stage)

-- every stage that this one reads is sealed
abbrev pub AreReadsSealed : TaskGraph → State → ℕ → Type 0
AreReadsSealed g s stage = (r : Read) (row : VertexRow) → In r (reads_of g stage) → slice_get g.vertices r.vertex ≡ Some row → is_sealed s row.stage ≡ true

-- a running attempt of the task, as it was launched
pub record RunsRightly (p : PlanForm) (g : TaskGraph) (ran : List Ran) (s : State) (t : TaskId) (a : ℕ) : Type 0 where
  pub launch : Ran
  pub number : slice_get ran a ≡ Some launch
  pub task : launch.task ≡ t
  -- at each vertex of its stage it gives the part of its task under the present cuts, with the faults
  pub gives : (v : ℕ) → is_of_stage (stages_of p.flat p.dag) t.stage v ≡ true → launch.gives v ≡ part p.flat p.dag (cuts_at s) v t.index
  -- and at each other vertex nothing
  pub others : (v : ℕ) → is_of_stage (stages_of p.flat p.dag) t.stage v ≡ false → launch.gives v ≡ nothing
  -- it was launched under cuts that agree with the present ones on the vertices of its stage and their ancestors
  pub cuts : (u v : ℕ) → is_of_stage (stages_of p.flat p.dag) t.stage v ≡ true → Leads p.dag u v → launch.cuts u ≡ cuts_at s u
  -- each block that it reads was held, by an attempt that gave the part of it
  pub reads : (n : ℕ) (b : BlockId) → slice_get (named g t) n ≡ Some b
      → (h : HeldBy) × (slice_get launch.reads n ≡ Some (Some h)) × IsPart p ran s h.attempt b.vertex b.task
  pub sealed : AreReadsSealed g s t.stage

-- so it is of a plan whose graph this is
pub record IsRightOn (p : PlanForm) (g : TaskGraph) (ran : List Ran) (s : State) : Type 0 where
  pub count : length ran ≡ s.launches
  pub assignment : IsAssignment p.dag (cuts_at s)
  -- a block that is held is its part under the present cuts, and that part has no fault
  pub held : (v i : ℕ) (h : HeldBy) → held_at s v i ≡ Some h → IsPart p ran s h.attempt v i
  -- the stage of a held block is sealed, and so is each that a sealed stage reads
  pub sealed : (v i : ℕ) (h : HeldBy) (row : VertexRow) → held_at s v i ≡ Some h → slice_get g.vertices v ≡ Some row → is_sealed s row.stage ≡ true
  pub reads : (stage : ℕ) → is_sealed s stage ≡ true → AreReadsSealed g s stage
  -- every skewed vertex of a sealed stage is decided
  pub settled : (stage : ℕ) → is_sealed s stage ≡ true → all_decided g s stage ≡ true
  pub running : (t : TaskId) (row : TaskRow) (a : Attempt) → task_at s t ≡ Some row → row.running ≡ Some a → RunsRightly p g ran s t a.number
  -- no attempt of a stage with an undecided skewed vertex was launched
  pub decided : (a : ℕ) (r : Ran) → slice_get ran a ≡ Some r → all_decided g s r.task.stage ≡ true

-- what holds after each event of a legal log
abbrev pub IsRight : PlanForm → List Ran → State → Type 0
IsRight p ran s = IsRightOn p (graph p) ran s

pub record RecomputationLaw : Type 0 where
  -- so it is at the start
  pub start : (p : PlanForm) (k : SettingsForm) → IsFlat p.flat → Valid p.flat p.dag → IsRight p [] (start (graph p) k)
  -- one event more keeps it
  pub step : (p : PlanForm) (k : SettingsForm) (log : List Event) (s : State) (ran : List Ran) (e : Event) → IsFlat p.flat → Valid p.flat p.dag
      → HasState (graph p) k log s → IsRight p ran s → refusal (graph p) k s e ≡ None → IsHonest p k s ran e
      → IsRight p (with_attempt p s ran e) (after (graph p) k s e)
  -- so it is after every legal log
  pub legal : (p : PlanForm) (k : SettingsForm) (log : List Event) → IsFlat p.flat → Valid p.flat p.dag → Legal p k log
      → IsRight p (ran_of p k log) (state_of (graph p) k log)
  -- and each launch has the next number, names those who hold what its task reads, and stands in the attempts as it was launched
  pub names : (p : PlanForm) (k : SettingsForm) (before later : List Event) (a : ℕ) (t : TaskId) (slot : ℕ) (reads : List ℕ)
      → Legal p k (before ++ Launch a t slot reads ∷ later)
      → (a ≡ length (ran_of p k before)) × (reads ≡ map holder (blocks_read (graph p) (state_of (graph p) k before) t))
      × (slice_get (ran_of p k (before ++ Launch a t slot reads ∷ later)) a ≡ Some (launched_as p (ran_of p k before) (state_of (graph p) k before) t slot))
