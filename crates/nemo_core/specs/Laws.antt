-- What holds of every run.
use Rattle.std.specs.Prelude.{◌≡◌, ◌↔◌, ◌⊎◌, ◌<◌, ◌&&◌, ◌==◌, ℕ, Bool, true, false, List, map, length, Some, None, slice_get, nat_lt, is_some, if◌then◌else◌}
use Rattle.nemo_base.specs.Cuts.{even_cuts}
use Rattle.nemo_base.specs.Needed.{is_sink, needed}
use Rattle.nemo_base.specs.Places.{item_at, passes}
use Rattle.nemo_base.specs.Settings.{AreInRange}
use Rattle.nemo_base.specs.Sound.{is_sound}
use Rattle.nemo_base.specs.declared.graph.TaskGraph.{TaskGraph}
use Rattle.nemo_base.specs.declared.graph.VertexRow.{VertexRow}
use Rattle.nemo_base.specs.declared.id.BlockId.{BlockId}
use Rattle.nemo_base.specs.declared.id.TaskId.{TaskId}
use Rattle.nemo_base.specs.declared.settings.Settings.{Settings}
use Rattle.nemo_core.specs.Kept.{IsKept}
use Rattle.nemo_core.specs.Run.{HasState}
use Rattle.nemo_core.specs.State.{State, all_held, blocks_read, held_at, holder, is_gone, is_needed, is_wanted, reads_held, task_at}
use Rattle.nemo_core.specs.Step.{after, all_decided, cuts_fit, fits, is_idle, lies_on, refusal}
use Rattle.nemo_core.specs.declared.event.Event.{Event}
use Rattle.nemo_core.specs.declared.event.Event.TheVariants.{Launch, Commit, Repeat, GiveBack, Evict, Repartition, Ignored, Decide, Fault, Spent, Starved, Drop, Finish}
use Rattle.nemo_core.specs.declared.event.HeldBy.{HeldBy}
use Rattle.nemo_core.specs.declared.event.Outcome.TheVariants.{Going}
use Rattle.nemo_core.specs.declared.row.TaskRow.{TaskRow}

---- states

-- the state of each log of steps keeps all this
abbrev pub StatesLaw : Type 0
StatesLaw = (g : TaskGraph) (k : Settings) (log : List Event) (s : State) → HasState g k log s → IsKept g k (length log) s

---- launches

-- what a launch of the task asks for, whatever its slot
abbrev pub is_ready : TaskGraph → Settings → State → TaskId → Bool
is_ready g k s t =
    is_some (task_at s t)
    && is_needed g s t
    && passes is_idle (task_at s t)
    && reads_held g s t
    && passes (λ row. nat_lt row.losses k.loss_bound) (task_at s t)
    && all_decided g s t.stage

-- the launch of the task on the slot, with the right number and names
abbrev pub next_launch : TaskGraph → State → TaskId → ℕ → Event
next_launch g s t slot = Launch s.launches t slot (map holder (blocks_read g s t))

-- the run goes on, the task is ready, and the slot is there and fits its class
pub record MayLaunch (g : TaskGraph) (k : Settings) (s : State) (t : TaskId) (slot : ℕ) : Type 0 where
  pub going : s.outcome ≡ Going
  pub ready : is_ready g k s t ≡ true
  pub there : slot < length s.incs
  pub class : passes (λ row. fits k slot row.class) (slice_get g.stages t.stage) ≡ true

-- a launch that was allowed has the next number, and names the attempts that hold what its task reads
pub record NamesRightly (g : TaskGraph) (s : State) (attempt : ℕ) (t : TaskId) (reads : List ℕ) : Type 0 where
  pub number : attempt ≡ s.launches
  pub names : reads ≡ map holder (blocks_read g s t)
  pub held : all_held (blocks_read g s t) ≡ true

pub record ReadyLaw : Type 0 where
  -- a launch is allowed exactly where the run goes on, the task is ready, and the slot is there and fits its class
  pub allowed : (g : TaskGraph) (k : Settings) (s : State) (t : TaskId) (slot : ℕ) → (refusal g k s (next_launch g s t slot) ≡ None) ↔ MayLaunch g k s t slot
  -- and there is no other launch that is allowed
  pub only : (g : TaskGraph) (k : Settings) (s : State) (attempt : ℕ) (t : TaskId) (slot : ℕ) (reads : List ℕ)
      → refusal g k s (Launch attempt t slot reads) ≡ None → NamesRightly g s attempt t reads × MayLaunch g k s t slot

---- blocks

-- the event takes block i of vertex v, which is held so: it evicts its slot, or drops it
abbrev pub takes : Event → ℕ → ℕ → HeldBy → Bool
takes (Launch attempt task slot reads) v i held = false
takes (Commit attempt) v i held = false
takes (Repeat attempt) v i held = false
takes (GiveBack attempt) v i held = false
takes (Evict slot) v i held = lies_on slot held
takes (Repartition vertex cuts) v i held = false
takes (Ignored vertex cuts) v i held = false
takes (Decide vertex cuts) v i held = false
takes (Fault attempt vertex kind rec) v i held = false
takes (Spent task) v i held = false
takes Starved v i held = false
takes (Drop block) v i held = (v == block.vertex) && (i == block.task)
takes Finish v i held = false

pub record StayingLaw : Type 0 where
  -- a block that is held stays with its holder, but where the event takes it
  pub held : (g : TaskGraph) (k : Settings) (s : State) (e : Event) (v i : ℕ) (h : HeldBy) → held_at s v i ≡ Some h
      → held_at (after g k s e) v i ≡ (if takes e v i h then None else Some h)
  -- no step takes a block of a sink
  pub sink : (g : TaskGraph) (k : Settings) (log : List Event) (s : State) (e : Event) (v i : ℕ) (h : HeldBy) → AreInRange k → HasState g k log s
      → refusal g k s e ≡ None → held_at s v i ≡ Some h → is_sink g v ≡ true → held_at (after g k s e) v i ≡ Some h
  -- a drop alone takes a block from a reserved slot
  pub reserved : (g : TaskGraph) (k : Settings) (s : State) (e : Event) (v i : ℕ) (h : HeldBy) (n : ℕ)
      → refusal g k s e ≡ None → held_at s v i ≡ Some h → h.slot ≡ Some n → n < k.reserved
      → (held_at (after g k s e) v i ≡ Some h) ⊎ (e ≡ Drop (record { vertex = v; task = i }))
  -- a drop changes no need and no want
  pub drop : (g : TaskGraph) (k : Settings) (s : State) (block : BlockId) → is_sound g ≡ true → refusal g k s (Drop block) ≡ None
      → (n i : ℕ) → (needed g (is_gone (after g k s (Drop block))) n i ≡ needed g (is_gone s) n i) × (is_wanted g (after g k s (Drop block)) n i ≡ is_wanted g s n i)

---- progress

-- no attempt runs
abbrev pub NoneRuns : State → Type 0
NoneRuns s = (stage i : ℕ) (row : TaskRow) → item_at s.tasks stage i ≡ Some row → is_idle row ≡ true

-- a launch is allowed, or a decision of a vertex by any cuts of the right number, as the even ones are, or the end by a task
-- that has lost too often, or the end of the work
pub data GoesOn (g : TaskGraph) (k : Settings) (s : State) : Type 0 where
  launches : (t : TaskId) (slot : ℕ) → refusal g k s (next_launch g s t slot) ≡ None → GoesOn g k s
  decides : (v : ℕ) (row : VertexRow) → slice_get g.vertices v ≡ Some row → cuts_fit (even_cuts row.parallelism) row ≡ true
      → ((cuts : List ℕ) → cuts_fit cuts row ≡ true → refusal g k s (Decide v cuts) ≡ None) → GoesOn g k s
  spends : (t : TaskId) → refusal g k s (Spent t) ≡ None → GoesOn g k s
  finishes : refusal g k s Finish ≡ None → GoesOn g k s

-- a run that goes on, and where no attempt runs, is never stuck
abbrev pub ProgressLaw : Type 0
ProgressLaw = (g : TaskGraph) (k : Settings) (log : List Event) (s : State) → is_sound g ≡ true → AreInRange k → HasState g k log s
    → s.outcome ≡ Going → NoneRuns s → GoesOn g k s
