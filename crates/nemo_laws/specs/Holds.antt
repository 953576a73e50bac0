-- Which logs are made of holds: what one call of the master adds to a log.
use Rattle.std.specs.Prelude.{◌≡◌, ◌<◌, ℕ, ◌==◌, ◌&&◌, not, Bool, true, false, List, [], ◌∷◌, ◌++◌, length, filter, map, slice_get, is_none, Option, Some, None, if◌then◌else◌}
use Rattle.std.specs.List.{flat_map, list_all}
use Rattle.nemo_base.specs.Places.{map_at, passes}
use Rattle.nemo_base.specs.declared.graph.TaskGraph.{TaskGraph}
use Rattle.nemo_base.specs.declared.id.BlockId.{BlockId}
use Rattle.nemo_base.specs.declared.id.TaskId.{TaskId}
use Rattle.nemo_base.specs.declared.script.Action.{Action}
use Rattle.nemo_base.specs.declared.script.Action.TheVariants.{Evict as EvictLine, Repartition as RepartitionLine}
use Rattle.nemo_base.specs.declared.script.ScriptLine.{ScriptLine}
use Rattle.nemo_base.specs.Settings.{SettingsForm}
use Rattle.nemo_value.specs.declared.expr.Kind.{Kind}
use Rattle.nemo_transform.specs.Gives.{Row}
use Rattle.nemo_ir.specs.Along.{below}
use Rattle.nemo_core.specs.declared.event.Event.{Event}
use Rattle.nemo_core.specs.declared.event.Event.TheVariants.{Launch, Commit, GiveBack, Evict, Repartition, Ignored, Decide, Fault, Spent, Starved, Drop, Finish}
use Rattle.nemo_core.specs.declared.event.HeldBy.{HeldBy}
use Rattle.nemo_core.specs.Reading.{first_task, launch_of, launchable}
use Rattle.nemo_core.specs.Run.{run_on}
use Rattle.nemo_core.specs.State.{State, Machine, blocks_read, start}
use Rattle.nemo_core.specs.Step.{after, is_decided, is_going, is_skewed, refusal, vertex_held}
use Rattle.nemo_laws.specs.Data.{state_of}

---- the script

-- the event of a line: a repartitioning that isn't allowed is logged as ignored
abbrev pub event_of : TaskGraph → SettingsForm → State → Action → Event
event_of g k s (EvictLine slot) = Evict slot
event_of g k s (RepartitionLine v cuts) = if is_none (refusal g k s (Repartition v cuts)) then Repartition v cuts else Ignored v cuts

-- the events of the lines that are due after n commits, in order
abbrev pub fired : TaskGraph → SettingsForm → ℕ → List ScriptLine → State → List Event
fired g k n [] s = []
fired g k n (line ∷ lines) s =
    if line.at == n then event_of g k s line.action ∷ fired g k n lines (after g k s (event_of g k s line.action)) else fired g k n lines s

---- what is spent

abbrev pub may_be_spent : TaskGraph → SettingsForm → State → ℕ → ℕ → Option TaskId
may_be_spent g k s stage i =
    let t : TaskId = record { stage = stage; index = i } in
    if is_none (refusal g k s (Spent t)) then Some t else None

-- the least needed idle task whose losses have reached the bound
abbrev pub least_spent : TaskGraph → SettingsForm → State → Option TaskId
least_spent g k s = first_task g (may_be_spent g k s)

---- decisions and a launch

-- the run goes on, and the vertex is skewed and undecided, and every block of its Triggers is held
abbrev pub may_decide : TaskGraph → State → ℕ → Bool
may_decide g s v = is_going s.outcome && passes (λ row. is_skewed row && not (is_decided s.cuts v) && list_all (vertex_held s) row.triggers) (slice_get g.vertices v)

-- a decision for each of these vertices, in order
abbrev pub Decisions : List ℕ → List Event → Type 0
Decisions [] [] = Unit {0}
Decisions (v ∷ vs) (Decide u cuts ∷ es) = (u ≡ v) × Decisions vs es
Decisions _ _ = ⊥

abbrev pub machine : TaskGraph → SettingsForm → State → Machine
machine g k s = record { graph = g; settings = k; state = s; taken = 0 }

abbrev pub launch_event : Machine → ℕ → Option TaskId → List Event
launch_event m slot (Some t) = launch_of m t slot ∷ []
launch_event m slot None = []

-- the launch of the least task that may be launched on the slot, where there is one
abbrev pub launch_on : TaskGraph → SettingsForm → State → ℕ → List Event
launch_on g k s slot = launch_event (machine g k s) slot (launchable (machine g k s) slot)

-- where nothing is spent, a decision for each vertex that may be decided, and then a launch on a slot
pub record IsLaunchHold (g : TaskGraph) (k : SettingsForm) (s : State) (es : List Event) : Type 0 where
  pub unspent : least_spent g k s ≡ None
  pub decisions : List Event
  pub decided : Decisions (filter (may_decide g s) (below (length g.vertices))) decisions
  pub slot : ℕ
  pub known : slot < length s.incs
  pub is : es ≡ decisions ++ launch_on g k (run_on g k s decisions) slot

---- a commit

abbrev pub finish_of : TaskGraph → SettingsForm → State → List Event
finish_of g k s = if is_none (refusal g k s Finish) then Finish ∷ [] else []

-- block i of vertex v
abbrev pub block : ℕ → ℕ → BlockId
block v i = record { vertex = v; task = i }

-- every block, in order of vertex and task
abbrev pub blocks_in : State → List BlockId
blocks_in s = flat_map (λ row. row) (map_at (λ v row. map_at (λ i held. block v i) 0 row) 0 s.blocks)

abbrev pub may_drop : TaskGraph → SettingsForm → State → BlockId → Bool
may_drop g k s b = is_none (refusal g k s (Drop b))

-- a drop of each block that may be dropped
abbrev pub drops : TaskGraph → SettingsForm → State → List Event
drops g k s = map Drop (filter (may_drop g k s) (blocks_in s))

-- a commit; the script lines that are due then; every drop that is allowed; and Finish exactly where every sink block is held
abbrev pub commit_hold : TaskGraph → SettingsForm → List ScriptLine → State → ℕ → List Event
commit_hold g k script s a =
    let t = after g k s (Commit a) in
    let lines = fired g k t.commits script t in
    let u = run_on g k t lines in
    let dropped = drops g k u in
    Commit a ∷ (lines ++ (dropped ++ finish_of g k (run_on g k u dropped)))

---- a lost read

-- the task that an attempt was launched for, and the attempts that its launch names
pub record Named : Type 0 where
  pub task : TaskId
  pub reads : List ℕ

abbrev pub named_by : ℕ → List Event → Option Named
named_by a [] = None
named_by a (Launch attempt task slot reads ∷ es) = if attempt == a then Some (record { task = task; reads = reads }) else named_by a es
named_by a (e ∷ es) = named_by a es

-- each block is held by the attempt that is named
abbrev pub are_held_by : List (Option HeldBy) → List ℕ → Bool
are_held_by [] [] = true
are_held_by (Some held ∷ blocks) (a ∷ names) = (held.attempt == a) && are_held_by blocks names
are_held_by _ _ = false

abbrev pub lost_read : TaskGraph → State → Named → Bool
lost_read g s n = not (are_held_by (blocks_read g s n.task) n.reads)

---- holds

-- a log that begins with the lines that are due before any commit, and goes on hold by hold
pub data Holds (g : TaskGraph) (k : SettingsForm) (script : List ScriptLine) : List Event → Type 0 where
  begins : Holds g k script (fired g k 0 script (start g k))
  spends : (log : List Event) (t : TaskId) → Holds g k script log → least_spent g k (state_of g k log) ≡ Some t → Holds g k script (log ++ Spent t ∷ [])
  launches : (log es : List Event) → Holds g k script log → IsLaunchHold g k (state_of g k log) es → Holds g k script (log ++ es)
  commits : (log : List Event) (a : ℕ) → Holds g k script log → Holds g k script (log ++ commit_hold g k script (state_of g k log) a)
  gives_back : (log : List Event) (a : ℕ) → Holds g k script log → passes (lost_read g (state_of g k log)) (named_by a log) ≡ true
      → Holds g k script (log ++ GiveBack a ∷ [])
  faults : (log : List Event) (a v : ℕ) (kind : Kind) (rec : Row) → Holds g k script log → Holds g k script (log ++ Fault a v kind rec ∷ [])
  starves : (log : List Event) → Holds g k script log → Holds g k script (log ++ Starved ∷ [])
