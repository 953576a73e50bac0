-- Which events are steps, and the state after each.
use Rattle.std.specs.Prelude.{ℕ, suc, max, ◌+◌, ◌%◌, ◌==◌, ◌||◌, ◌&&◌, not, Bool, true, false, List, [], ◌∷◌, ◌++◌, Option, Some, None, map, length, slice_get, slice_index_or, is_some, is_none, nat_lt, nat_le, if◌then◌else◌}
use Rattle.std.specs.List.{list_all, list_any}
use Rattle.nemo_base.specs.Sound.{passes}
use Rattle.nemo_base.specs.declared.annotation.Class.{Class}
use Rattle.nemo_base.specs.declared.annotation.Class.TheVariants.{Reserved, Transient}
use Rattle.nemo_base.specs.declared.graph.Home.{Home}
use Rattle.nemo_base.specs.declared.graph.Home.TheVariants.{Master, Pushed, Local}
use Rattle.nemo_base.specs.declared.graph.TaskGraph.{TaskGraph}
use Rattle.nemo_base.specs.declared.graph.VertexRow.{VertexRow}
use Rattle.nemo_base.specs.declared.id.TaskId.{TaskId}
use Rattle.nemo_base.specs.declared.settings.Settings.{Settings}
use Rattle.nemo_base.specs.declared.why.Why.{Why}
use Rattle.nemo_base.specs.declared.why.Why.TheVariants.{Over, UnknownTask, UnknownSlot, NotNeeded, Busy, Missing, WrongClass, LossesFull, Undecided, BadName, UnknownAttempt, NotRunning, StillRunning, ReservedSlot, UnknownVertex, NotHashed, BadCuts, Sealed, Allowed, NotSkewed, Decided, LossesLeft, UnknownBlock, Kept, Wanted}
use Rattle.nemo_core.specs.declared.event.Event.{Event}
use Rattle.nemo_core.specs.declared.event.Event.TheVariants.{Launch, Commit, Repeat, GiveBack, Evict, Repartition, Ignored, Decide, Fault, Spent, Starved, Drop, Finish}
use Rattle.nemo_core.specs.declared.event.HeldBy.{HeldBy}
use Rattle.nemo_core.specs.declared.event.Outcome.{Outcome}
use Rattle.nemo_core.specs.declared.event.Outcome.TheVariants.{Going, Done, Faulted, Spent as SpentOut, Starved as StarvedOut}
use Rattle.nemo_core.specs.declared.row.Attempt.{Attempt}
use Rattle.nemo_core.specs.declared.row.CutsRow.{CutsRow}
use Rattle.nemo_core.specs.declared.row.TaskRow.{TaskRow}
use Rattle.nemo_core.specs.Needed.{blocks_of, is_sink}
use Rattle.nemo_core.specs.Numbered.{map_at, map_rows, any_at, row_at, item_at}
use Rattle.nemo_core.specs.State.{State, task_at, runs, is_running, held_at, is_needed, is_wanted, blocks_read, reads_held, all_held, holder, is_number}

-- CONDITIONS

abbrev pub is_going : Outcome → Bool
is_going Going = true
is_going Done = false
is_going Faulted = false
is_going SpentOut = false
is_going StarvedOut = false

abbrev pub is_idle : TaskRow → Bool
is_idle row = is_none row.running

-- tasks of class Reserved run on reserved slots, the others on transient ones, or on reserved ones where no slot is transient
abbrev pub fits : Settings → ℕ → Class → Bool
fits k slot Reserved = nat_lt slot k.reserved
fits k slot Transient = if k.transient == 0 then nat_lt slot k.reserved else nat_le k.reserved slot

abbrev pub is_skewed : VertexRow → Bool
is_skewed row = nat_lt 0 (length row.triggers)

abbrev pub is_decided : List CutsRow → ℕ → Bool
is_decided cuts v = passes (λ row. row.decided) (slice_get cuts v)

-- vertex v of the stage is skewed and not decided
abbrev pub is_open : List CutsRow → ℕ → ℕ → VertexRow → Bool
is_open cuts stage v row = (row.stage == stage) && is_skewed row && not (is_decided cuts v)

-- every skewed vertex of the stage is decided
abbrev pub all_decided : TaskGraph → State → ℕ → Bool
all_decided g s stage = not (any_at (is_open s.cuts stage) 0 g.vertices)

abbrev pub is_sealed : State → ℕ → Bool
is_sealed s stage = slice_index_or s.sealed stage false

-- as many cuts as the vertex has tasks, less one
abbrev pub cuts_fit : List ℕ → VertexRow → Bool
cuts_fit cuts row = suc (length cuts) == row.parallelism

-- every block of the vertex is held
abbrev pub vertex_held : State → ℕ → Bool
vertex_held s v = all_held (row_at s.blocks v)

-- vertex v is a sink, and one of its blocks is gone
abbrev pub lacks_sink : TaskGraph → ℕ → List (Option HeldBy) → Bool
lacks_sink g v blocks = is_sink g v && not (all_held blocks)

-- these are the attempts that hold the blocks
abbrev pub are_holders : List (Option HeldBy) → List ℕ → Bool
are_holders [] [] = true
are_holders [] (n ∷ ns) = false
are_holders (b ∷ bs) [] = false
are_holders (b ∷ bs) (n ∷ ns) = (n == holder b) && are_holders bs ns

-- the first condition that fails
abbrev pub first_failing : List (Bool × Why) → Option Why
first_failing [] = None
first_failing (c ∷ cs) = if c.0 then first_failing cs else Some c.1

-- what a launch of the task on the slot asks for, but for the names
abbrev pub launch_conditions : TaskGraph → Settings → State → TaskId → ℕ → List (Bool × Why)
launch_conditions g k s t slot =
    (is_some (task_at s t), UnknownTask)
    ∷ (nat_lt slot (length s.incs), UnknownSlot)
    ∷ (is_needed g s t, NotNeeded)
    ∷ (passes is_idle (task_at s t), Busy)
    ∷ (reads_held g s t, Missing)
    ∷ (passes (λ row. fits k slot row.class) (slice_get g.stages t.stage), WrongClass)
    ∷ (passes (λ row. nat_lt row.losses k.loss_bound) (task_at s t), LossesFull)
    ∷ (all_decided g s t.stage, Undecided)
    ∷ []

-- the attempt is running
abbrev pub running_conditions : State → ℕ → List (Bool × Why)
running_conditions s attempt =
    (nat_lt attempt s.launches, UnknownAttempt)
    ∷ (is_running s attempt, NotRunning)
    ∷ []

abbrev pub repartition_conditions : TaskGraph → State → ℕ → List ℕ → List (Bool × Why)
repartition_conditions g s v cuts =
    (is_some (slice_get g.vertices v), UnknownVertex)
    ∷ (passes (λ row. row.hashed) (slice_get g.vertices v), NotHashed)
    ∷ (passes (cuts_fit cuts) (slice_get g.vertices v), BadCuts)
    ∷ (passes (λ row. not (is_sealed s row.stage)) (slice_get g.vertices v), Sealed)
    ∷ []

-- the conditions of an event while the run goes on, in order, each with its refusal
abbrev pub own_conditions : TaskGraph → Settings → State → Event → List (Bool × Why)
own_conditions g k s (Launch attempt task slot reads) =
    launch_conditions g k s task slot
    ++ ((attempt == s.launches) && are_holders (blocks_read g s task) reads, BadName) ∷ []
own_conditions g k s (Commit attempt) = running_conditions s attempt
own_conditions g k s (Repeat attempt) =
    (nat_lt attempt s.launches, UnknownAttempt)
    ∷ (not (is_running s attempt), StillRunning)
    ∷ []
own_conditions g k s (GiveBack attempt) = running_conditions s attempt
own_conditions g k s (Evict slot) =
    (nat_lt slot (length s.incs), UnknownSlot)
    ∷ (nat_le k.reserved slot, ReservedSlot)
    ∷ []
own_conditions g k s (Repartition v cuts) = repartition_conditions g s v cuts
own_conditions g k s (Ignored v cuts) = (is_some (first_failing (repartition_conditions g s v cuts)), Allowed) ∷ []
own_conditions g k s (Decide v cuts) =
    (is_some (slice_get g.vertices v), UnknownVertex)
    ∷ (passes is_skewed (slice_get g.vertices v), NotSkewed)
    ∷ (not (is_decided s.cuts v), Decided)
    ∷ (passes (λ row. list_all (vertex_held s) row.triggers) (slice_get g.vertices v), Missing)
    ∷ (passes (cuts_fit cuts) (slice_get g.vertices v), BadCuts)
    ∷ []
own_conditions g k s (Fault attempt v kind rec) = running_conditions s attempt
own_conditions g k s (Spent t) =
    (is_some (task_at s t), UnknownTask)
    ∷ (is_needed g s t, NotNeeded)
    ∷ (passes is_idle (task_at s t), Busy)
    ∷ (passes (λ row. nat_le k.loss_bound row.losses) (task_at s t), LossesLeft)
    ∷ []
own_conditions g k s Starved = []
own_conditions g k s (Drop block) =
    (is_some (item_at s.blocks block.vertex block.task), UnknownBlock)
    ∷ (is_some (held_at s block.vertex block.task), Missing)
    ∷ (passes (λ row. row.discard) (slice_get g.vertices block.vertex), Kept)
    ∷ (not (is_wanted g s block.vertex block.task), Wanted)
    ∷ []
own_conditions g k s Finish = (not (any_at (lacks_sink g) 0 s.blocks), Missing) ∷ []

-- every event asks that the run goes on
abbrev pub conditions : TaskGraph → Settings → State → Event → List (Bool × Why)
conditions g k s e = (is_going s.outcome, Over) ∷ own_conditions g k s e

-- the first condition that fails
abbrev pub refusal : TaskGraph → Settings → State → Event → Option Why
refusal g k s e = first_failing (conditions g k s e)

-- EFFECTS

abbrev pub idle : TaskRow → TaskRow
idle row = record { running = None; losses = row.losses }

-- the task runs this attempt on this slot
abbrev pub launched : ℕ → TaskId → ℕ → ℕ → ℕ → TaskRow → TaskRow
launched attempt t slot stage i row =
    if (stage == t.stage) && (i == t.index)
    then record { running = Some (record { number = attempt; slot = slot }); losses = row.losses }
    else row

-- a task whose attempt this is becomes idle
abbrev pub ended : ℕ → TaskRow → TaskRow
ended attempt row = if runs attempt row then idle row else row

-- where block i of a vertex lies that an attempt on this slot makes. At least one slot is reserved.
abbrev pub home_of : Settings → List ℕ → ℕ → ℕ → Home → Attempt → HeldBy
home_of k incs attempt i Master a = record { slot = None; inc = 0; attempt = attempt }
home_of k incs attempt i Pushed a = record { slot = Some (i % max 1 k.reserved); inc = 0; attempt = attempt }
home_of k incs attempt i Local a = record { slot = Some a.slot; inc = slice_index_or incs a.slot 0; attempt = attempt }

-- who holds block i, which was gone, after the commit: this attempt, where the task runs it
abbrev pub made : Settings → List ℕ → ℕ → ℕ → Home → Option Attempt → Option HeldBy
made k incs attempt i home (Some a) = if is_number attempt a then Some (home_of k incs attempt i home a) else None
made k incs attempt i home None = None

abbrev pub running_of : Option TaskRow → Option Attempt
running_of (Some row) = row.running
running_of None = None

-- a held block stays as it is
abbrev pub filled : Settings → List ℕ → ℕ → Home → List TaskRow → ℕ → Option HeldBy → Option HeldBy
filled k incs attempt home rows i (Some held) = Some held
filled k incs attempt home rows i None = made k incs attempt i home (running_of (slice_get rows i))

-- the blocks of a vertex after the commit
abbrev pub filled_row : Settings → List ℕ → List (List TaskRow) → ℕ → Option VertexRow → List (Option HeldBy) → List (Option HeldBy)
filled_row k incs tasks attempt (Some row) blocks = map_at (filled k incs attempt row.home (row_at tasks row.stage)) 0 blocks
filled_row k incs tasks attempt None blocks = blocks

-- a stage is sealed, for good, once a task of it commits
abbrev pub sealed_by : List (List TaskRow) → ℕ → ℕ → Bool → Bool
sealed_by tasks attempt stage sealed = sealed || list_any (runs attempt) (row_at tasks stage)

abbrev pub lies_on : ℕ → HeldBy → Bool
lies_on slot held = passes (λ n. n == slot) held.slot

abbrev pub runs_on : ℕ → TaskRow → Bool
runs_on slot row = passes (λ a. a.slot == slot) row.running

-- the eviction of the slot ends the task's attempt or takes a block of it
abbrev pub is_touched : TaskGraph → State → ℕ → ℕ → ℕ → TaskRow → Bool
is_touched g s slot stage i row =
    runs_on slot row || list_any (λ v. passes (lies_on slot) (held_at s v i)) (blocks_of g stage)

-- what ran there ends, and who was touched loses one
abbrev pub evicted : TaskGraph → State → ℕ → ℕ → ℕ → TaskRow → TaskRow
evicted g s slot stage i row = record {
  running = if runs_on slot row then None else row.running;
  losses = if is_touched g s slot stage i row then row.losses + 1 else row.losses;
}

-- a block that lies there is gone
abbrev pub taken_from : ℕ → Option HeldBy → Option HeldBy
taken_from slot held = if passes (lies_on slot) held then None else held

-- the cuts of one vertex are these
abbrev pub recut : ℕ → List ℕ → ℕ → CutsRow → CutsRow
recut vertex cuts v row = if v == vertex then record { cuts = cuts; decided = row.decided } else row

abbrev pub decided : ℕ → List ℕ → ℕ → CutsRow → CutsRow
decided vertex cuts v row = if v == vertex then record { cuts = cuts; decided = true } else row

-- the stage of the vertex is this one
abbrev pub is_stage_of : TaskGraph → ℕ → ℕ → Bool
is_stage_of g v stage = passes (λ row. row.stage == stage) (slice_get g.vertices v)

-- the run has ended so, and with it every running attempt
abbrev pub over : Outcome → State → State
over outcome s = record s { outcome = outcome; tasks = map (map idle) s.tasks }

abbrev pub after : TaskGraph → Settings → State → Event → State
after g k s (Launch attempt task slot reads) = record s {
  launches = s.launches + 1;
  tasks = map_rows (launched attempt task slot) s.tasks;
}
after g k s (Commit attempt) = record s {
  commits = s.commits + 1;
  tasks = map (map (ended attempt)) s.tasks;
  sealed = map_at (sealed_by s.tasks attempt) 0 s.sealed;
  blocks = map_at (λ v blocks. filled_row k s.incs s.tasks attempt (slice_get g.vertices v) blocks) 0 s.blocks;
}
after g k s (Repeat attempt) = s
after g k s (GiveBack attempt) = record s { tasks = map (map (ended attempt)) s.tasks }
after g k s (Evict slot) = record s {
  incs = map_at (λ place n. if place == slot then n + 1 else n) 0 s.incs;
  tasks = map_rows (evicted g s slot) s.tasks;
  blocks = map (map (taken_from slot)) s.blocks;
}
after g k s (Repartition v cuts) = record s {
  cuts = map_at (recut v cuts) 0 s.cuts;
  tasks = map_at (λ stage rows. if is_stage_of g v stage then map idle rows else rows) 0 s.tasks;
}
after g k s (Ignored v cuts) = s
after g k s (Decide v cuts) = record s { cuts = map_at (decided v cuts) 0 s.cuts }
after g k s (Fault attempt v kind rec) = over Faulted s
after g k s (Spent t) = over SpentOut s
after g k s Starved = over StarvedOut s
after g k s (Drop block) = record s {
  blocks = map_rows (λ v i held. if (v == block.vertex) && (i == block.task) then None else held) s.blocks;
}
after g k s Finish = over Done s

-- the events that `Core::step` takes so far
abbrev pub is_built : Event → Bool
is_built (Launch attempt task slot reads) = true
is_built (Commit attempt) = true
is_built (Repeat attempt) = false
is_built (GiveBack attempt) = false
is_built (Evict slot) = false
is_built (Repartition v cuts) = false
is_built (Ignored v cuts) = false
is_built (Decide v cuts) = false
is_built (Fault attempt v kind rec) = false
is_built (Spent t) = false
is_built Starved = false
is_built (Drop block) = false
is_built Finish = true
