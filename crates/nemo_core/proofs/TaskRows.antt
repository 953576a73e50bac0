-- What an event makes of a task.
use Rattle.std.proofs.Common.{arith, ◌≡◌, ◌∙◌, ap, sym, refl, ℕ, ◌+◌, ◌≤◌, List, [], map, slice_get, Bool, true, false, Option, Some, None}
use Rattle.std.specs.Prelude.{◌&&◌, ◌==◌, if◌then◌else◌}
use Rattle.std.proofs.lemmas.Bool.{and_parts, eqb-true}
use Rattle.nemo_base.specs.Places.{item_at, row_at}
use Rattle.nemo_base.specs.declared.graph.TaskGraph.{TaskGraph}
use Rattle.nemo_base.specs.declared.id.TaskId.{TaskId}
use Rattle.nemo_base.specs.declared.settings.Settings.{Settings}
use Rattle.nemo_core.specs.State.{State, runs}
use Rattle.nemo_core.specs.Step.{after, ended, evicted, idle, is_stage_of, is_touched, launched, runs_on}
use Rattle.nemo_core.specs.declared.event.Event.{Event}
use Rattle.nemo_core.specs.declared.event.Event.TheVariants.{Launch, Commit, Repeat, GiveBack, Evict, Repartition, Ignored, Decide, Fault, Spent, Starved, Drop, Finish}
use Rattle.nemo_core.specs.declared.row.Attempt.{Attempt}
use Rattle.nemo_core.specs.declared.row.TaskRow.{TaskRow}
use Rattle.nemo_core.proofs.Changed.{Was, item_each, item_row, item_rows, map_back}

-- the launch starts this attempt in task i of the stage
pub record Starts (e : Event) (stage i : ℕ) (new : Option Attempt) : Type 0 where
  pub attempt : ℕ
  pub task : TaskId
  pub slot : ℕ
  pub reads : List ℕ
  pub is : e ≡ Launch attempt task slot reads
  pub stage_is : stage ≡ task.stage
  pub place_is : i ≡ task.index
  pub runs : new ≡ Some (record { number = attempt; slot = slot })

-- a task runs nothing, or what it ran, or what the launch starts
pub data Runs (e : Event) (stage i : ℕ) (old new : Option Attempt) : Type 0 where
  rests : new ≡ None → Runs e stage i old new
  goes_on : new ≡ old → Runs e stage i old new
  starts : Starts e stage i new → Runs e stage i old new

-- the row comes from this one, and has lost at most once more
pub record Comes (e : Event) (stage i : ℕ) (old new : TaskRow) : Type 0 where
  pub running : Runs e stage i old.running new.running
  pub losses : new.losses ≤ old.losses + 1

---- one row

same : (e : Event) (stage i : ℕ) (row : TaskRow) → Comes e stage i row row
same e stage i row = record { running = goes_on refl; losses = omega arith }

rested : (e : Event) (stage i : ℕ) (row : TaskRow) → Comes e stage i row (idle row)
rested e stage i row = record { running = rests refl; losses = omega arith }

comes_launched : (attempt : ℕ) (t : TaskId) (slot : ℕ) (reads : List ℕ) (stage i : ℕ) (row : TaskRow) → Comes (Launch attempt t slot reads) stage i row (launched attempt t slot stage i row)
comes_launched attempt t slot reads stage i row = go ((stage == t.stage) && (i == t.index)) refl
  where
    new : TaskRow
    new = record { running = Some (record { number = attempt; slot = slot }); losses = row.losses }

    go : (b : Bool) → ((stage == t.stage) && (i == t.index)) ≡ b → Comes (Launch attempt t slot reads) stage i row (if b then (record { running = Some (record { number = attempt; slot = slot }); losses = row.losses }) else row)
    go true e =
        let p = and_parts (stage == t.stage) (i == t.index) e in
        record {
          running = starts (record { attempt = attempt; task = t; slot = slot; reads = reads; is = refl; stage_is = eqb-true stage t.stage p.0; place_is = eqb-true i t.index p.1; runs = refl });
          losses = omega arith;
        }
    go false e = same (Launch attempt t slot reads) stage i row

comes_ended : (e : Event) (attempt stage i : ℕ) (row : TaskRow) → Comes e stage i row (ended attempt row)
comes_ended e attempt stage i row = go (runs attempt row)
  where
    go : (b : Bool) → Comes e stage i row (if b then idle row else row)
    go true = rested e stage i row
    go false = same e stage i row

comes_evicted : (e : Event) (g : TaskGraph) (s : State) (slot stage i : ℕ) (row : TaskRow) → Comes e stage i row (evicted g s slot stage i row)
comes_evicted e g s slot stage i row = record { running = run (runs_on slot row); losses = lost (is_touched g s slot stage i row) }
  where
    run : (b : Bool) → Runs e stage i row.running (if b then None else row.running)
    run true = rests refl
    run false = goes_on refl

    lost : (b : Bool) → (if b then row.losses + 1 else row.losses) ≤ row.losses + 1
    lost true = omega arith
    lost false = omega arith

---- the row that was there

-- task i of the stage was this before
pub record Before (s : State) (e : Event) (stage i : ℕ) (new : TaskRow) : Type 0 where
  pub row : TaskRow
  pub there : item_at s.tasks stage i ≡ Some row
  pub comes : Comes e stage i row new

to_new : (e : Event) (stage i : ℕ) (old x y : TaskRow) → y ≡ x → Comes e stage i old x → Comes e stage i old y
to_new e stage i old x y is c = record {
  running = elim c.running as (λ r. Runs e stage i old.running y.running) [
    | rests none ↦ rests (ap (λ t. t.running) is ∙ none)
    | goes_on kept ↦ goes_on (ap (λ t. t.running) is ∙ kept)
    | starts new ↦ starts (record { attempt = new.attempt; task = new.task; slot = new.slot; reads = new.reads; is = new.is; stage_is = new.stage_is; place_is = new.place_is; runs = ap (λ t. t.running) is ∙ new.runs })
  ];
  losses = let lost : y.losses ≡ x.losses = ap (λ t. t.losses) is in let few : x.losses ≤ old.losses + 1 = c.losses in omega (arith, lost, few);
}

from_was : (s : State) (e : Event) (stage i : ℕ) (new : TaskRow) (make : TaskRow → TaskRow) → ((row : TaskRow) → Comes e stage i row (make row)) → Was make (item_at s.tasks stage i) new → Before s e stage i new
from_was s e stage i new make comes w = record { row = w.item; there = w.there; comes = to_new e stage i w.item (make w.item) new w.is (comes w.item) }

there_before : (s : State) (e : Event) (stage i : ℕ) (row : TaskRow) → item_at s.tasks stage i ≡ Some row → Before s e stage i row
there_before s e stage i row there = record { row = row; there = there; comes = same e stage i row }

idle_before : (s : State) (e : Event) (stage i : ℕ) (new : TaskRow) → item_at (map (map idle) s.tasks) stage i ≡ Some new → Before s e stage i new
idle_before s e stage i new is = from_was s e stage i new idle (rested e stage i) (item_each idle s.tasks stage i new is)

ended_before : (s : State) (e : Event) (attempt stage i : ℕ) (new : TaskRow) → item_at (map (map (ended attempt)) s.tasks) stage i ≡ Some new → Before s e stage i new
ended_before s e attempt stage i new is = from_was s e stage i new (ended attempt) (comes_ended e attempt stage i) (item_each (ended attempt) s.tasks stage i new is)

-- the tasks of the stages whose test holds become idle
abbrev pub idle_if : Bool → List TaskRow → List TaskRow
idle_if b rows = if b then map idle rows else rows

idle_none : (b : Bool) → idle_if b [] ≡ []
idle_none true = refl
idle_none false = refl

idle_if_before : (s : State) (e : Event) (stage i : ℕ) (new : TaskRow) (b : Bool) → slice_get (idle_if b (row_at s.tasks stage)) i ≡ Some new → Before s e stage i new
idle_if_before s e stage i new true is = from_was s e stage i new idle (rested e stage i) (map_back idle (row_at s.tasks stage) i new is)
idle_if_before s e stage i new false is = there_before s e stage i new is

pub task_before : (g : TaskGraph) (k : Settings) (s : State) (e : Event) (stage i : ℕ) (new : TaskRow) → item_at (after g k s e).tasks stage i ≡ Some new → Before s e stage i new
task_before g k s (Launch attempt task slot reads) stage i new is =
    from_was s (Launch attempt task slot reads) stage i new (launched attempt task slot stage i) (comes_launched attempt task slot reads stage i) (item_rows (launched attempt task slot) s.tasks stage i new is)
task_before g k s (Commit attempt) stage i new is = ended_before s (Commit attempt) attempt stage i new is
task_before g k s (Repeat attempt) stage i new is = there_before s (Repeat attempt) stage i new is
task_before g k s (GiveBack attempt) stage i new is = ended_before s (GiveBack attempt) attempt stage i new is
task_before g k s (Evict slot) stage i new is =
    from_was s (Evict slot) stage i new (evicted g s slot stage i) (comes_evicted (Evict slot) g s slot stage i) (item_rows (evicted g s slot) s.tasks stage i new is)
task_before g k s (Repartition vertex cuts) stage i new is =
    idle_if_before s (Repartition vertex cuts) stage i new (is_stage_of g vertex stage)
    (sym (item_row (λ n rows. idle_if (is_stage_of g vertex n) rows) s.tasks stage i (λ n. idle_none (is_stage_of g vertex n))) ∙ is)
task_before g k s (Ignored vertex cuts) stage i new is = there_before s (Ignored vertex cuts) stage i new is
task_before g k s (Decide vertex cuts) stage i new is = there_before s (Decide vertex cuts) stage i new is
task_before g k s (Fault attempt vertex kind rec) stage i new is = idle_before s (Fault attempt vertex kind rec) stage i new is
task_before g k s (Spent task) stage i new is = idle_before s (Spent task) stage i new is
task_before g k s Starved stage i new is = idle_before s Starved stage i new is
task_before g k s (Drop block) stage i new is = there_before s (Drop block) stage i new is
task_before g k s Finish stage i new is = idle_before s Finish stage i new is
