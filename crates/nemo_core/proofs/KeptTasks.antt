-- Attempts that run are single and rightly placed, and rest once the run is over.
use Rattle.std.proofs.Common.{arith, subst, ◌≡◌, ◌∙◌, ap, sym, refl, ℕ, zero, suc, ◌+◌, ◌<◌, ◌≤◌, List, [], ◌∷◌, map, length, replicate, slice_get, true, Some, None}
use Rattle.std.specs.Prelude.{◌==◌, if◌then◌else◌}
use Rattle.std.proofs.lemmas.Bool.{both_ways, ne_eqb}
use Rattle.nemo_base.specs.Places.{item_at, passes}
use Rattle.nemo_base.specs.declared.graph.StageRow.{StageRow}
use Rattle.nemo_base.specs.declared.graph.TaskGraph.{TaskGraph}
use Rattle.nemo_base.specs.declared.id.TaskId.{TaskId}
use Rattle.nemo_base.specs.declared.settings.Settings.{Settings}
use Rattle.nemo_base.proofs.Finding.{passes_at, passing, same_item}
use Rattle.nemo_core.specs.Kept.{AllRest, AreFirst, ArePlaced, IsPlaced}
use Rattle.nemo_core.specs.Laws.{MayLaunch}
use Rattle.nemo_core.specs.State.{State, fresh_task, fresh_tasks, runs, start}
use Rattle.nemo_core.specs.Step.{after, conditions, fits, idle, is_going, refusal}
use Rattle.nemo_core.specs.Within.{AreSingle, runs_at}
use Rattle.nemo_core.specs.declared.event.Event.{Event}
use Rattle.nemo_core.specs.declared.event.Event.TheVariants.{Launch, Commit, Repeat, GiveBack, Evict, Repartition, Ignored, Decide, Fault, Spent, Starved, Drop, Finish}
use Rattle.nemo_core.specs.declared.row.TaskRow.{TaskRow}
use Rattle.nemo_core.proofs.Allowed.{are_met}
use Rattle.nemo_core.proofs.Changed.{get_map_at, item_each, on}
use Rattle.nemo_core.proofs.KeptTables.{slots_length}
use Rattle.nemo_core.proofs.Launchable.{launch_only}
use Rattle.nemo_core.proofs.Single.{single_ended, single_fresh, single_idle, single_launched}
use Rattle.nemo_core.proofs.Staying.{evict_transient}
use Rattle.nemo_core.proofs.TaskRows.{goes_on, rests, starts, task_before}

---- single

-- what runs after an event that is no launch ran before it
record NoStart (e : Event) : Type 0 where
  never : (attempt : ℕ) (t : TaskId) (slot : ℕ) (reads : List ℕ) → e ≡ Launch attempt t slot reads → ⊥

ran_before : (g : TaskGraph) (k : Settings) (s : State) (e : Event) (attempt stage i : ℕ) → NoStart e → runs_at (after g k s e).tasks attempt stage i ≡ true → runs_at s.tasks attempt stage i ≡ true
ran_before g k s e attempt stage i quiet h =
    let p = passing (runs attempt) (item_at (after g k s e).tasks stage i) h in
    let b = task_before g k s e stage i p.item p.there in
    passes_at (runs attempt) (item_at s.tasks stage i) b.row b.there (elim b.comes.running as (λ r. runs attempt b.row ≡ true) [
      | rests none ↦ absurd (both_ways (runs attempt p.item) (ap (passes (λ a. a.number == attempt)) none) p.ok)
      | goes_on kept ↦ ap (passes (λ a. a.number == attempt)) (sym kept) ∙ p.ok
      | starts new ↦ absurd (quiet.never new.attempt new.task new.slot new.reads new.is)
    ])

single_before : (g : TaskGraph) (k : Settings) (s : State) (e : Event) → NoStart e → AreSingle s.tasks s.launches → AreSingle (after g k s e).tasks s.launches
single_before g k s e quiet single = record {
  launched = λ a t i h. single.launched a t i (ran_before g k s e a t i quiet h);
  one = λ a t i u j x y. single.one a t i u j (ran_before g k s e a t i quiet x) (ran_before g k s e a u j quiet y);
}

pub single_step : (g : TaskGraph) (k : Settings) (s : State) (e : Event) → refusal g k s e ≡ None → AreSingle s.tasks s.launches → AreSingle (after g k s e).tasks (after g k s e).launches
single_step g k s (Launch attempt task slot reads) none single =
    let next : attempt ≡ s.launches = (launch_only g k s attempt task slot reads none).0.number in
    subst (λ n. AreSingle (after g k s (Launch n task slot reads)).tasks (s.launches + 1)) (sym next) (single_launched s.tasks s.launches task slot single)
single_step g k s (Commit attempt) none single = single_ended s.tasks s.launches attempt single
single_step g k s (Repeat attempt) none single = single
single_step g k s (GiveBack attempt) none single = single_ended s.tasks s.launches attempt single
single_step g k s (Evict slot) none single = single_before g k s (Evict slot) (record { never = λ a t n r e. cc }) single
single_step g k s (Repartition vertex cuts) none single = single_before g k s (Repartition vertex cuts) (record { never = λ a t n r e. cc }) single
single_step g k s (Ignored vertex cuts) none single = single
single_step g k s (Decide vertex cuts) none single = single
single_step g k s (Fault attempt vertex kind rec) none single = single_idle s.tasks s.launches
single_step g k s (Spent task) none single = single_idle s.tasks s.launches
single_step g k s Starved none single = single_idle s.tasks s.launches
single_step g k s (Drop block) none single = single
single_step g k s Finish none single = single_idle s.tasks s.launches

---- the start

pub replicate_there : {X : Type 0} (n : ℕ) (x : X) (i : ℕ) → i < n → slice_get (replicate n x) i ≡ Some x
replicate_there zero x i h = absurd (omega arith)
replicate_there (suc n) x zero h = refl
replicate_there (suc n) x (suc i) h = replicate_there n x i (omega arith)

pub replicate_is : {X : Type 0} (n : ℕ) (x : X) (i : ℕ) (y : X) → slice_get (replicate n x) i ≡ Some y → y ≡ x
replicate_is zero x i y e = cc
replicate_is (suc n) x zero y e = sym (same_item x y e)
replicate_is (suc n) x (suc i) y e = replicate_is n x i y e

-- a task of the start is fresh
pub fresh_is : (stages : List StageRow) (stage i : ℕ) (row : TaskRow) → item_at (map fresh_tasks stages) stage i ≡ Some row → row ≡ fresh_task
fresh_is [] stage i row e = cc
fresh_is (r ∷ rows) zero i row e = replicate_is r.parallelism fresh_task i row e
fresh_is (r ∷ rows) (suc stage) i row e = fresh_is rows stage i row e

pub single_start : (g : TaskGraph) (k : Settings) → AreSingle (start g k).tasks (start g k).launches
single_start g k = single_fresh g.stages 0

pub placed_start : (g : TaskGraph) (k : Settings) → ArePlaced g k (start g k)
placed_start g k stage i row a there run =
    let none : None ≡ Some a = sym (ap (λ r. r.running) (fresh_is g.stages stage i row there)) ∙ run in cc

pub rest_start : (g : TaskGraph) (k : Settings) → AllRest (start g k)
rest_start g k over stage i row there = ap (λ r. r.running) (fresh_is g.stages stage i row there)

pub first_start : (g : TaskGraph) (k : Settings) → AreFirst k (start g k)
first_start g k n less = replicate_there (k.reserved + k.transient) 0 n (omega (arith, less))

---- placed

started : (g : TaskGraph) (k : Settings) (s : State) (e : Event) (attempt : ℕ) (t : TaskId) (slot : ℕ) (reads : List ℕ) → e ≡ Launch attempt t slot reads → refusal g k s e ≡ None → MayLaunch g k s t slot
started g k s e attempt t slot reads is none = (launch_only g k s attempt t slot reads (ap (refusal g k s) (sym is) ∙ none)).1

pub placed_step : (g : TaskGraph) (k : Settings) (s : State) (e : Event) → refusal g k s e ≡ None → ArePlaced g k s → ArePlaced g k (after g k s e)
placed_step g k s e none kept stage i row a there run =
    let b = task_before g k s e stage i row there in
    let long : length (after g k s e).incs ≡ length s.incs = slots_length g k s e in
    elim b.comes.running as (λ r. IsPlaced g k (after g k s e) stage a) [
      | rests gone ↦ let clash : None ≡ Some a = sym gone ∙ run in cc
      | goes_on same ↦
          let p = kept stage i b.row a b.there (sym same ∙ run) in
          let less : a.slot < length s.incs = p.slot in
          record { slot = omega (arith, less, long); class = p.class }
      | starts new ↦
          let m = started g k s e new.attempt new.task new.slot new.reads new.is none in
          let slot : a.slot ≡ new.slot = ap (λ x. x.slot) (same_item a (record { number = new.attempt; slot = new.slot }) (sym run ∙ new.runs)) in
          let less : new.slot < length s.incs = m.there in
          record {
            slot = omega (arith, less, long, slot);
            class = ap (λ n. passes (λ row. fits k n row.class) (slice_get g.stages stage)) slot
                ∙ ap (λ n. passes (λ row. fits k new.slot row.class) (slice_get g.stages n)) new.stage_is ∙ m.class;
          }
    ]

---- reserved slots

first_evicted : (g : TaskGraph) (k : Settings) (s : State) (slot : ℕ) → refusal g k s (Evict slot) ≡ None → AreFirst k s → AreFirst k (after g k s (Evict slot))
first_evicted g k s slot none kept n less =
    let high : k.reserved ≤ slot = evict_transient g k s slot none in
    let other : n ≡ slot → ⊥ = λ e. omega (arith, e, less, high) in
    get_map_at (λ place n. if place == slot then n + 1 else n) s.incs n
    ∙ ap (on (λ m. if n == slot then m + 1 else m)) (kept n less)
    ∙ ap (λ b. Some (if b then 0 + 1 else 0)) (ne_eqb n slot other)

pub first_step : (g : TaskGraph) (k : Settings) (s : State) (e : Event) → refusal g k s e ≡ None → AreFirst k s → AreFirst k (after g k s e)
first_step g k s (Launch attempt task slot reads) none kept = kept
first_step g k s (Commit attempt) none kept = kept
first_step g k s (Repeat attempt) none kept = kept
first_step g k s (GiveBack attempt) none kept = kept
first_step g k s (Evict slot) none kept = first_evicted g k s slot none kept
first_step g k s (Repartition vertex cuts) none kept = kept
first_step g k s (Ignored vertex cuts) none kept = kept
first_step g k s (Decide vertex cuts) none kept = kept
first_step g k s (Fault attempt vertex kind rec) none kept = kept
first_step g k s (Spent task) none kept = kept
first_step g k s Starved none kept = kept
first_step g k s (Drop block) none kept = kept
first_step g k s Finish none kept = kept

---- rest

rest_idle : (s : State) (stage i : ℕ) (row : TaskRow) → item_at (map (map idle) s.tasks) stage i ≡ Some row → row.running ≡ None
rest_idle s stage i row there = ap (λ r. r.running) (item_each idle s.tasks stage i row there).is

-- an event is allowed only while the run goes on
pub was_going : (g : TaskGraph) (k : Settings) (s : State) (e : Event) → refusal g k s e ≡ None → is_going s.outcome ≡ true
was_going g k s e none = (are_met (conditions g k s e) none).0

pub rest_step : (g : TaskGraph) (k : Settings) (s : State) (e : Event) → refusal g k s e ≡ None → AllRest (after g k s e)
rest_step g k s (Launch attempt task slot reads) none over stage i row there = absurd (both_ways (is_going s.outcome) over (was_going g k s (Launch attempt task slot reads) none))
rest_step g k s (Commit attempt) none over stage i row there = absurd (both_ways (is_going s.outcome) over (was_going g k s (Commit attempt) none))
rest_step g k s (Repeat attempt) none over stage i row there = absurd (both_ways (is_going s.outcome) over (was_going g k s (Repeat attempt) none))
rest_step g k s (GiveBack attempt) none over stage i row there = absurd (both_ways (is_going s.outcome) over (was_going g k s (GiveBack attempt) none))
rest_step g k s (Evict slot) none over stage i row there = absurd (both_ways (is_going s.outcome) over (was_going g k s (Evict slot) none))
rest_step g k s (Repartition vertex cuts) none over stage i row there = absurd (both_ways (is_going s.outcome) over (was_going g k s (Repartition vertex cuts) none))
rest_step g k s (Ignored vertex cuts) none over stage i row there = absurd (both_ways (is_going s.outcome) over (was_going g k s (Ignored vertex cuts) none))
rest_step g k s (Decide vertex cuts) none over stage i row there = absurd (both_ways (is_going s.outcome) over (was_going g k s (Decide vertex cuts) none))
rest_step g k s (Fault attempt vertex kind rec) none over stage i row there = rest_idle s stage i row there
rest_step g k s (Spent task) none over stage i row there = rest_idle s stage i row there
rest_step g k s Starved none over stage i row there = rest_idle s stage i row there
rest_step g k s (Drop block) none over stage i row there = absurd (both_ways (is_going s.outcome) over (was_going g k s (Drop block) none))
rest_step g k s Finish none over stage i row there = rest_idle s stage i row there
