-- Of the attempts that were launched some run, some committed, and no count passes the number of events.
use Rattle.std.proofs.Common.{arith, ◌≡◌, ap, refl, ℕ, zero, suc, ◌+◌, ◌≤◌, List, [], ◌∷◌, map, replicate, slice_get, Bool, true, false, Option, Some, None}
use Rattle.std.specs.Prelude.{◌==◌, if◌then◌else◌}
use Rattle.nemo_base.specs.Places.{map_at}
use Rattle.nemo_base.specs.declared.graph.StageRow.{StageRow}
use Rattle.nemo_base.specs.declared.graph.TaskGraph.{TaskGraph}
use Rattle.nemo_base.specs.declared.settings.Settings.{Settings}
use Rattle.nemo_core.specs.Kept.{AreCounted, busy, how_many_run, total}
use Rattle.nemo_core.specs.State.{State, fresh_task, fresh_tasks, start}
use Rattle.nemo_core.specs.Step.{after, conditions, idle, is_stage_of, refusal}
use Rattle.nemo_core.specs.declared.event.Event.{Event}
use Rattle.nemo_core.specs.declared.event.Event.TheVariants.{Launch, Commit, Repeat, GiveBack, Evict, Repartition, Ignored, Decide, Fault, Spent, Starved, Drop, Finish}
use Rattle.nemo_core.proofs.Allowed.{are_met}
use Rattle.nemo_core.proofs.Changed.{at_back}
use Rattle.nemo_core.proofs.KeptCounts.{all_ended, all_evicted, all_idle, one_ended, one_launched, row_idle_if, total_at_less}
use Rattle.nemo_core.proofs.KeptTasks.{fresh_is, replicate_is}
use Rattle.nemo_core.proofs.TaskRows.{task_before}

---- attempts

abbrev pub AreEnded : State → Type 0
AreEnded s = how_many_run s.tasks + s.commits ≤ s.launches

over_ended : (s : State) → AreEnded s → how_many_run (map (map idle) s.tasks) + s.commits ≤ s.launches
over_ended s kept = let less : how_many_run (map (map idle) s.tasks) ≤ how_many_run s.tasks = all_idle s.tasks in omega (arith, less, kept)

ended_step : (g : TaskGraph) (k : Settings) (s : State) (e : Event) → refusal g k s e ≡ None → AreEnded s → AreEnded (after g k s e)
ended_step g k s (Launch attempt task slot reads) none kept =
    let more : how_many_run (after g k s (Launch attempt task slot reads)).tasks ≤ how_many_run s.tasks + 1 = one_launched attempt task slot s.tasks in
    omega (arith, more, kept)
ended_step g k s (Commit attempt) none kept =
    let less : how_many_run (after g k s (Commit attempt)).tasks + 1 ≤ how_many_run s.tasks = one_ended attempt s.tasks (are_met (conditions g k s (Commit attempt)) none).1.1.0 in
    omega (arith, less, kept)
ended_step g k s (Repeat attempt) none kept = kept
ended_step g k s (GiveBack attempt) none kept =
    let less : how_many_run (after g k s (GiveBack attempt)).tasks ≤ how_many_run s.tasks = all_ended attempt s.tasks in
    omega (arith, less, kept)
ended_step g k s (Evict slot) none kept =
    let less : how_many_run (after g k s (Evict slot)).tasks ≤ how_many_run s.tasks = all_evicted g s slot s.tasks in
    omega (arith, less, kept)
ended_step g k s (Repartition vertex cuts) none kept =
    let less : how_many_run (after g k s (Repartition vertex cuts)).tasks ≤ how_many_run s.tasks =
    total_at_less (total busy) (λ stage rows. if is_stage_of g vertex stage then map idle rows else rows) 0 s.tasks (λ n row. row_idle_if (is_stage_of g vertex n) row) in
    omega (arith, less, kept)
ended_step g k s (Ignored vertex cuts) none kept = kept
ended_step g k s (Decide vertex cuts) none kept = kept
ended_step g k s (Fault attempt vertex kind rec) none kept = over_ended s kept
ended_step g k s (Spent task) none kept = over_ended s kept
ended_step g k s Starved none kept = over_ended s kept
ended_step g k s (Drop block) none kept = kept
ended_step g k s Finish none kept = over_ended s kept

launches_step : (g : TaskGraph) (k : Settings) (s : State) (e : Event) → (after g k s e).launches ≤ s.launches + 1
launches_step g k s (Launch attempt task slot reads) = omega arith
launches_step g k s (Commit attempt) = omega arith
launches_step g k s (Repeat attempt) = omega arith
launches_step g k s (GiveBack attempt) = omega arith
launches_step g k s (Evict slot) = omega arith
launches_step g k s (Repartition vertex cuts) = omega arith
launches_step g k s (Ignored vertex cuts) = omega arith
launches_step g k s (Decide vertex cuts) = omega arith
launches_step g k s (Fault attempt vertex kind rec) = omega arith
launches_step g k s (Spent task) = omega arith
launches_step g k s Starved = omega arith
launches_step g k s (Drop block) = omega arith
launches_step g k s Finish = omega arith

---- incarnations

record WasInc (o : Option ℕ) (inc : ℕ) : Type 0 where
  old : ℕ
  there : o ≡ Some old
  more : inc ≤ old + 1

inc_same : (o : Option ℕ) (inc : ℕ) → o ≡ Some inc → WasInc o inc
inc_same o inc e = record { old = inc; there = e; more = omega arith }

inc_evicted : (s : State) (slot n inc : ℕ) → slice_get (map_at (λ place n. if place == slot then n + 1 else n) 0 s.incs) n ≡ Some inc → WasInc (slice_get s.incs n) inc
inc_evicted s slot n inc e =
    let w = at_back (λ place n. if place == slot then n + 1 else n) s.incs n inc e in
    record { old = w.item; there = w.there; more = go w.item (n == slot) w.is }
  where
    go : (old : ℕ) (b : Bool) → inc ≡ (if b then old + 1 else old) → inc ≤ old + 1
    go old true is = omega (arith, is)
    go old false is = omega (arith, is)

inc_was : (g : TaskGraph) (k : Settings) (s : State) (e : Event) (n inc : ℕ) → slice_get (after g k s e).incs n ≡ Some inc → WasInc (slice_get s.incs n) inc
inc_was g k s (Launch attempt task slot reads) n inc is = inc_same (slice_get s.incs n) inc is
inc_was g k s (Commit attempt) n inc is = inc_same (slice_get s.incs n) inc is
inc_was g k s (Repeat attempt) n inc is = inc_same (slice_get s.incs n) inc is
inc_was g k s (GiveBack attempt) n inc is = inc_same (slice_get s.incs n) inc is
inc_was g k s (Evict slot) n inc is = inc_evicted s slot n inc is
inc_was g k s (Repartition vertex cuts) n inc is = inc_same (slice_get s.incs n) inc is
inc_was g k s (Ignored vertex cuts) n inc is = inc_same (slice_get s.incs n) inc is
inc_was g k s (Decide vertex cuts) n inc is = inc_same (slice_get s.incs n) inc is
inc_was g k s (Fault attempt vertex kind rec) n inc is = inc_same (slice_get s.incs n) inc is
inc_was g k s (Spent task) n inc is = inc_same (slice_get s.incs n) inc is
inc_was g k s Starved n inc is = inc_same (slice_get s.incs n) inc is
inc_was g k s (Drop block) n inc is = inc_same (slice_get s.incs n) inc is
inc_was g k s Finish n inc is = inc_same (slice_get s.incs n) inc is

---- all counts

pub counted_step : (g : TaskGraph) (k : Settings) (s : State) (e : Event) (taken : ℕ) → refusal g k s e ≡ None → AreCounted taken s → AreCounted (taken + 1) (after g k s e)
counted_step g k s e taken none kept =
    let ended : how_many_run (after g k s e).tasks + (after g k s e).commits ≤ (after g k s e).launches = ended_step g k s e none kept.ended in
    let up : (after g k s e).launches ≤ s.launches + 1 = launches_step g k s e in
    let before : s.launches ≤ taken = kept.launches in
    record {
      losses = λ stage i row there.
          let b = task_before g k s e stage i row there in
          let one : row.losses ≤ b.row.losses + 1 = b.comes.losses in
          let few : b.row.losses ≤ taken = kept.losses stage i b.row b.there in
          omega (arith, one, few);
      incs = λ n inc there.
          let w = inc_was g k s e n inc there in
          let one : inc ≤ w.old + 1 = w.more in
          let few : w.old ≤ taken = kept.incs n w.old w.there in
          omega (arith, one, few);
      launches = omega (arith, up, before);
      commits = omega (arith, up, before, ended);
      committed = omega (arith, ended);
      ended = ended;
    }

fresh_row : (n : ℕ) → total busy (replicate n fresh_task) ≡ 0
fresh_row zero = refl
fresh_row (suc n) = let rest : total busy (replicate n fresh_task) ≡ 0 = fresh_row n in omega (arith, rest)

fresh_rests : (stages : List StageRow) → how_many_run (map fresh_tasks stages) ≡ 0
fresh_rests [] = refl
fresh_rests (row ∷ rows) =
    let here : total busy (fresh_tasks row) ≡ 0 = fresh_row row.parallelism in
    let rest : how_many_run (map fresh_tasks rows) ≡ 0 = fresh_rests rows in
    omega (arith, here, rest)

pub counted_start : (g : TaskGraph) (k : Settings) → AreCounted 0 (start g k)
counted_start g k =
    let none : how_many_run (start g k).tasks ≡ 0 = fresh_rests g.stages in
    record {
      losses = λ stage i row there. let zero_lost : row.losses ≡ 0 = ap (λ r. r.losses) (fresh_is g.stages stage i row there) in omega (arith, zero_lost);
      incs = λ n inc there. let first : inc ≡ 0 = replicate_is (k.reserved + k.transient) 0 n inc there in omega (arith, first);
      launches = omega arith;
      commits = omega arith;
      committed = omega arith;
      ended = omega (arith, none);
    }
