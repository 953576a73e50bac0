-- An attempt that runs was launched, and one task runs it: each event keeps this.
use Rattle.std.proofs.Common.{arith, subst, ◌≤◌, ◌^◌, ◌≡◌, ◌∙◌, ap, sym, refl, ℕ, zero, suc, ◌+◌, ◌<◌, List, [], ◌∷◌, map, length, replicate, slice_get, Bool, true, false, cond, Option, Some, None, ◌⊎◌, inl, inr, ⊎_elim}
use Rattle.std.proofs.lemmas.Bool.{eqb-true}
use Rattle.std.proofs.lemmas.List.{length-map, length-replicate, length-set}
use Rattle.std.specs.Prelude.{slice_set}
use Rattle.std.specs.Cmp.{first_so, second_so}
use Rattle.std.specs.Prelude.{◌&&◌, ◌==◌}
use Rattle.nemo_base.specs.Places.{item_at, map_at, map_rows, passes}
use Rattle.nemo_base.specs.declared.graph.StageRow.{StageRow}
use Rattle.nemo_base.specs.declared.id.TaskId.{TaskId}
use Rattle.nemo_core.specs.State.{fresh_task, fresh_tasks, runs}
use Rattle.nemo_core.specs.Step.{ended, idle, launched}
use Rattle.nemo_core.specs.Within.{AreSingle, IsWithin, RunsOnly, runs_at}
use Rattle.nemo_core.specs.declared.row.TaskRow.{TaskRow}
use Rattle.nemo_core.proofs.Changed.{item_each, item_rows, length_map_at}

---- who runs

-- there is a row that runs the attempt
record Found (o : Option TaskRow) (attempt : ℕ) : Type 0 where
  row : TaskRow
  there : o ≡ Some row
  runs_it : runs attempt row ≡ true

found : (o : Option TaskRow) (attempt : ℕ) → passes (runs attempt) o ≡ true → Found o attempt
found (Some row) attempt h = record { row = row; there = refl; runs_it = h }
found None attempt h = cc

back : (tasks : List (List TaskRow)) (attempt s i : ℕ) (row : TaskRow) → item_at tasks s i ≡ Some row → runs attempt row ≡ true → runs_at tasks attempt s i ≡ true
back tasks attempt s i row is h = ap (passes (runs attempt)) is ∙ h

---- a launch

-- the launched task runs the new attempt, or the task ran it before
record IsLaunched (attempt stage i n s j : ℕ) : Type 0 where
  number : attempt ≡ n
  stage_is : stage ≡ s
  place_is : i ≡ j

launched_runs : (tasks : List (List TaskRow)) (n : ℕ) (t : TaskId) (slot attempt s i : ℕ) → runs_at (map_rows (launched n t slot) tasks) attempt s i ≡ true
    → IsLaunched attempt s i n t.stage t.index ⊎ (runs_at tasks attempt s i ≡ true)
launched_runs tasks n t slot attempt s i h =
    let f = found (item_at (map_rows (launched n t slot) tasks) s i) attempt h in
    let w = item_rows (launched n t slot) tasks s i f.row f.there in
    go w.item w.there ((s == t.stage) && (i == t.index)) refl (ap (runs attempt) (sym w.is) ∙ f.runs_it)
  where
    go : (row : TaskRow) → item_at tasks s i ≡ Some row → (b : Bool) → ((s == t.stage) && (i == t.index)) ≡ b → runs attempt (cond ((s == t.stage) && (i == t.index)) (record { running = Some (record { number = n; slot = slot }); losses = row.losses }) row) ≡ true
        → IsLaunched attempt s i n t.stage t.index ⊎ (runs_at tasks attempt s i ≡ true)
    go row there true e r =
        let new : (n == attempt) ≡ true = ap (λ b. runs attempt (cond b (record { running = Some (record { number = n; slot = slot }); losses = row.losses }) row)) (sym e) ∙ r in
        inl (record {
          number = sym (eqb-true n attempt new);
          stage_is = eqb-true s t.stage (first_so (s == t.stage) (i == t.index) e);
          place_is = eqb-true i t.index (second_so (s == t.stage) (i == t.index) e);
        })
    go row there false e r =
        inr (back tasks attempt s i row there (ap (λ b. runs attempt (cond b (record { running = Some (record { number = n; slot = slot }); losses = row.losses }) row)) (sym e) ∙ r))

pub single_launched : (tasks : List (List TaskRow)) (n : ℕ) (t : TaskId) (slot : ℕ) → AreSingle tasks n → AreSingle (map_rows (launched n t slot) tasks) (n + 1)
single_launched tasks n t slot single = record {
  launched = λ attempt s i h. ⊎_elim (λ l. let e : attempt ≡ n = l.number in omega (arith, e)) (λ r. let lt : attempt < n = single.launched attempt s i r in omega (arith, lt)) (launched_runs tasks n t slot attempt s i h);
  one = λ attempt s i u j h g. both attempt s i u j (launched_runs tasks n t slot attempt s i h) (launched_runs tasks n t slot attempt u j g);
}
  where
    old : (attempt s i : ℕ) → attempt ≡ n → runs_at tasks attempt s i ≡ true → ⊥
    old attempt s i e r = let lt : attempt < n = single.launched attempt s i r in omega (arith, lt, e)

    both : (attempt s i u j : ℕ) → IsLaunched attempt s i n t.stage t.index ⊎ (runs_at tasks attempt s i ≡ true) → IsLaunched attempt u j n t.stage t.index ⊎ (runs_at tasks attempt u j ≡ true) → (s ≡ u) × (i ≡ j)
    both attempt s i u j a b =
        ⊎_elim
        (λ l. ⊎_elim (λ m. (l.stage_is ∙ sym m.stage_is, l.place_is ∙ sym m.place_is)) (λ r. absurd (old attempt u j l.number r)) b)
        (λ q. ⊎_elim (λ m. absurd (old attempt s i m.number q)) (λ r. single.one attempt s i u j q r) b)
        a

---- the ends of attempts

idle_rests : (attempt : ℕ) (row : TaskRow) → runs attempt (idle row) ≡ true → ⊥
idle_rests attempt row h = cc

ended_runs : (tasks : List (List TaskRow)) (n attempt s i : ℕ) → runs_at (map (map (ended n)) tasks) attempt s i ≡ true → runs_at tasks attempt s i ≡ true
ended_runs tasks n attempt s i h =
    let f = found (item_at (map (map (ended n)) tasks) s i) attempt h in
    let w = item_each (ended n) tasks s i f.row f.there in
    go w.item w.there (runs n w.item) refl (ap (runs attempt) (sym w.is) ∙ f.runs_it)
  where
    go : (row : TaskRow) → item_at tasks s i ≡ Some row → (b : Bool) → runs n row ≡ b → runs attempt (cond (runs n row) (idle row) row) ≡ true → runs_at tasks attempt s i ≡ true
    go row there true e r = absurd (idle_rests attempt row (ap (λ b. runs attempt (cond b (idle row) row)) (sym e) ∙ r))
    go row there false e r = back tasks attempt s i row there (ap (λ b. runs attempt (cond b (idle row) row)) (sym e) ∙ r)

pub single_ended : (tasks : List (List TaskRow)) (n attempt : ℕ) → AreSingle tasks n → AreSingle (map (map (ended attempt)) tasks) n
single_ended tasks n attempt single = record {
  launched = λ a s i h. single.launched a s i (ended_runs tasks attempt a s i h);
  one = λ a s i u j h g. single.one a s i u j (ended_runs tasks attempt a s i h) (ended_runs tasks attempt a u j g);
}

all_rest : (tasks : List (List TaskRow)) (attempt s i : ℕ) → runs_at (map (map idle) tasks) attempt s i ≡ true → ⊥
all_rest tasks attempt s i h =
    let f = found (item_at (map (map idle) tasks) s i) attempt h in
    let w = item_each idle tasks s i f.row f.there in
    idle_rests attempt w.item (ap (runs attempt) (sym w.is) ∙ f.runs_it)

pub single_idle : (tasks : List (List TaskRow)) (n : ℕ) → AreSingle (map (map idle) tasks) n
single_idle tasks n = record {
  launched = λ a s i h. absurd (all_rest tasks a s i h);
  one = λ a s i u j h g. absurd (all_rest tasks a s i h);
}

---- the start

fresh_item : (n i : ℕ) (attempt : ℕ) → passes (runs attempt) (slice_get (replicate n fresh_task) i) ≡ true → ⊥
fresh_item zero i attempt h = cc
fresh_item (suc n) zero attempt h = cc
fresh_item (suc n) (suc i) attempt h = fresh_item n i attempt h

fresh_rests : (stages : List StageRow) (attempt s i : ℕ) → runs_at (map fresh_tasks stages) attempt s i ≡ true → ⊥
fresh_rests [] attempt s i h = cc
fresh_rests (row ∷ rows) attempt zero i h = fresh_item row.parallelism i attempt h
fresh_rests (row ∷ rows) attempt (suc s) i h = fresh_rests rows attempt s i h

pub single_fresh : (stages : List StageRow) (n : ℕ) → AreSingle (map fresh_tasks stages) n
single_fresh stages n = record {
  launched = λ a s i h. absurd (fresh_rests stages a s i h);
  one = λ a s i u j h g. absurd (fresh_rests stages a s i h);
}

---- the task that runs an attempt

pub runs_only : (tasks : List (List TaskRow)) (n attempt s i : ℕ) → AreSingle tasks n → runs_at tasks attempt s i ≡ true → RunsOnly tasks attempt s i
runs_only tasks n attempt s i single h = record { runs = h; only = λ t j g. single.one attempt t j s i g h }

---- what a core keeps

pub within_launched : (taken launches commits stages attempt : ℕ) (t : TaskId) (slot : ℕ) (tasks new : List (List TaskRow)) (sealed : List Bool)
    → IsWithin taken launches commits stages tasks sealed → attempt ≡ launches → new ≡ map_rows (launched attempt t slot) tasks → IsWithin (taken + 1) (launches + 1) commits stages new sealed
within_launched taken launches commits stages attempt t slot tasks new sealed kept next_is is =
    let made : new ≡ map_rows (launched launches t slot) tasks = is ∙ ap (λ n. map_rows (launched n t slot) tasks) next_is in
    record {
      launches_within = omega (arith, kept.launches_within);
      commits_within = omega (arith, kept.commits_within);
      numbered = kept.numbered;
      single = subst (λ rows. AreSingle rows (launches + 1)) (sym made) (single_launched tasks launches t slot kept.single);
      seals = kept.seals ∙ sym (length_map_at (λ a. map_at (launched launches t slot a) 0) 0 tasks) ∙ ap length (sym made);
    }

pub within_ended : (taken launches commits stages attempt s : ℕ) (tasks new : List (List TaskRow)) (sealed : List Bool)
    → IsWithin taken launches commits stages tasks sealed → new ≡ map (map (ended attempt)) tasks → IsWithin (taken + 1) launches (commits + 1) stages new (slice_set sealed s true)
within_ended taken launches commits stages attempt s tasks new sealed kept is = record {
  launches_within = omega (arith, kept.launches_within);
  commits_within = omega (arith, kept.commits_within);
  numbered = kept.numbered;
  single = subst (λ rows. AreSingle rows launches) (sym is) (single_ended tasks launches attempt kept.single);
  seals = length-set sealed s true ∙ kept.seals ∙ sym (length-map tasks (map (ended attempt))) ∙ ap length (sym is);
}

pub within_idle : (taken launches commits stages : ℕ) (tasks new : List (List TaskRow)) (sealed : List Bool)
    → IsWithin taken launches commits stages tasks sealed → new ≡ map (map idle) tasks → IsWithin (taken + 1) launches commits stages new sealed
within_idle taken launches commits stages tasks new sealed kept is = record {
  launches_within = omega (arith, kept.launches_within);
  commits_within = omega (arith, kept.commits_within);
  numbered = kept.numbered;
  single = subst (λ rows. AreSingle rows launches) (sym is) (single_idle tasks launches);
  seals = kept.seals ∙ sym (length-map tasks (map idle)) ∙ ap length (sym is);
}

pub within_fresh : (stages : List StageRow) (tasks : List (List TaskRow)) (sealed : List Bool)
    → length stages ≤ 2 ^ 32 → tasks ≡ map fresh_tasks stages → sealed ≡ replicate (length stages) false → IsWithin 0 0 0 (length stages) tasks sealed
within_fresh stages tasks sealed few is seals = record {
  launches_within = omega arith;
  commits_within = omega arith;
  numbered = few;
  single = subst (λ rows. AreSingle rows 0) (sym is) (single_fresh stages 0);
  seals = ap length seals ∙ length-replicate (length stages) false ∙ sym (length-map stages fresh_tasks) ∙ ap length (sym is);
}
