-- A run on one thread launches each task at most once between evictions.
use Rattle.std.proofs.Common.{arith, ◌≡◌, ◌∙◌, ap, sym, subst, refl, ℕ, zero, suc, ◌+◌, ◌*◌, ◌<◌, ◌≤◌, ◌==◌, List, [], ◌∷◌, ◌++◌, map, length, slice_get, Bool, true, false, filter, Option, Some, None, inl, inr, mul-add, mul-suc, mul-zero}
use Rattle.std.specs.Prelude.{◌&&◌, is_none, is_some, not, if◌then◌else◌}
use Rattle.std.specs.List.{list_any}
use Rattle.std.proofs.lemmas.Bool.{and_parts, both_ways, cond_both, eq-eqb}
use Rattle.std.proofs.lemmas.List.{length-append, length-map}
use Rattle.std.proofs.lemmas.Option.{slice_get_within}
use Rattle.nemo_base.specs.Needed.{blocks_of, made_by, wanted}
use Rattle.nemo_base.specs.Places.{is_in, row_at}
use Rattle.nemo_base.specs.Script.{IsScript}
use Rattle.nemo_base.specs.Settings.{SettingsForm}
use Rattle.nemo_base.specs.Sound.{is_sound}
use Rattle.nemo_base.specs.declared.graph.Home.{Home}
use Rattle.nemo_base.specs.declared.graph.StageRow.{StageRow}
use Rattle.nemo_base.specs.declared.graph.TaskGraph.{TaskGraph}
use Rattle.nemo_base.specs.declared.id.TaskId.{TaskId}
use Rattle.nemo_base.specs.declared.script.Action.{Action}
use Rattle.nemo_base.specs.declared.script.Action.TheVariants.{Evict as EvictLine, Repartition as RepartitionLine}
use Rattle.nemo_base.specs.declared.script.ScriptLine.{ScriptLine}
use Rattle.nemo_base.proofs.Finding.{find, in_at, same_item}
use Rattle.nemo_base.proofs.NeededTasks.{need_grows, need_meets}
use Rattle.nemo_base.proofs.SoundGraphs.{block_sound, vertex_sound}
use Rattle.nemo_value.specs.Members.{In}
use Rattle.nemo_value.proofs.MemberLists.{either, in_map}
use Rattle.nemo_ir.specs.Along.{below, counted}
use Rattle.nemo_ir.specs.Flat.{IsFlat}
use Rattle.nemo_ir.specs.Valid.{Valid}
use Rattle.nemo_ir.proofs.Places.{got}
use Rattle.nemo_core.specs.Kept.{HasTables, total}
use Rattle.nemo_core.specs.Laws.{takes}
use Rattle.nemo_core.specs.Run.{run_on}
use Rattle.nemo_core.specs.State.{State, flat, has_blocks, held_at, is_gone, is_needed, start, task_at}
use Rattle.nemo_core.specs.Step.{after, conditions, filled, home_of, is_going, launched, made, refusal, running_of}
use Rattle.nemo_core.specs.declared.event.Event.{Event}
use Rattle.nemo_core.specs.declared.event.Event.TheVariants.{Launch, Commit, Repeat, GiveBack, Evict, Repartition, Ignored, Decide, Fault, Spent, Starved, Drop, Finish}
use Rattle.nemo_core.specs.declared.event.HeldBy.{HeldBy}
use Rattle.nemo_core.specs.declared.row.Attempt.{Attempt}
use Rattle.nemo_core.specs.declared.row.TaskRow.{TaskRow}
use Rattle.nemo_core.proofs.Allowed.{are_met}
use Rattle.nemo_core.proofs.Blocks.{committed_item, fill, held_step}
use Rattle.nemo_core.proofs.Cells.{row_is}
use Rattle.nemo_core.proofs.Changed.{get_map, item_map_rows, on}
use Rattle.nemo_core.proofs.Keeping.{states}
use Rattle.nemo_core.proofs.KeptTables.{blocks_length, has_all, tables_step}
use Rattle.nemo_core.proofs.Staying.{drop_needs}
use Rattle.nemo_plan.specs.Form.{PlanForm, graph}
use Rattle.nemo_plan.proofs.Memberships.{below_in}
use Rattle.nemo_plan.proofs.Wires.{graph_wired}
use Rattle.nemo_laws.specs.Data.{Ran, ran_of, state_of}
use Rattle.nemo_laws.specs.Holds.{commit_hold, drops, event_of, finish_of, fired, may_decide}
use Rattle.nemo_laws.specs.Legal.{Legal}
use Rattle.nemo_laws.specs.Solo.{IsStart, IsTurn, LeastDecisions, SoloRun, begins, commits, faults, launch_of_turn, spends, started, turns}
use Rattle.nemo_laws.specs.SoloLaws.{is_eviction, is_launch}
use Rattle.nemo_laws.proofs.Every.{Every, every_append}
use Rattle.nemo_laws.proofs.Holding.{begin_allowed}
use Rattle.nemo_laws.proofs.Logs.{Allowed, legal_allowed, legal_state, reaches_allowed, run_append}
use Rattle.nemo_laws.proofs.Parts.{every_drop, every_finish, every_fired}
use Rattle.nemo_laws.proofs.SoloLegal.{decisions_allowed, decisions_left, row_of_item, run_legal, some_tasks, spent_allowed, there_is, turn_allowed, turn_legal}
use Rattle.nemo_laws.proofs.SoloSame.{turn_goes}

---- lists

shrinks : {X : Type 0} (p q : X → Bool) (xs : List X) → ((x : X) → p x ≡ true → q x ≡ true) → length (filter p xs) ≤ length (filter q xs)
shrinks p q [] h = omega arith
shrinks {X} p q (x ∷ xs) h = go (p x) (q x) refl refl (shrinks p q xs h)
  where
    go : (a b : Bool) → p x ≡ a → q x ≡ b → length (filter p xs) ≤ length (filter q xs) → length (if a then x ∷ filter p xs else filter p xs) ≤ length (if b then x ∷ filter q xs else filter q xs)
    go true true e f l = omega (arith, l)
    go true false e f l = absurd (both_ways (q x) f (h x e))
    go false true e f l = omega (arith, l)
    go false false e f l = l

-- one that passes no more
shrinks_more : {X : Type 0} (p q : X → Bool) (xs : List X) (y : X) → ((x : X) → p x ≡ true → q x ≡ true) → In y xs → q y ≡ true → p y ≡ false → length (filter p xs) < length (filter q xs)
shrinks_more p q [] y h m now no_more = absurd m
shrinks_more {X} p q (x ∷ xs) y h m now no_more = go (p x) (q x) refl refl (shrinks p q xs h) m (λ n. shrinks_more p q xs y h n now no_more)
  where
    go : (a b : Bool) → p x ≡ a → q x ≡ b → length (filter p xs) ≤ length (filter q xs) → In y (x ∷ xs) → (In y xs → length (filter p xs) < length (filter q xs))
        → length (if a then x ∷ filter p xs else filter p xs) < length (if b then x ∷ filter q xs else filter q xs)
    go false true e f l m rest = omega (arith, l)
    go true false e f l m rest = absurd (both_ways (q x) f (h x e))
    go true true e f l (inl is) rest = absurd (both_ways (p y) no_more (ap p is ∙ e))
    go true true e f l (inr n) rest = let less = rest n in omega (arith, less)
    go false false e f l (inl is) rest = absurd (both_ways (q x) f (sym (ap q is) ∙ now))
    go false false e f l (inr n) rest = rest n

at_most : {X : Type 0} (p : X → Bool) (xs : List X) → length (filter p xs) ≤ length xs
at_most p [] = omega arith
at_most p (x ∷ xs) = let rest = at_most p xs in cond_both (p x) (x ∷ filter p xs) (filter p xs) (λ l. length l ≤ suc (length xs)) (λ h. omega (arith, rest)) (λ h. omega (arith, rest))

---- tasks

abbrev task_of : ℕ → ℕ → TaskId
task_of n i = record { stage = n; index = i }

abbrev tasks_from : ℕ → List StageRow → List TaskId
tasks_from n [] = []
tasks_from n (row ∷ rows) = map (task_of n) (below row.parallelism) ++ tasks_from (n + 1) rows

counted_long : (k n : ℕ) → length (counted k n) ≡ n
counted_long k zero = refl
counted_long k (suc n) = ap suc (counted_long (suc k) n)

below_long : (n : ℕ) → length (below n) ≡ n
below_long n = counted_long 0 n

tasks_long : (n : ℕ) (rows : List StageRow) → length (tasks_from n rows) ≡ total (λ row. row.parallelism) rows
tasks_long n [] = refl
tasks_long n (row ∷ rows) =
    let long : length (map (task_of n) (below row.parallelism) ++ tasks_from (n + 1) rows) ≡ length (map (task_of n) (below row.parallelism)) + length (tasks_from (n + 1) rows) = length-append (map (task_of n) (below row.parallelism)) (tasks_from (n + 1) rows) in
    let own : length (map (task_of n) (below row.parallelism)) ≡ length (below row.parallelism) = length-map (below row.parallelism) (task_of n) in
    let count : length (below row.parallelism) ≡ row.parallelism = below_long row.parallelism in
    let rest = tasks_long (n + 1) rows in
    omega (arith, long, own, count, rest)

in_tasks : (n : ℕ) (rows : List StageRow) (stage i : ℕ) (row : StageRow) → slice_get rows stage ≡ Some row → i < row.parallelism → In (task_of (n + stage) i) (tasks_from n rows)
in_tasks n [] stage i row e l = cc
in_tasks n (r ∷ rows) zero i row e l =
    (either (task_of (n + 0) i) (map (task_of n) (below r.parallelism)) (tasks_from (n + 1) rows)).1
    (inl (subst (λ m. In (task_of m i) (map (task_of n) (below r.parallelism))) (omega arith)
    (in_map (task_of n) i (below r.parallelism) (below_in r.parallelism i (let same : r.parallelism ≡ row.parallelism = ap (λ (x : StageRow). x.parallelism) (the_row r row e) in omega (arith, same, l))))))
  where
    the_row : (a b : StageRow) → Some a ≡ Some b → a ≡ b
    the_row a b e = cc
in_tasks n (r ∷ rows) (suc stage) i row e l =
    (either (task_of (n + suc stage) i) (map (task_of n) (below r.parallelism)) (tasks_from (n + 1) rows)).1
    (inr (subst (λ m. In (task_of m i) (tasks_from (n + 1) rows)) (omega arith) (in_tasks (n + 1) rows stage i row e l)))

---- how many tasks are needed

module _ (g : TaskGraph) (k : SettingsForm) (sound : is_sound g ≡ true) where
  abbrev all : List TaskId
  all = tasks_from 0 g.stages

  abbrev count : ℕ
  count = total (λ row. row.parallelism) g.stages

  abbrev lacking : State → ℕ
  lacking s = length (filter (is_needed g s) all)

  few : (s : State) → lacking s ≤ count
  few s = let most = at_most (is_needed g s) all in let long = tasks_long 0 g.stages in omega (arith, most, long)

  -- an event that takes no block needs no more tasks
  gone_before : (s : State) (e : Event) → ((v i : ℕ) (h : HeldBy) → takes e v i h ≡ false) → (v i : ℕ) → is_gone (after g k s e) v i ≡ true → is_gone s v i ≡ true
  gone_before s e keeps v i lost = go (held_at s v i) refl
    where
      go : (o : Option HeldBy) → held_at s v i ≡ o → is_gone s v i ≡ true
      go None is = ap (λ o. not (is_some o)) is
      go (Some h) is =
          let still : held_at (after g k s e) v i ≡ Some h = held_step g k s e v i h is ∙ ap (λ b. if b then None else Some h) (keeps v i h) in
          let clash : false ≡ true = sym (ap (λ o. not (is_some o)) still) ∙ lost in
          cc

  keeps_need : (s : State) (e : Event) → ((v i : ℕ) (h : HeldBy) → takes e v i h ≡ false) → (t : TaskId) → is_needed g (after g k s e) t ≡ true → is_needed g s t ≡ true
  keeps_need s e keeps t h = need_grows g (is_gone (after g k s e)) (is_gone s) sound (gone_before s e keeps) t.stage t.index h

  abbrev more : Event → ℕ
  more e = if is_eviction e then count else 0

  by_keeping : (s : State) (e : Event) → ((v i : ℕ) (h : HeldBy) → takes e v i h ≡ false) → lacking (after g k s e) ≤ lacking s
  by_keeping s e keeps = shrinks (is_needed g (after g k s e)) (is_needed g s) all (keeps_need s e keeps)

  lacking_step : (s : State) (e : Event) → refusal g k s e ≡ None → lacking (after g k s e) ≤ lacking s + more e
  lacking_step s (Launch attempt task slot reads) none = let l = by_keeping s (Launch attempt task slot reads) (λ v i h. refl) in omega (arith, l)
  lacking_step s (Commit attempt) none = let l = by_keeping s (Commit attempt) (λ v i h. refl) in omega (arith, l)
  lacking_step s (Repeat attempt) none = omega arith
  lacking_step s (GiveBack attempt) none = let l = by_keeping s (GiveBack attempt) (λ v i h. refl) in omega (arith, l)
  lacking_step s (Evict slot) none = let l = few (after g k s (Evict slot)) in omega (arith, l)
  lacking_step s (Repartition vertex cuts) none = let l = by_keeping s (Repartition vertex cuts) (λ v i h. refl) in omega (arith, l)
  lacking_step s (Ignored vertex cuts) none = omega arith
  lacking_step s (Decide vertex cuts) none = let l = by_keeping s (Decide vertex cuts) (λ v i h. refl) in omega (arith, l)
  lacking_step s (Fault attempt vertex kind rec) none = let l = by_keeping s (Fault attempt vertex kind rec) (λ v i h. refl) in omega (arith, l)
  lacking_step s (Spent task) none = let l = by_keeping s (Spent task) (λ v i h. refl) in omega (arith, l)
  lacking_step s Starved none = let l = by_keeping s Starved (λ v i h. refl) in omega (arith, l)
  lacking_step s (Drop block) none =
      let l = shrinks (is_needed g (after g k s (Drop block))) (is_needed g s) all (λ t h. sym (drop_needs g k s block sound none t.stage t.index).0 ∙ h) in
      omega (arith, l)
  lacking_step s Finish none = let l = by_keeping s Finish (λ v i h. refl) in omega (arith, l)

  abbrev evictions : List Event → ℕ
  evictions es = length (filter is_eviction es)

  lacking_run : (es : List Event) (s : State) → Allowed g k s es → lacking (run_on g k s es) ≤ lacking s + count * evictions es
  lacking_run [] s h = omega arith
  lacking_run (e ∷ es) s h = go (is_eviction e) refl (lacking_run es (after g k s e) h.1)
    where
      one : lacking (after g k s e) ≤ lacking s + more e
      one = lacking_step s e h.0

      go : (b : Bool) → is_eviction e ≡ b → lacking (run_on g k (after g k s e) es) ≤ lacking (after g k s e) + count * evictions es → lacking (run_on g k (after g k s e) es) ≤ lacking s + count * length (if is_eviction e then e ∷ filter is_eviction es else filter is_eviction es)
      go true is rest =
          let here : more e ≡ count = ap (λ b. if b then count else 0) is in
          let long : length (if is_eviction e then e ∷ filter is_eviction es else filter is_eviction es) ≡ suc (evictions es) = ap (λ b. length (if b then e ∷ filter is_eviction es else filter is_eviction es)) is in
          let all : count * length (if is_eviction e then e ∷ filter is_eviction es else filter is_eviction es) ≡ count * evictions es + count = ap (λ n. count * n) long ∙ mul-suc count (evictions es) in
          omega (arith, rest, one, here, all)
      go false is rest =
          let here : more e ≡ 0 = ap (λ b. if b then count else 0) is in
          let all : count * length (if is_eviction e then e ∷ filter is_eviction es else filter is_eviction es) ≡ count * evictions es = ap (λ b. count * length (if b then e ∷ filter is_eviction es else filter is_eviction es)) is in
          omega (arith, rest, one, here, all)

  ---- a commit

  tasks_of_stage : (s : State) (stage : ℕ) (row : StageRow) → HasTables g k s → slice_get g.stages stage ≡ Some row → length (row_at s.tasks stage) ≡ row.parallelism
  tasks_of_stage s stage row tables there = go (slice_get s.tasks stage) refl
    where
      both : on length (slice_get s.tasks stage) ≡ Some row.parallelism
      both = sym (get_map length s.tasks stage) ∙ ap (λ l. slice_get l stage) tables.tasks ∙ get_map (λ (r : StageRow). r.parallelism) g.stages stage ∙ ap (on (λ (r : StageRow). r.parallelism)) there

      go : (o : Option (List TaskRow)) → slice_get s.tasks stage ≡ o → length (row_at s.tasks stage) ≡ row.parallelism
      go (Some tasks) e = ap length (row_is s.tasks stage tasks e) ∙ same_item (length tasks) row.parallelism (sym (ap (on length) e) ∙ both)
      go None e = let clash : None ≡ Some row.parallelism = sym (ap (on length) e) ∙ both in cc

  filled_held : (s : State) (a i : ℕ) (home : Home) (task : TaskRow) (own : Attempt) (x : Option HeldBy) → task.running ≡ Some own → own.number ≡ a
      → (rows : List TaskRow) → slice_get rows i ≡ Some task → is_some (filled k s.incs a home rows i x) ≡ true
  filled_held s a i home task own (Some h) running number rows there = refl
  filled_held s a i home task own None running number rows there =
      ap (λ o. is_some (made k s.incs a i home (running_of o))) there
      ∙ ap (λ o. is_some (made k s.incs a i home o)) running
      ∙ ap (λ b. is_some (if b then Some (home_of k s.incs a i home own) else None)) (eq-eqb own.number a number)

  -- a task whose attempt commits is needed no more
  met_by_commit : (s : State) (a : ℕ) (t : TaskId) (task : TaskRow) (own : Attempt) → HasTables g k s → task_at s t ≡ Some task → task.running ≡ Some own → own.number ≡ a → is_needed g (after g k s (Commit a)) t ≡ false
  met_by_commit s a t task own tables there running number = need_meets g (is_gone (after g k s (Commit a))) sound t.stage t.index ∙ none (list_any test (blocks_of g t.stage)) refl
    where
      test : ℕ → Bool
      test v = is_gone (after g k s (Commit a)) v t.index && wanted g (is_gone (after g k s (Commit a))) v t.index

      held : (stage : StageRow) (v : ℕ) → slice_get g.stages t.stage ≡ Some stage → is_in v stage.blocks ≡ true → is_gone (after g k s (Commit a)) v t.index ≡ false
      held stage v named within =
          let b = block_sound g t.stage stage v sound named within in
          let has : has_blocks g v b.row ≡ true = ap (λ n. is_in v (blocks_of g n)) b.lies ∙ ap (λ o. is_in v (made_by o)) named ∙ within in
          let own_stage = vertex_sound g v b.row sound b.named in
          let alike : own_stage.stage ≡ stage = same_item own_stage.stage stage (sym own_stage.made_by ∙ ap (slice_get g.stages) b.lies ∙ named) in
          let wide : b.row.parallelism ≡ stage.parallelism = own_stage.parallelism ∙ ap (λ (r : StageRow). r.parallelism) alike in
          let long : length (row_at s.blocks v) ≡ b.row.parallelism = blocks_length g k s v b.row tables b.named ∙ has_all g v b.row has in
          let less : t.index < length (row_at s.tasks t.stage) = slice_get_within (row_at s.tasks t.stage) t.index task there in
          let many : length (row_at s.tasks t.stage) ≡ stage.parallelism = tasks_of_stage s t.stage stage tables named in
          let x = got (row_at s.blocks v) t.index (omega (arith, less, many, wide, long)) in
          let rows : slice_get (row_at s.tasks b.row.stage) t.index ≡ Some task = ap (λ n. slice_get (row_at s.tasks n) t.index) b.lies ∙ there in
          let is : held_at (after g k s (Commit a)) v t.index ≡ filled k s.incs a b.row.home (row_at s.tasks b.row.stage) t.index x.0 =
          ap flat (committed_item g k s a v t.index ∙ ap (on (fill k s.incs s.tasks a (slice_get g.vertices v) t.index)) x.1)
          ∙ ap (λ o. fill k s.incs s.tasks a o t.index x.0) b.named in
          ap (λ o. not (is_some o)) is ∙ ap not (filled_held s a t.index b.row.home task own x.0 running number (row_at s.tasks b.row.stage) rows)

      none : (b : Bool) → list_any test (blocks_of g t.stage) ≡ b → list_any test (blocks_of g t.stage) ≡ false
      none false e = e
      none true e =
          let f = find test (blocks_of g t.stage) e in
          absurd (stage_of (slice_get g.stages t.stage) refl f.place f.item f.there (and_parts (is_gone (after g k s (Commit a)) f.item t.index) (wanted g (is_gone (after g k s (Commit a))) f.item t.index) f.ok).0)
        where
          stage_of : (o : Option StageRow) → slice_get g.stages t.stage ≡ o → (place v : ℕ) → slice_get (blocks_of g t.stage) place ≡ Some v → is_gone (after g k s (Commit a)) v t.index ≡ true → ⊥
          stage_of None named place v at lost = let clash : None ≡ Some v = sym (ap (λ o. slice_get (made_by o) place) named) ∙ at in cc
          stage_of (Some stage) named place v at lost =
              both_ways (is_gone (after g k s (Commit a)) v t.index) (held stage v named (in_at v stage.blocks place (sym (ap (λ o. slice_get (made_by o) place) named) ∙ at))) lost

  ---- a launched task

  record IsTask (s : State) (t : TaskId) : Type 0 where
    row : StageRow
    named : slice_get g.stages t.stage ≡ Some row
    below_row : t.index < row.parallelism

  task_is : (s : State) (t : TaskId) (task : TaskRow) → HasTables g k s → task_at s t ≡ Some task → IsTask s t
  task_is s t task tables there = go (slice_get g.stages t.stage) refl
    where
      tasks : slice_get s.tasks t.stage ≡ Some (row_at s.tasks t.stage)
      tasks = row_of_item s.tasks t.stage t.index task there

      both : Some (length (row_at s.tasks t.stage)) ≡ on (λ (r : StageRow). r.parallelism) (slice_get g.stages t.stage)
      both = sym (ap (on length) tasks) ∙ sym (get_map length s.tasks t.stage) ∙ ap (λ l. slice_get l t.stage) tables.tasks ∙ get_map (λ (r : StageRow). r.parallelism) g.stages t.stage

      go : (o : Option StageRow) → slice_get g.stages t.stage ≡ o → IsTask s t
      go (Some row) named =
          let less = slice_get_within (row_at s.tasks t.stage) t.index task there in
          let long = tasks_of_stage s t.stage row tables named in
          record { row = row; named = named; below_row = omega (arith, less, long) }
      go None named = let clash : Some (length (row_at s.tasks t.stage)) ≡ None = both ∙ ap (on (λ (r : StageRow). r.parallelism)) named in cc

  in_all : (s : State) (t : TaskId) → IsTask s t → In t all
  in_all s t is = subst (λ n. In (task_of n t.index) all) (omega arith) (in_tasks 0 g.stages t.stage t.index is.row is.named is.below_row)

  some_lack : (s : State) (t : TaskId) → In t all → is_needed g s t ≡ true → 1 ≤ lacking s
  some_lack s t m need = let less = shrinks_more (λ x. false) (is_needed g s) all t (λ x h. cc) m need refl in omega (arith, less)

  -- a launch and its commit leave one task less
  one_less : (s : State) (t : TaskId) (slot : ℕ) (reads : List ℕ) → HasTables g k s → refusal g k s (Launch s.launches t slot reads) ≡ None
      → suc (lacking (after g k (after g k s (Launch s.launches t slot reads)) (Commit s.launches))) ≤ lacking s
  one_less s t slot reads tables none =
      let u = after g k s (Launch s.launches t slot reads) in
      let met = are_met (conditions g k s (Launch s.launches t slot reads)) none in
      let task = there_is (task_at s t) met.1.0 in
      let need : is_needed g s t ≡ true = met.1.1.1.0 in
      let there : task_at u t ≡ Some (launched s.launches t slot t.stage t.index task.0) =
      item_map_rows (launched s.launches t slot) s.tasks t.stage t.index ∙ ap (on (launched s.launches t slot t.stage t.index)) task.1 in
      let runs : (launched s.launches t slot t.stage t.index task.0).running ≡ Some (record { number = s.launches; slot = slot }) = launched_is s.launches t slot task.0 in
      let same : HasTables g k u = tables_step g k s (Launch s.launches t slot reads) tables in
      let gone = met_by_commit u s.launches t (launched s.launches t slot t.stage t.index task.0) (record { number = s.launches; slot = slot }) same there runs refl in
      let less = shrinks_more (is_needed g (after g k u (Commit s.launches))) (is_needed g u) all t (keeps_need u (Commit s.launches) (λ v i h. refl)) (in_all s t (task_is s t task.0 tables task.1)) need gone in
      omega (arith, less)
    where
      launched_is : (a : ℕ) (t : TaskId) (slot : ℕ) (row : TaskRow) → (launched a t slot t.stage t.index row).running ≡ Some (record { number = a; slot = slot })
      launched_is a t slot row =
          ap (λ b. (if b && (t.index == t.index) then record { running = Some (record { number = a; slot = slot }); losses = row.losses } else row).running) (eq-eqb t.stage t.stage refl)
          ∙ ap (λ b. (if b then record { running = Some (record { number = a; slot = slot }); losses = row.losses } else row).running) (eq-eqb t.index t.index refl)

---- events that are no launches, and no evictions

abbrev NoLaunch : Event → Type 0
NoLaunch e = is_launch e ≡ false

abbrev NoEviction : Event → Type 0
NoEviction e = is_eviction e ≡ false

none_counted : (test : Event → Bool) (es : List Event) → Every (λ e. test e ≡ false) es → length (filter test es) ≡ 0
none_counted test [] h = refl
none_counted test (e ∷ es) h = ap (λ b. length (if b then e ∷ filter test es else filter test es)) h.0 ∙ none_counted test es h.1

counted_both : (test : Event → Bool) (xs ys : List Event) → length (filter test (xs ++ ys)) ≡ length (filter test xs) + length (filter test ys)
counted_both test [] ys = omega arith
counted_both test (x ∷ xs) ys = go (test x) refl (counted_both test xs ys)
  where
    go : (b : Bool) → test x ≡ b → length (filter test (xs ++ ys)) ≡ length (filter test xs) + length (filter test ys)
        → length (if b then x ∷ filter test (xs ++ ys) else filter test (xs ++ ys)) ≡ length (if b then x ∷ filter test xs else filter test xs) + length (filter test ys)
    go true e h = omega (arith, h)
    go false e h = h

line_launches : (g : TaskGraph) (k : SettingsForm) (s : State) (a : Action) → NoLaunch (event_of g k s a)
line_launches g k s (EvictLine slot) = refl
line_launches g k s (RepartitionLine v cuts) = cond_both (is_none (refusal g k s (Repartition v cuts))) (Repartition v cuts) (Ignored v cuts) NoLaunch (λ h. refl) (λ h. refl)

hold_launches : (g : TaskGraph) (k : SettingsForm) (script : List ScriptLine) (s : State) (a : ℕ) → Every NoLaunch (commit_hold g k script s a)
hold_launches g k script s a =
    let t = after g k s (Commit a) in
    let lines = fired g k t.commits script t in
    let u = run_on g k t lines in (
      refl,
      every_append NoLaunch lines (drops g k u ++ finish_of g k (run_on g k u (drops g k u))) (every_fired NoLaunch g k t.commits script t (line_launches g k))
          (every_append NoLaunch (drops g k u) (finish_of g k (run_on g k u (drops g k u))) (every_drop NoLaunch g k u (λ b. refl)) (every_finish NoLaunch g k (run_on g k u (drops g k u)) refl)),
    )

decisions_none : (P : Event → Type 0) → ((v : ℕ) (cuts : List ℕ) → P (Decide v cuts)) → (p : PlanForm) (k : SettingsForm) (s : State) (ran : List Ran) (vs : List ℕ) (es : List Event) → LeastDecisions p k s ran vs es → Every P es
decisions_none P f p k s ran [] es d = subst (Every P) (sym d) tt
decisions_none P f p k s ran (v ∷ vs) es d = subst (Every P) (sym d.2) (f v d.0, decisions_none P f p k s ran vs d.1 d.4)

---- the count

module _ (p : PlanForm) (k : SettingsForm) (script : List ScriptLine) (fine : IsFlat p.flat) (valid : Valid p.flat p.dag) (is : IsScript k script) where
  abbrev g : TaskGraph
  g = graph p

  abbrev sound : is_sound (graph p) ≡ true
  sound = (graph_wired p fine valid).sound

  abbrev tasks : ℕ
  tasks = total (λ row. row.parallelism) (graph p).stages

  abbrev launches : List Event → ℕ
  launches es = length (filter is_launch es)

  abbrev ends : List Event → ℕ
  ends es = length (filter is_eviction es)

  record IsCounted (log : List Event) : Type 0 where
    all : launches log ≤ tasks * suc (ends log)
    going : is_going (state_of g k log).outcome ≡ true → launches log + lacking g k sound (state_of g k log) ≤ tasks * suc (ends log)

  begin_counted : IsCounted (fired g k 0 script (start g k))
  begin_counted =
      let es = fired g k 0 script (start g k) in
      let run = lacking_run g k sound es (start g k) (reaches_allowed g k es (start g k) (state_of g k es) (begin_allowed g k script is)) in
      let most = few g k sound (start g k) in
      let none = none_counted is_launch es (every_fired NoLaunch g k 0 script (start g k) (line_launches g k)) in
      let whole = mul-suc tasks (ends es) in
      record { all = omega (arith, none); going = λ h. omega (arith, run, most, none, whole) }

  module _ (log : List Event) (run : SoloRun p k script log) (so_far : IsCounted log) (goes : is_going (state_of g k log).outcome ≡ true) where
    abbrev s : State
    s = state_of g k log

    legal : Legal p k log
    legal = run_legal p k script fine valid is log run

    begun_launches : (ds : List Event) (t : TaskId) → IsStart p k s (ran_of p k log) ds t → (launches (started p k s ds t) ≡ 1) × (ends (started p k s ds t) ≡ 0)
    begun_launches ds t h =
        let vs = filter (may_decide g s) (below (length g.vertices)) in
        let launch = launch_of_turn g k (run_on g k s ds) t in
        let a = counted_both is_launch ds (launch ∷ []) in
        let b = none_counted is_launch ds (decisions_none NoLaunch (λ v cuts. refl) p k s (ran_of p k log) vs ds h.decided) in
        let c = counted_both is_eviction ds (launch ∷ []) in
        let d = none_counted is_eviction ds (decisions_none NoEviction (λ v cuts. refl) p k s (ran_of p k log) vs ds h.decided) in
        (omega (arith, a, b), omega (arith, c, d))

    total_counted : (es : List Event) → (launches (log ++ es) ≡ launches log + launches es) × (ends (log ++ es) ≡ ends log + ends es)
    total_counted es = (counted_both is_launch log es, counted_both is_eviction log es)

    bound_more : (n : ℕ) → tasks * suc (ends log + n) ≡ tasks * suc (ends log) + tasks * n
    bound_more n = ap (λ m. tasks * m) (suc_first (ends log) n) ∙ mul-add tasks (suc (ends log)) n
      where
        suc_first : (a b : ℕ) → suc (a + b) ≡ suc a + b
        suc_first a b = omega arith

    tables_run : (es : List Event) (u : State) → HasTables g k u → HasTables g k (run_on g k u es)
    tables_run [] u h = h
    tables_run (e ∷ es) u h = tables_run es (after g k u e) (tables_step g k u e h)

    tables : HasTables g k s
    tables = (states g k log s (legal_state p k log legal)).tables

    allowed_split : (xs ys : List Event) (u : State) → Allowed g k u (xs ++ ys) → Allowed g k u xs × Allowed g k (run_on g k u xs) ys
    allowed_split [] ys u h = (tt, h)
    allowed_split (x ∷ xs) ys u h = let q = allowed_split xs ys (after g k u x) h.1 in ((h.0, q.0), q.1)

    -- what a turn adds keeps the bound
    keeps_bound : (es : List Event) → launches es ≤ 1 → suc (launches log) ≤ tasks * suc (ends log)
        → (is_going (run_on g k s es).outcome ≡ true → launches es + lacking g k sound (run_on g k s es) ≤ lacking g k sound s + tasks * ends es) → IsCounted (log ++ es)
    keeps_bound es few_here room counts =
        let all = total_counted es in
        let more = ap (λ n. tasks * suc n) all.1 ∙ bound_more (ends es) in
        let l = all.0 in
        record {
          all = omega (arith, few_here, room, l, more);
          going = λ h.
              let same = run_append g k log es (start g k) in
              let now = counts (sym (ap (λ (u : State). is_going u.outcome) same) ∙ h) in
              let lack = ap (λ (u : State). lacking g k sound u) same in
              let before = so_far.going goes in
              omega (arith, l, more, now, lack, before);
        }

    -- where a task is needed there is room for a launch
    room_for : (t : TaskId) → In t (tasks_from 0 (graph p).stages) → is_needed g s t ≡ true → suc (launches log) ≤ tasks * suc (ends log)
    room_for t m need =
        let lack = some_lack g k sound s t m need in
        let before = so_far.going goes in
        omega (arith, lack, before)

    decided_less : (ds : List Event) (t : TaskId) → IsStart p k s (ran_of p k log) ds t → lacking g k sound (run_on g k s ds) ≤ lacking g k sound s
    decided_less ds t h =
        let vs = filter (may_decide g s) (below (length g.vertices)) in
        let run = lacking_run g k sound ds s (legal_allowed p k ds s (ran_of p k log) (decisions_allowed p k script fine valid is log legal ds h.decided)) in
        let none = none_counted is_eviction ds (decisions_none NoEviction (λ v cuts. refl) p k s (ran_of p k log) vs ds h.decided) in
        let zero_more : tasks * ends ds ≡ 0 = ap (λ n. tasks * n) none ∙ mul-zero tasks in
        omega (arith, run, zero_more)

    -- a start launches one task that is needed
    begun_room : (ds : List Event) (t : TaskId) → IsStart p k s (ran_of p k log) ds t → suc (launches log) ≤ tasks * suc (ends log)
    begun_room ds t h =
        let u = run_on g k s ds in
        let met = are_met (conditions g k u (launch_of_turn g k u t)) (turn_allowed g k u t h.task) in
        let task = there_is (task_at u t) met.1.0 in
        let lack = some_lack g k sound u t (in_all g k sound u t (task_is g k sound u t task.0 (tables_run ds s tables) task.1)) met.1.1.1.0 in
        let left = decided_less ds t h in
        let before = so_far.going goes in
        omega (arith, lack, left, before)

    commit_run : (es : List Event) (v : State) (a : ℕ) → Allowed g k v (Commit a ∷ es) → lacking g k sound (run_on g k v (Commit a ∷ es)) ≤ lacking g k sound (after g k v (Commit a)) + tasks * ends (Commit a ∷ es)
    commit_run es v a h = lacking_run g k sound es (after g k v (Commit a)) h.1

    ends_are : (xs ys : List Event) → ends (xs ++ ys) ≡ ends xs + ends ys → ends xs ≡ 0 → ends (xs ++ ys) ≡ ends ys
    ends_are xs ys both none = omega (arith, both, none)

    turn_counted : (es : List Event) → IsTurn p k script s (ran_of p k log) es → IsCounted (log ++ es)
    turn_counted _ (spends t least) =
        let met = are_met (conditions g k s (Spent t)) (spent_allowed g k s t least) in
        let task = there_is (task_at s t) met.1.0 in
        keeps_bound (Spent t ∷ []) (omega arith) (room_for t (in_all g k sound s t (task_is g k sound s t task.0 tables task.1)) met.1.1.0) (λ h. cc)
    turn_counted _ (faults ds t x kind rec h first) =
        let begun = started p k s ds t in
        let e = Fault s.launches x kind rec in
        let one = begun_launches ds t h in
        let l = counted_both is_launch begun (e ∷ []) in
        let same = one.0 in
        keeps_bound (begun ++ e ∷ []) (omega (arith, l, same)) (begun_room ds t h)
        (λ on. let clash : false ≡ true = sym (ap (λ (u : State). is_going u.outcome) (run_append g k begun (e ∷ []) s)) ∙ on in cc)
    turn_counted _ (commits ds t h none) =
        let begun = started p k s ds t in
        let u = run_on g k s ds in
        let launch = launch_of_turn g k u t in
        let v = run_on g k s begun in
        let hold = commit_hold g k script v s.launches in
        let one = begun_launches ds t h in
        let held = none_counted is_launch hold (hold_launches g k script v s.launches) in
        let l = counted_both is_launch begun hold in
        let m = counted_both is_eviction begun hold in
        let launched_one = one.0 in
        let evicted_none = one.1 in
        let steps = allowed_split begun hold s (legal_allowed p k (begun ++ hold) s (ran_of p k log) (turn_legal p k script fine valid is log legal (begun ++ hold) (commits ds t h none))) in
        let left = decisions_left p k s (ran_of p k log) (some_tasks p k script fine valid is log legal) (filter (may_decide g s) (below (length g.vertices))) ds s h.decided in
        let same : v ≡ after g k u launch = run_append g k ds (launch ∷ []) s in
        let less = one_less g k sound u t _ _ (tables_run ds s tables) (turn_allowed g k u t h.task) in
        let committed : lacking g k sound (after g k v (Commit s.launches)) ≡ lacking g k sound (after g k (after g k u launch) (Commit u.launches)) =
        ap (λ (x : State). lacking g k sound (after g k x (Commit s.launches))) same ∙ ap (λ n. lacking g k sound (after g k (after g k u launch) (Commit n))) (sym left.launches) in
        let rest = commit_run _ v s.launches steps.1 in
        let before = decided_less ds t h in
        let final = ap (λ (x : State). lacking g k sound x) (run_append g k begun hold s) in
        let evicted = ap (λ n. tasks * n) (ends_are begun hold m evicted_none) in
        keeps_bound (begun ++ hold) (omega (arith, l, launched_one, held)) (begun_room ds t h) (λ on. omega (arith, l, launched_one, held, rest, less, committed, before, final, evicted))

  run_counted : (log : List Event) → SoloRun p k script log → IsCounted log
  run_counted _ begins = begin_counted
  run_counted _ (turns log es r turn) = turn_counted log r (run_counted log r) (turn_goes p k script fine valid is log es r turn) es turn

  -- at most as many launches as tasks, times one more than evictions
  pub run_launches : (log : List Event) → SoloRun p k script log → length (filter is_launch log) ≤ total (λ row. row.parallelism) (graph p).stages * (1 + length (filter is_eviction log))
  run_launches log r = let all = (run_counted log r).all in subst (λ n. launches log ≤ tasks * n) (omega arith) all
