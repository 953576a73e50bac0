-- What the state keeps of a task's losses is what the log costs it.
use Rattle.std.proofs.Common.{arith, ◌≡◌, ◌∙◌, ap, sym, refl, ℕ, zero, suc, ◌+◌, ◌==◌, ◌&&◌, List, [], ◌∷◌, map, replicate, slice_get, Bool, true, false, cond, Option, Some}
use Rattle.nemo_base.specs.Places.{map_at}
use Rattle.nemo_base.specs.Places.{passes}
use Rattle.nemo_base.specs.declared.graph.StageRow.{StageRow}
use Rattle.nemo_base.specs.declared.graph.TaskGraph.{TaskGraph}
use Rattle.nemo_base.specs.declared.id.TaskId.{TaskId}
use Rattle.nemo_base.specs.Settings.{SettingsForm}
use Rattle.nemo_ir.proofs.Places.{from_none, next, none, same_item}
use Rattle.nemo_base.specs.Places.{item_at, map_rows, row_at}
use Rattle.nemo_core.specs.Run.{HasState, Reaches, loses, losses, losses_from}
use Rattle.nemo_core.specs.State.{State, fresh_task, fresh_tasks, runs, start, task_at}
use Rattle.nemo_core.specs.Step.{after, ended, evicted, idle, is_stage_of, is_touched, launched}
use Rattle.nemo_core.specs.declared.event.Event.{Event}
use Rattle.nemo_core.specs.declared.event.Event.TheVariants.{Launch, Commit, Repeat, GiveBack, Evict, Repartition, Ignored, Decide, Fault, Spent, Starved, Drop, Finish}
use Rattle.nemo_core.specs.declared.row.TaskRow.{TaskRow}

---- places

-- an item is made of the one that was there
record Was {X Y : Type 0} (make : X → Y) (found : Option X) (y : Y) : Type 0 where
  item : X
  there : found ≡ Some item
  is : y ≡ make item

map_back : {X Y : Type 0} (make : X → Y) (xs : List X) (i : ℕ) (y : Y) → slice_get (map make xs) i ≡ Some y → Was make (slice_get xs i) y
map_back make [] i y e = cc
map_back make (x ∷ xs) zero y e = record { item = x; there = refl; is = sym (same_item (make x) y e) }
map_back make (x ∷ xs) (suc i) y e = map_back make xs i y e

map_at_back : {X Y : Type 0} (make : ℕ → X → Y) (k : ℕ) (xs : List X) (i : ℕ) (y : Y) → slice_get (map_at make k xs) i ≡ Some y → Was (make (k + i)) (slice_get xs i) y
map_at_back make k [] i y e = cc
map_at_back make k (x ∷ xs) zero y e = record { item = x; there = refl; is = sym (same_item (make k x) y e) ∙ ap (λ n. make n x) (none k) }
map_at_back make k (x ∷ xs) (suc i) y e =
    let w = map_at_back make (k + 1) xs i y e in
    record { item = w.item; there = w.there; is = w.is ∙ ap (λ n. make n w.item) (next k i) }

row_map : {X Y : Type 0} (make : List X → List Y) (rows : List (List X)) (a : ℕ) → make [] ≡ [] → row_at (map make rows) a ≡ make (row_at rows a)
row_map make [] a empty = sym empty
row_map make (r ∷ rows) zero empty = refl
row_map make (r ∷ rows) (suc a) empty = row_map make rows a empty

row_map_at : {X Y : Type 0} (make : ℕ → List X → List Y) (k : ℕ) (rows : List (List X)) (a : ℕ) → ((n : ℕ) → make n [] ≡ []) → row_at (map_at make k rows) a ≡ make (k + a) (row_at rows a)
row_map_at make k [] a empty = sym (empty (k + a))
row_map_at make k (r ∷ rows) zero empty = ap (λ n. make n r) (none k)
row_map_at make k (r ∷ rows) (suc a) empty = row_map_at make (k + 1) rows a empty ∙ ap (λ n. make n (row_at rows a)) (next k a)

row_whole : {X Y : Type 0} (make : ℕ → List X → List Y) (rows : List (List X)) (a : ℕ) → ((n : ℕ) → make n [] ≡ []) → row_at (map_at make 0 rows) a ≡ make a (row_at rows a)
row_whole make rows a empty = row_map_at make 0 rows a empty ∙ ap (λ n. make n (row_at rows a)) (from_none a)

-- an item of changed rows
item_each : {X Y : Type 0} (make : X → Y) (rows : List (List X)) (a b : ℕ) (y : Y) → item_at (map (map make) rows) a b ≡ Some y → Was make (item_at rows a b) y
item_each make rows a b y e = map_back make (row_at rows a) b y (sym (ap (λ r. slice_get r b) (row_map (map make) rows a refl)) ∙ e)

item_rows : {X Y : Type 0} (make : ℕ → ℕ → X → Y) (rows : List (List X)) (a b : ℕ) (y : Y) → item_at (map_rows make rows) a b ≡ Some y → Was (make a b) (item_at rows a b) y
item_rows make rows a b y e =
    let w = map_at_back (make a) 0 (row_at rows a) b y (sym (ap (λ r. slice_get r b) (row_whole (λ n. map_at (make n) 0) rows a (λ n. refl))) ∙ e) in
    record { item = w.item; there = w.there; is = w.is ∙ ap (λ n. make a n w.item) (from_none b) }

---- one event

-- the task had a row, and its losses are that row's and the cost
record IsLater (s : State) (t : TaskId) (cost : ℕ) (row : TaskRow) : Type 0 where
  before : TaskRow
  there : task_at s t ≡ Some before
  adds : row.losses ≡ before.losses + cost

-- what is made of a row has its losses
free : (s : State) (t : TaskId) (row : TaskRow) (make : TaskRow → TaskRow) → ((r : TaskRow) → (make r).losses ≡ r.losses) → Was make (task_at s t) row → IsLater s t 0 row
free s t row make keeps w = record { before = w.item; there = w.there; adds = ap (λ r. r.losses) w.is ∙ keeps w.item ∙ none w.item.losses }

unchanged : (s : State) (t : TaskId) (row : TaskRow) → task_at s t ≡ Some row → IsLater s t 0 row
unchanged s t row h = record { before = row; there = h; adds = none row.losses }

launched_keeps : (attempt : ℕ) (t : TaskId) (slot stage i : ℕ) (row : TaskRow) → (launched attempt t slot stage i row).losses ≡ row.losses
launched_keeps attempt t slot stage i row = go ((stage == t.stage) && (i == t.index))
  where
    go : (b : Bool) → (cond b (record { running = Some (record { number = attempt; slot = slot }); losses = row.losses }) row).losses ≡ row.losses
    go true = refl
    go false = refl

ended_keeps : (attempt : ℕ) (row : TaskRow) → (ended attempt row).losses ≡ row.losses
ended_keeps attempt row = go (runs attempt row)
  where
    go : (b : Bool) → (cond b (idle row) row).losses ≡ row.losses
    go true = refl
    go false = refl

-- the attempt ends, whatever task it is of
after_end : (s : State) (attempt : ℕ) (t : TaskId) (row : TaskRow) → item_at (map (map (ended attempt)) s.tasks) t.stage t.index ≡ Some row → IsLater s t 0 row
after_end s attempt t row h = free s t row (ended attempt) (ended_keeps attempt) (item_each (ended attempt) s.tasks t.stage t.index row h)

-- every attempt ends
after_all : (s : State) (t : TaskId) (row : TaskRow) → item_at (map (map idle) s.tasks) t.stage t.index ≡ Some row → IsLater s t 0 row
after_all s t row h = free s t row idle (λ r. refl) (item_each idle s.tasks t.stage t.index row h)

-- the attempts of some stages end
after_some : (s : State) (test : ℕ → Bool) (t : TaskId) (row : TaskRow) → item_at (map_at (λ stage rows. cond (test stage) (map idle rows) rows) 0 s.tasks) t.stage t.index ≡ Some row → IsLater s t 0 row
after_some s test t row h = go (test t.stage) (sym (ap (λ r. slice_get r t.index) (row_whole (λ stage rows. cond (test stage) (map idle rows) rows) s.tasks t.stage (λ n. empty (test n)))) ∙ h)
  where
    empty : (b : Bool) → cond b (map idle []) [] ≡ []
    empty true = refl
    empty false = refl

    go : (b : Bool) → slice_get (cond b (map idle (row_at s.tasks t.stage)) (row_at s.tasks t.stage)) t.index ≡ Some row → IsLater s t 0 row
    go true e = free s t row idle (λ r. refl) (map_back idle (row_at s.tasks t.stage) t.index row e)
    go false e = unchanged s t row e

one_more : (b : Bool) (n : ℕ) → cond b (n + 1) n ≡ n + cond b 1 0
one_more true n = refl
one_more false n = none n

after_evict : (g : TaskGraph) (s : State) (slot : ℕ) (t : TaskId) (row : TaskRow) → item_at (map_rows (evicted g s slot) s.tasks) t.stage t.index ≡ Some row → IsLater s t (loses g s t (Evict slot)) row
after_evict g s slot t row h =
    let w = item_rows (evicted g s slot) s.tasks t.stage t.index row h in
    let test = is_touched g s slot t.stage t.index in
    record {
      before = w.item;
      there = w.there;
      adds = ap (λ r. r.losses) w.is ∙ one_more (test w.item) w.item.losses ∙ ap (λ o. w.item.losses + cond (passes test o) 1 0) (sym w.there);
    }

after_event : (g : TaskGraph) (k : SettingsForm) (s : State) (e : Event) (t : TaskId) (row : TaskRow) → task_at (after g k s e) t ≡ Some row → IsLater s t (loses g s t e) row
after_event g k s (Launch attempt task slot reads) t row h =
    free s t row (launched attempt task slot t.stage t.index) (launched_keeps attempt task slot t.stage t.index) (item_rows (launched attempt task slot) s.tasks t.stage t.index row h)
after_event g k s (Commit attempt) t row h = after_end s attempt t row h
after_event g k s (Repeat attempt) t row h = unchanged s t row h
after_event g k s (GiveBack attempt) t row h = after_end s attempt t row h
after_event g k s (Evict slot) t row h = after_evict g s slot t row h
after_event g k s (Repartition v cuts) t row h = after_some s (is_stage_of g v) t row h
after_event g k s (Ignored v cuts) t row h = unchanged s t row h
after_event g k s (Decide v cuts) t row h = unchanged s t row h
after_event g k s (Fault attempt v kind rec) t row h = after_all s t row h
after_event g k s (Spent task) t row h = after_all s t row h
after_event g k s Starved t row h = after_all s t row h
after_event g k s (Drop block) t row h = unchanged s t row h
after_event g k s Finish t row h = after_all s t row h

---- a log

after_log : (g : TaskGraph) (k : SettingsForm) (log : List Event) (s end : State) (t : TaskId) (row : TaskRow) → Reaches g k s log end → task_at end t ≡ Some row → IsLater s t (losses_from g k s t log) row
after_log g k [] s end t row reached h = record { before = row; there = ap (λ u. task_at u t) reached ∙ h; adds = none row.losses }
after_log g k (e ∷ es) s end t row reached h =
    let later = after_log g k es (after g k s e) end t row reached.1 h in
    let first = after_event g k s e t later.before later.there in
    record { before = first.before; there = first.there; adds = omega arith }

replicated : {X : Type 0} (n : ℕ) (x : X) (i : ℕ) (y : X) → slice_get (replicate n x) i ≡ Some y → x ≡ y
replicated zero x i y e = cc
replicated (suc n) x zero y e = same_item x y e
replicated (suc n) x (suc i) y e = replicated n x i y e

fresh_row : (stages : List StageRow) (a b : ℕ) (row : TaskRow) → item_at (map fresh_tasks stages) a b ≡ Some row → fresh_task ≡ row
fresh_row [] a b row e = cc
fresh_row (stage ∷ stages) zero b row e = replicated stage.parallelism fresh_task b row e
fresh_row (stage ∷ stages) (suc a) b row e = fresh_row stages a b row e

pub losses_kept : (g : TaskGraph) (k : SettingsForm) (log : List Event) (s : State) (t : TaskId) (row : TaskRow) → HasState g k log s → task_at s t ≡ Some row → row.losses ≡ losses g k log t
losses_kept g k log s t row reached h =
    let later = after_log g k log (start g k) s t row reached h in
    let none_yet : 0 ≡ later.before.losses = ap (λ r. r.losses) (fresh_row g.stages t.stage t.index later.before later.there) in
    omega arith
