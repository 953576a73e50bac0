-- What an event makes of a block, and what the block was before.
use Rattle.std.proofs.Common.{◌≡◌, ◌∙◌, ap, sym, refl, ℕ, List, [], slice_get, Bool, true, false, Option, Some, None}
use Rattle.std.specs.Prelude.{◌&&◌, ◌==◌, if◌then◌else◌}
use Rattle.nemo_base.specs.Places.{item_at, row_at}
use Rattle.nemo_base.specs.declared.graph.Home.{Home}
use Rattle.nemo_base.specs.declared.graph.TaskGraph.{TaskGraph}
use Rattle.nemo_base.specs.declared.graph.VertexRow.{VertexRow}
use Rattle.nemo_base.specs.declared.settings.Settings.{Settings}
use Rattle.nemo_core.specs.Laws.{takes}
use Rattle.nemo_core.specs.State.{State, flat, held_at, is_number}
use Rattle.nemo_core.specs.Step.{after, filled, filled_row, home_of, lies_on, made, running_of, taken_from}
use Rattle.nemo_core.specs.declared.event.Event.{Event}
use Rattle.nemo_core.specs.declared.event.Event.TheVariants.{Launch, Commit, Repeat, GiveBack, Evict, Repartition, Ignored, Decide, Fault, Spent, Starved, Drop, Finish}
use Rattle.nemo_core.specs.declared.event.HeldBy.{HeldBy}
use Rattle.nemo_core.specs.declared.row.Attempt.{Attempt}
use Rattle.nemo_core.specs.declared.row.TaskRow.{TaskRow}
use Rattle.nemo_core.proofs.Changed.{get_map_at, item_map, item_map_rows, item_row, on}

-- a block that is held is there
pub held_there : (o : Option (Option HeldBy)) (h : HeldBy) → flat o ≡ Some h → o ≡ Some (Some h)
held_there (Some x) h e = ap (λ y. Some y) e
held_there None h e = cc

---- an eviction and a drop

flat_taken : (slot : ℕ) (o : Option (Option HeldBy)) → flat (on (taken_from slot) o) ≡ taken_from slot (flat o)
flat_taken slot (Some x) = refl
flat_taken slot None = refl

flat_dropped : (b : Bool) (o : Option (Option HeldBy)) → flat (on (λ held. if b then None else held) o) ≡ (if b then None else flat o)
flat_dropped b (Some x) = refl
flat_dropped true None = refl
flat_dropped false None = refl

pub held_evicted : (g : TaskGraph) (k : Settings) (s : State) (slot v i : ℕ) → held_at (after g k s (Evict slot)) v i ≡ taken_from slot (held_at s v i)
held_evicted g k s slot v i = ap flat (item_map (taken_from slot) s.blocks v i) ∙ flat_taken slot (item_at s.blocks v i)

pub held_dropped : (g : TaskGraph) (k : Settings) (s : State) (e : Event) (w t v i : ℕ) → e ≡ Drop (record { vertex = w; task = t })
    → held_at (after g k s e) v i ≡ (if (v == w) && (i == t) then None else held_at s v i)
held_dropped g k s e w t v i is =
    ap (λ x. held_at (after g k s x) v i) is
    ∙ ap flat (item_map_rows (λ v i held. if (v == w) && (i == t) then None else held) s.blocks v i)
    ∙ flat_dropped ((v == w) && (i == t)) (item_at s.blocks v i)

---- a commit

-- what a commit makes of block i of this vertex
abbrev pub fill : Settings → List ℕ → List (List TaskRow) → ℕ → Option VertexRow → ℕ → Option HeldBy → Option HeldBy
fill k incs tasks attempt (Some row) i held = filled k incs attempt row.home (row_at tasks row.stage) i held
fill k incs tasks attempt None i held = held

filled_empty : (k : Settings) (incs : List ℕ) (tasks : List (List TaskRow)) (attempt : ℕ) (o : Option VertexRow) → filled_row k incs tasks attempt o [] ≡ []
filled_empty k incs tasks attempt (Some row) = refl
filled_empty k incs tasks attempt None = refl

on_same : {X : Type 0} (o : Option X) → o ≡ on (λ x. x) o
on_same (Some x) = refl
on_same None = refl

filled_get : (k : Settings) (incs : List ℕ) (tasks : List (List TaskRow)) (attempt : ℕ) (o : Option VertexRow) (blocks : List (Option HeldBy)) (i : ℕ)
    → slice_get (filled_row k incs tasks attempt o blocks) i ≡ on (fill k incs tasks attempt o i) (slice_get blocks i)
filled_get k incs tasks attempt (Some row) blocks i = get_map_at (filled k incs attempt row.home (row_at tasks row.stage)) blocks i
filled_get k incs tasks attempt None blocks i = on_same (slice_get blocks i)

pub committed_item : (g : TaskGraph) (k : Settings) (s : State) (attempt v i : ℕ)
    → item_at (after g k s (Commit attempt)).blocks v i ≡ on (fill k s.incs s.tasks attempt (slice_get g.vertices v) i) (item_at s.blocks v i)
committed_item g k s attempt v i =
    item_row (λ v blocks. filled_row k s.incs s.tasks attempt (slice_get g.vertices v) blocks) s.blocks v i (λ n. filled_empty k s.incs s.tasks attempt (slice_get g.vertices n))
    ∙ filled_get k s.incs s.tasks attempt (slice_get g.vertices v) (row_at s.blocks v) i

fill_held : (k : Settings) (incs : List ℕ) (tasks : List (List TaskRow)) (attempt : ℕ) (o : Option VertexRow) (i : ℕ) (h : HeldBy) → fill k incs tasks attempt o i (Some h) ≡ Some h
fill_held k incs tasks attempt (Some row) i h = refl
fill_held k incs tasks attempt None i h = refl

held_committed : (g : TaskGraph) (k : Settings) (s : State) (attempt v i : ℕ) (h : HeldBy) → held_at s v i ≡ Some h → held_at (after g k s (Commit attempt)) v i ≡ Some h
held_committed g k s attempt v i h e =
    ap flat (committed_item g k s attempt v i)
    ∙ ap (λ o. flat (on (fill k s.incs s.tasks attempt (slice_get g.vertices v) i) o)) (held_there (item_at s.blocks v i) h e)
    ∙ fill_held k s.incs s.tasks attempt (slice_get g.vertices v) i h

---- a block that is held

pub held_step : (g : TaskGraph) (k : Settings) (s : State) (e : Event) (v i : ℕ) (h : HeldBy) → held_at s v i ≡ Some h → held_at (after g k s e) v i ≡ (if takes e v i h then None else Some h)
held_step g k s (Launch attempt task slot reads) v i h e = e
held_step g k s (Commit attempt) v i h e = held_committed g k s attempt v i h e
held_step g k s (Repeat attempt) v i h e = e
held_step g k s (GiveBack attempt) v i h e = e
held_step g k s (Evict slot) v i h e = held_evicted g k s slot v i ∙ ap (taken_from slot) e
held_step g k s (Repartition vertex cuts) v i h e = e
held_step g k s (Ignored vertex cuts) v i h e = e
held_step g k s (Decide vertex cuts) v i h e = e
held_step g k s (Fault attempt vertex kind rec) v i h e = e
held_step g k s (Spent task) v i h e = e
held_step g k s Starved v i h e = e
held_step g k s (Drop block) v i h e =
    held_dropped g k s (Drop block) block.vertex block.task v i refl
    ∙ ap (λ o. if (v == block.vertex) && (i == block.task) then None else o) e
held_step g k s Finish v i h e = e

---- what it was before

-- the commit makes block i of vertex v
pub record IsMade (g : TaskGraph) (k : Settings) (s : State) (attempt v i : ℕ) (h : HeldBy) : Type 0 where
  pub row : VertexRow
  pub named : slice_get g.vertices v ≡ Some row
  pub task : TaskRow
  pub there : item_at s.tasks row.stage i ≡ Some task
  pub own : Attempt
  pub running : task.running ≡ Some own
  pub number : (own.number == attempt) ≡ true
  pub gone : item_at s.blocks v i ≡ Some None
  pub is : h ≡ home_of k s.incs attempt i row.home own

-- a block that is held was so before, or this commit makes it
pub data HeldWas (g : TaskGraph) (k : Settings) (s : State) (e : Event) (v i : ℕ) (h : HeldBy) : Type 0 where
  stayed : held_at s v i ≡ Some h → takes e v i h ≡ false → HeldWas g k s e v i h
  commits : (attempt : ℕ) → e ≡ Commit attempt → IsMade g k s attempt v i h → HeldWas g k s e v i h

record WasRunning (o : Option TaskRow) (a : Attempt) : Type 0 where
  task : TaskRow
  there : o ≡ Some task
  running : task.running ≡ Some a

was_running : (o : Option TaskRow) (a : Attempt) → running_of o ≡ Some a → WasRunning o a
was_running (Some row) a e = record { task = row; there = refl; running = e }
was_running None a e = cc

record MadeBy (k : Settings) (incs : List ℕ) (attempt i : ℕ) (home : Home) (r : Option Attempt) (h : HeldBy) : Type 0 where
  own : Attempt
  there : r ≡ Some own
  number : (own.number == attempt) ≡ true
  is : h ≡ home_of k incs attempt i home own

made_by : (k : Settings) (incs : List ℕ) (attempt i : ℕ) (home : Home) (r : Option Attempt) (h : HeldBy) → made k incs attempt i home r ≡ Some h → MadeBy k incs attempt i home r h
made_by k incs attempt i home None h e = cc
made_by k incs attempt i home (Some a) h e = go (is_number attempt a) refl
  where
    go : (b : Bool) → is_number attempt a ≡ b → MadeBy k incs attempt i home (Some a) h
    go true n =
        let all : Some (home_of k incs attempt i home a) ≡ Some h = sym (ap (λ b. if b then Some (home_of k incs attempt i home a) else None) n) ∙ e in
        record { own = a; there = refl; number = n; is = cc }
    go false n =
        let none : None ≡ Some h = sym (ap (λ b. if b then Some (home_of k incs attempt i home a) else None) n) ∙ e in cc

filled_was : (g : TaskGraph) (k : Settings) (s : State) (attempt v i : ℕ) (h : HeldBy) (o : Option VertexRow) (x : Option (Option HeldBy)) → slice_get g.vertices v ≡ o → item_at s.blocks v i ≡ x
    → flat (on (fill k s.incs s.tasks attempt o i) x) ≡ Some h → HeldWas g k s (Commit attempt) v i h
filled_was g k s attempt v i h o None named there e = cc
filled_was g k s attempt v i h o (Some (Some before)) named there e = stayed (ap flat there ∙ sym (fill_held k s.incs s.tasks attempt o i before) ∙ e) refl
filled_was g k s attempt v i h None (Some None) named there e = cc
filled_was g k s attempt v i h (Some row) (Some None) named there e =
    let m = made_by k s.incs attempt i row.home (running_of (slice_get (row_at s.tasks row.stage) i)) h e in
    let w = was_running (item_at s.tasks row.stage i) m.own m.there in
    commits attempt refl (record { row = row; named = named; task = w.task; there = w.there; own = m.own; running = w.running; number = m.number; gone = there; is = m.is })

taken_was : (slot : ℕ) (o : Option HeldBy) (h : HeldBy) → taken_from slot o ≡ Some h → (o ≡ Some h) × (lies_on slot h ≡ false)
taken_was slot None h e = cc
taken_was slot (Some x) h e = go (lies_on slot x) refl
  where
    go : (b : Bool) → lies_on slot x ≡ b → (Some x ≡ Some h) × (lies_on slot h ≡ false)
    go true l = let none : None ≡ Some h = sym (ap (λ b. if b then None else Some x) l) ∙ e in cc
    go false l =
        let same : Some x ≡ Some h = sym (ap (λ b. if b then None else Some x) l) ∙ e in
        let it : x ≡ h = cc in
        (same, ap (lies_on slot) (sym it) ∙ l)

dropped_was : (b : Bool) (o : Option HeldBy) (h : HeldBy) → (if b then None else o) ≡ Some h → (o ≡ Some h) × (b ≡ false)
dropped_was true o h e = cc
dropped_was false o h e = (e, refl)

pub held_was : (g : TaskGraph) (k : Settings) (s : State) (e : Event) (v i : ℕ) (h : HeldBy) → held_at (after g k s e) v i ≡ Some h → HeldWas g k s e v i h
held_was g k s (Launch attempt task slot reads) v i h e = stayed e refl
held_was g k s (Commit attempt) v i h e = filled_was g k s attempt v i h (slice_get g.vertices v) (item_at s.blocks v i) refl refl (sym (ap flat (committed_item g k s attempt v i)) ∙ e)
held_was g k s (Repeat attempt) v i h e = stayed e refl
held_was g k s (GiveBack attempt) v i h e = stayed e refl
held_was g k s (Evict slot) v i h e = let t = taken_was slot (held_at s v i) h (sym (held_evicted g k s slot v i) ∙ e) in stayed t.0 t.1
held_was g k s (Repartition vertex cuts) v i h e = stayed e refl
held_was g k s (Ignored vertex cuts) v i h e = stayed e refl
held_was g k s (Decide vertex cuts) v i h e = stayed e refl
held_was g k s (Fault attempt vertex kind rec) v i h e = stayed e refl
held_was g k s (Spent task) v i h e = stayed e refl
held_was g k s Starved v i h e = stayed e refl
held_was g k s (Drop block) v i h e =
    let t = dropped_was ((v == block.vertex) && (i == block.task)) (held_at s v i) h (sym (held_dropped g k s (Drop block) block.vertex block.task v i refl) ∙ e) in
    stayed t.0 t.1
held_was g k s Finish v i h e = stayed e refl
