-- The tables of a state keep their lengths.
use Rattle.std.proofs.Common.{arith, ◌≡◌, ◌∙◌, ap, sym, refl, ℕ, zero, suc, ◌+◌, ◌-◌, ◌≤◌, ◌<◌, List, [], ◌∷◌, map, length, replicate, slice_get, Bool, true, false, Option, Some, None}
use Rattle.std.specs.Prelude.{◌&&◌, ◌==◌, if◌then◌else◌}
use Rattle.std.proofs.lemmas.Bool.{eqb-true}
use Rattle.std.proofs.lemmas.List.{length-map, length-replicate}
use Rattle.std.proofs.lemmas.List.FromFn.{length-map-range_with_len}
use Rattle.std.proofs.lemmas.Option.{slice_get_within}
use Rattle.nemo_base.specs.Cuts.{even_cut, even_cuts}
use Rattle.nemo_base.specs.Places.{item_at, map_at, passes, row_at}
use Rattle.nemo_base.specs.Sound.{is_sound}
use Rattle.nemo_base.specs.declared.graph.StageRow.{StageRow}
use Rattle.nemo_base.specs.declared.graph.TaskGraph.{TaskGraph}
use Rattle.nemo_base.specs.declared.graph.VertexRow.{VertexRow}
use Rattle.nemo_base.specs.declared.settings.Settings.{Settings}
use Rattle.nemo_base.proofs.Finding.{passing, same_item}
use Rattle.nemo_base.proofs.SoundGraphs.{stage_sound, vertex_sound}
use Rattle.nemo_core.specs.Kept.{AllCutsFit, HasTables}
use Rattle.nemo_core.specs.State.{State, fresh_blocks, fresh_cuts, fresh_task, fresh_tasks, has_blocks, start}
use Rattle.nemo_core.specs.Step.{after, conditions, cuts_fit, decided, ended, evicted, filled, filled_row, idle, is_stage_of, launched, recut, refusal, sealed_by, taken_from}
use Rattle.nemo_core.specs.declared.event.Event.{Event}
use Rattle.nemo_core.specs.declared.event.Event.TheVariants.{Launch, Commit, Repeat, GiveBack, Evict, Repartition, Ignored, Decide, Fault, Spent, Starved, Drop, Finish}
use Rattle.nemo_core.specs.declared.event.HeldBy.{HeldBy}
use Rattle.nemo_core.specs.declared.row.CutsRow.{CutsRow}
use Rattle.nemo_core.specs.declared.row.TaskRow.{TaskRow}
use Rattle.nemo_core.proofs.Allowed.{are_met}
use Rattle.nemo_core.proofs.Cells.{row_is}
use Rattle.nemo_core.proofs.Changed.{Was, at_back, get_map_at, length_map_at, lengths_map, lengths_map_at, map_back, on}

---- a step

idle_if : (b : Bool) (rows : List TaskRow) → length (if b then map idle rows else rows) ≡ length rows
idle_if true rows = length-map rows idle
idle_if false rows = refl

filled_length : (k : Settings) (incs : List ℕ) (tasks : List (List TaskRow)) (attempt : ℕ) (o : Option VertexRow) (blocks : List (Option HeldBy)) → length (filled_row k incs tasks attempt o blocks) ≡ length blocks
filled_length k incs tasks attempt (Some row) blocks = length_map_at (filled k incs attempt row.home (row_at tasks row.stage)) 0 blocks
filled_length k incs tasks attempt None blocks = refl

all_idle : (tasks : List (List TaskRow)) → map length (map (map idle) tasks) ≡ map length tasks
all_idle tasks = lengths_map (map idle) tasks (λ r. length-map r idle)

all_ended : (attempt : ℕ) (tasks : List (List TaskRow)) → map length (map (map (ended attempt)) tasks) ≡ map length tasks
all_ended attempt tasks = lengths_map (map (ended attempt)) tasks (λ r. length-map r (ended attempt))

pub task_lengths : (g : TaskGraph) (k : Settings) (s : State) (e : Event) → map length (after g k s e).tasks ≡ map length s.tasks
task_lengths g k s (Launch attempt task slot reads) = lengths_map_at (λ n. map_at (launched attempt task slot n) 0) 0 s.tasks (λ n r. length_map_at (launched attempt task slot n) 0 r)
task_lengths g k s (Commit attempt) = all_ended attempt s.tasks
task_lengths g k s (Repeat attempt) = refl
task_lengths g k s (GiveBack attempt) = all_ended attempt s.tasks
task_lengths g k s (Evict slot) = lengths_map_at (λ n. map_at (evicted g s slot n) 0) 0 s.tasks (λ n r. length_map_at (evicted g s slot n) 0 r)
task_lengths g k s (Repartition vertex cuts) = lengths_map_at (λ stage rows. if is_stage_of g vertex stage then map idle rows else rows) 0 s.tasks (λ n r. idle_if (is_stage_of g vertex n) r)
task_lengths g k s (Ignored vertex cuts) = refl
task_lengths g k s (Decide vertex cuts) = refl
task_lengths g k s (Fault attempt vertex kind rec) = all_idle s.tasks
task_lengths g k s (Spent task) = all_idle s.tasks
task_lengths g k s Starved = all_idle s.tasks
task_lengths g k s (Drop block) = refl
task_lengths g k s Finish = all_idle s.tasks

sealed_length : (g : TaskGraph) (k : Settings) (s : State) (e : Event) → length (after g k s e).sealed ≡ length s.sealed
sealed_length g k s (Launch attempt task slot reads) = refl
sealed_length g k s (Commit attempt) = length_map_at (sealed_by s.tasks attempt) 0 s.sealed
sealed_length g k s (Repeat attempt) = refl
sealed_length g k s (GiveBack attempt) = refl
sealed_length g k s (Evict slot) = refl
sealed_length g k s (Repartition vertex cuts) = refl
sealed_length g k s (Ignored vertex cuts) = refl
sealed_length g k s (Decide vertex cuts) = refl
sealed_length g k s (Fault attempt vertex kind rec) = refl
sealed_length g k s (Spent task) = refl
sealed_length g k s Starved = refl
sealed_length g k s (Drop block) = refl
sealed_length g k s Finish = refl

pub slots_length : (g : TaskGraph) (k : Settings) (s : State) (e : Event) → length (after g k s e).incs ≡ length s.incs
slots_length g k s (Launch attempt task slot reads) = refl
slots_length g k s (Commit attempt) = refl
slots_length g k s (Repeat attempt) = refl
slots_length g k s (GiveBack attempt) = refl
slots_length g k s (Evict slot) = length_map_at (λ place n. if place == slot then n + 1 else n) 0 s.incs
slots_length g k s (Repartition vertex cuts) = refl
slots_length g k s (Ignored vertex cuts) = refl
slots_length g k s (Decide vertex cuts) = refl
slots_length g k s (Fault attempt vertex kind rec) = refl
slots_length g k s (Spent task) = refl
slots_length g k s Starved = refl
slots_length g k s (Drop block) = refl
slots_length g k s Finish = refl

block_lengths : (g : TaskGraph) (k : Settings) (s : State) (e : Event) → map length (after g k s e).blocks ≡ map length s.blocks
block_lengths g k s (Launch attempt task slot reads) = refl
block_lengths g k s (Commit attempt) =
    lengths_map_at (λ v blocks. filled_row k s.incs s.tasks attempt (slice_get g.vertices v) blocks) 0 s.blocks (λ v r. filled_length k s.incs s.tasks attempt (slice_get g.vertices v) r)
block_lengths g k s (Repeat attempt) = refl
block_lengths g k s (GiveBack attempt) = refl
block_lengths g k s (Evict slot) = lengths_map (map (taken_from slot)) s.blocks (λ r. length-map r (taken_from slot))
block_lengths g k s (Repartition vertex cuts) = refl
block_lengths g k s (Ignored vertex cuts) = refl
block_lengths g k s (Decide vertex cuts) = refl
block_lengths g k s (Fault attempt vertex kind rec) = refl
block_lengths g k s (Spent task) = refl
block_lengths g k s Starved = refl
block_lengths g k s (Drop block) =
    lengths_map_at (λ v. map_at (λ i held. if (v == block.vertex) && (i == block.task) then None else held) 0) 0 s.blocks
    (λ v r. length_map_at (λ i held. if (v == block.vertex) && (i == block.task) then None else held) 0 r)
block_lengths g k s Finish = refl

cuts_length : (g : TaskGraph) (k : Settings) (s : State) (e : Event) → length (after g k s e).cuts ≡ length s.cuts
cuts_length g k s (Launch attempt task slot reads) = refl
cuts_length g k s (Commit attempt) = refl
cuts_length g k s (Repeat attempt) = refl
cuts_length g k s (GiveBack attempt) = refl
cuts_length g k s (Evict slot) = refl
cuts_length g k s (Repartition vertex cuts) = length_map_at (recut vertex cuts) 0 s.cuts
cuts_length g k s (Ignored vertex cuts) = refl
cuts_length g k s (Decide vertex cuts) = length_map_at (decided vertex cuts) 0 s.cuts
cuts_length g k s (Fault attempt vertex kind rec) = refl
cuts_length g k s (Spent task) = refl
cuts_length g k s Starved = refl
cuts_length g k s (Drop block) = refl
cuts_length g k s Finish = refl

pub tables_step : (g : TaskGraph) (k : Settings) (s : State) (e : Event) → HasTables g k s → HasTables g k (after g k s e)
tables_step g k s e t = record {
  tasks = task_lengths g k s e ∙ t.tasks;
  sealed = sealed_length g k s e ∙ t.sealed;
  slots = slots_length g k s e ∙ t.slots;
  blocks = block_lengths g k s e ∙ t.blocks;
  cuts = cuts_length g k s e ∙ t.cuts;
}

---- the start

fresh_lengths : (stages : List StageRow) → map length (map fresh_tasks stages) ≡ map (λ row. row.parallelism) stages
fresh_lengths [] = refl
fresh_lengths (row ∷ rows) = ap (λ n. n ∷ map length (map fresh_tasks rows)) (length-replicate row.parallelism fresh_task) ∙ ap (λ ns. row.parallelism ∷ ns) (fresh_lengths rows)

pub tables_start : (g : TaskGraph) (k : Settings) → HasTables g k (start g k)
tables_start g k = record {
  tasks = fresh_lengths g.stages;
  sealed = length-replicate (length g.stages) false;
  slots = length-replicate (k.reserved + k.transient) 0;
  blocks = refl;
  cuts = length-map g.vertices fresh_cuts;
}

---- a row of blocks

row_lengths : {X Y : Type 0} (xs : List (List X)) (ys : List (List Y)) → map length xs ≡ map length ys → (a : ℕ) → length (row_at xs a) ≡ length (row_at ys a)
row_lengths [] [] e a = refl
row_lengths [] (y ∷ ys) e a = cc
row_lengths (x ∷ xs) [] e a = cc
row_lengths (x ∷ xs) (y ∷ ys) e zero = cc
row_lengths (x ∷ xs) (y ∷ ys) e (suc a) = let later : map length xs ≡ map length ys = cc in row_lengths xs ys later a

pub blocks_length : (g : TaskGraph) (k : Settings) (s : State) (v : ℕ) (row : VertexRow) → HasTables g k s → slice_get g.vertices v ≡ Some row → length (row_at s.blocks v) ≡ length (fresh_blocks g v row)
blocks_length g k s v row t named =
    row_lengths s.blocks (start g k).blocks t.blocks v
    ∙ ap length (row_is (start g k).blocks v (fresh_blocks g v row) (get_map_at (fresh_blocks g) g.vertices v ∙ ap (on (fresh_blocks g v)) named))

abbrev pub no_block : Option HeldBy
no_block = None

pub has_all : (g : TaskGraph) (v : ℕ) (row : VertexRow) → has_blocks g v row ≡ true → length (fresh_blocks g v row) ≡ row.parallelism
has_all g v row has = ap (λ b. length (if b then replicate row.parallelism no_block else [])) has ∙ length-replicate row.parallelism no_block

-- a block that is there is one of a vertex that has blocks
pub block_there : (g : TaskGraph) (k : Settings) (s : State) (v i : ℕ) (row : VertexRow) (x : Option HeldBy) → HasTables g k s → slice_get g.vertices v ≡ Some row → item_at s.blocks v i ≡ Some x
    → (has_blocks g v row ≡ true) × (i < row.parallelism)
block_there g k s v i row x t named there = go (has_blocks g v row) refl
  where
    less : i < length (row_at s.blocks v)
    less = slice_get_within (row_at s.blocks v) i x there

    long : length (row_at s.blocks v) ≡ length (fresh_blocks g v row)
    long = blocks_length g k s v row t named

    go : (b : Bool) → has_blocks g v row ≡ b → (has_blocks g v row ≡ true) × (i < row.parallelism)
    go true has = let all = has_all g v row has in (has, omega (arith, less, long, all))
    go false has =
        let none : length (fresh_blocks g v row) ≡ 0 = ap (λ b. length (if b then replicate row.parallelism no_block else [])) has in
        absurd (omega (arith, less, long, none))

---- cuts

-- the even cuts of a vertex of a sound graph are as many as it takes
pub even_fit : (g : TaskGraph) (v : ℕ) (vertex : VertexRow) → is_sound g ≡ true → slice_get g.vertices v ≡ Some vertex → suc (length (even_cuts vertex.parallelism)) ≡ vertex.parallelism
even_fit g v vertex sound named =
    let all : length (even_cuts vertex.parallelism) ≡ vertex.parallelism - 1 = length-map-range_with_len (even_cut vertex.parallelism) 1 (vertex.parallelism - 1) in
    let f = vertex_sound g v vertex sound named in
    let some : 1 ≤ f.stage.parallelism = (stage_sound g vertex.stage f.stage sound f.made_by).some in
    let own : vertex.parallelism ≡ f.stage.parallelism = f.parallelism in
    omega (arith, all, some, own)

pub cuts_start : (g : TaskGraph) (k : Settings) → is_sound g ≡ true → AllCutsFit g (start g k)
cuts_start g k sound v vertex row named there =
    let w = map_back fresh_cuts g.vertices v row there in
    let same : w.item ≡ vertex = same_item w.item vertex (sym w.there ∙ named) in
    ap (λ r. suc (length r.cuts)) w.is
    ∙ ap (λ x. suc (length (even_cuts x.parallelism))) same
    ∙ even_fit g v vertex sound named

-- the cuts of one vertex are others, as many as it takes
cuts_set : (g : TaskGraph) (s : State) (w : ℕ) (cuts : List ℕ) (make : ℕ → CutsRow → CutsRow) → passes (cuts_fit cuts) (slice_get g.vertices w) ≡ true
    → ((v : ℕ) (row : CutsRow) → (make v row).cuts ≡ (if v == w then cuts else row.cuts))
    → AllCutsFit g s → (v : ℕ) (vertex : VertexRow) (row : CutsRow) → slice_get g.vertices v ≡ Some vertex → slice_get (map_at make 0 s.cuts) v ≡ Some row → suc (length row.cuts) ≡ vertex.parallelism
cuts_set g s w cuts make fit is kept v vertex row named there = go (v == w) refl
  where
    before : Was (make v) (slice_get s.cuts v) row
    before = at_back make s.cuts v row there

    all : row.cuts ≡ (if v == w then cuts else before.item.cuts)
    all = ap (λ r. r.cuts) before.is ∙ is v before.item

    go : (b : Bool) → (v == w) ≡ b → suc (length row.cuts) ≡ vertex.parallelism
    go true e =
        let p = passing (cuts_fit cuts) (slice_get g.vertices w) fit in
        let same : p.item ≡ vertex = same_item p.item vertex (sym p.there ∙ ap (slice_get g.vertices) (sym (eqb-true v w e)) ∙ named) in
        ap (λ cs. suc (length cs)) (all ∙ ap (λ b. if b then cuts else before.item.cuts) e)
        ∙ eqb-true (suc (length cuts)) p.item.parallelism p.ok ∙ ap (λ r. r.parallelism) same
    go false e = ap (λ cs. suc (length cs)) (all ∙ ap (λ b. if b then cuts else before.item.cuts) e) ∙ kept v vertex before.item named before.there

recut_is : (w : ℕ) (cuts : List ℕ) (v : ℕ) (row : CutsRow) → (recut w cuts v row).cuts ≡ (if v == w then cuts else row.cuts)
recut_is w cuts v row = go (v == w)
  where
    go : (b : Bool) → (if b then (record { cuts = cuts; decided = row.decided }) else row).cuts ≡ (if b then cuts else row.cuts)
    go true = refl
    go false = refl

decided_is : (w : ℕ) (cuts : List ℕ) (v : ℕ) (row : CutsRow) → (decided w cuts v row).cuts ≡ (if v == w then cuts else row.cuts)
decided_is w cuts v row = go (v == w)
  where
    go : (b : Bool) → (if b then (record { cuts = cuts; decided = true }) else row).cuts ≡ (if b then cuts else row.cuts)
    go true = refl
    go false = refl

pub cuts_step : (g : TaskGraph) (k : Settings) (s : State) (e : Event) → refusal g k s e ≡ None → AllCutsFit g s → AllCutsFit g (after g k s e)
cuts_step g k s (Launch attempt task slot reads) none kept = kept
cuts_step g k s (Commit attempt) none kept = kept
cuts_step g k s (Repeat attempt) none kept = kept
cuts_step g k s (GiveBack attempt) none kept = kept
cuts_step g k s (Evict slot) none kept = kept
cuts_step g k s (Repartition vertex cuts) none kept = cuts_set g s vertex cuts (recut vertex cuts) (are_met (conditions g k s (Repartition vertex cuts)) none).1.1.1.0 (recut_is vertex cuts) kept
cuts_step g k s (Ignored vertex cuts) none kept = kept
cuts_step g k s (Decide vertex cuts) none kept = cuts_set g s vertex cuts (decided vertex cuts) (are_met (conditions g k s (Decide vertex cuts)) none).1.1.1.1.1.0 (decided_is vertex cuts) kept
cuts_step g k s (Fault attempt vertex kind rec) none kept = kept
cuts_step g k s (Spent task) none kept = kept
cuts_step g k s Starved none kept = kept
cuts_step g k s (Drop block) none kept = kept
cuts_step g k s Finish none kept = kept
