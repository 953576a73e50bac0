-- Blocks that are held were made by an attempt, lie where their home says, and on the present incarnation of their slot.
use Rattle.std.proofs.Common.{arith, subst, replicate, ◌≡◌, ◌∙◌, ap, sym, refl, ℕ, ◌+◌, ◌<◌, ◌≤◌, ◌%◌, List, [], length, slice_get, Bool, true, false, Option, Some, None}
use Rattle.std.specs.Prelude.{◌==◌, if◌then◌else◌, max}
use Rattle.std.proofs.lemmas.Bool.{lt-ltb}
use Rattle.std.proofs.lemmas.Option.{slice_get-get_or}
use Rattle.nemo_base.specs.Needed.{made_by}
use Rattle.nemo_base.specs.Places.{is_in, item_at, map_at, passes, row_at}
use Rattle.nemo_base.specs.Settings.{AreInRange}
use Rattle.nemo_base.specs.declared.annotation.Class.{Class}
use Rattle.nemo_base.specs.declared.graph.Home.{Home}
use Rattle.nemo_base.specs.declared.graph.Home.TheVariants.{Master, Pushed, Local}
use Rattle.nemo_base.specs.declared.graph.StageRow.{StageRow}
use Rattle.nemo_base.specs.declared.graph.TaskGraph.{TaskGraph}
use Rattle.nemo_base.specs.declared.graph.VertexRow.{VertexRow}
use Rattle.nemo_base.specs.declared.settings.Settings.{Settings}
use Rattle.nemo_base.proofs.Finding.{passes_at, passing, same_item}
use Rattle.nemo_core.specs.Kept.{AreFirst, AreHome, AreMade, ArePlaced, ArePresent, HasTables, IsHome, may_lie}
use Rattle.nemo_core.specs.Laws.{takes}
use Rattle.nemo_core.specs.State.{State, fresh_blocks, has_blocks, held_at, is_number, runs, start}
use Rattle.nemo_core.specs.Step.{after, fits, home_of}
use Rattle.nemo_core.specs.Within.{AreSingle}
use Rattle.nemo_core.specs.declared.event.Event.{Event}
use Rattle.nemo_core.specs.declared.event.Event.TheVariants.{Launch, Commit, Repeat, GiveBack, Evict, Repartition, Ignored, Decide, Fault, Spent, Starved, Drop, Finish}
use Rattle.nemo_core.specs.declared.event.HeldBy.{HeldBy}
use Rattle.nemo_core.specs.declared.row.Attempt.{Attempt}
use Rattle.nemo_core.proofs.Blocks.{IsMade, commits, held_there, held_was, stayed}
use Rattle.nemo_core.proofs.Cells.{row_there}
use Rattle.nemo_core.proofs.Changed.{at_back, get_map_at, on}
use Rattle.nemo_core.proofs.KeptTables.{block_there, no_block}
use Rattle.nemo_core.proofs.KeptTasks.{replicate_is}

---- the start

fresh_item : (n i : ℕ) (h : HeldBy) → slice_get (replicate n no_block) i ≡ Some (Some h) → ⊥
fresh_item n i h e = let clash : Some h ≡ None = replicate_is n no_block i (Some h) e in cc

fresh_row : (g : TaskGraph) (v : ℕ) (row : VertexRow) (i : ℕ) (h : HeldBy) (b : Bool) → slice_get (if b then replicate row.parallelism no_block else []) i ≡ Some (Some h) → ⊥
fresh_row g v row i h true e = fresh_item row.parallelism i h e
fresh_row g v row i h false e = cc

fresh_gone : (g : TaskGraph) (v i : ℕ) (h : HeldBy) → item_at (map_at (fresh_blocks g) 0 g.vertices) v i ≡ Some (Some h) → ⊥
fresh_gone g v i h e =
    let rows = map_at (fresh_blocks g) 0 g.vertices in
    let w = at_back (fresh_blocks g) g.vertices v (row_at rows v) (row_there rows v i (Some h) e) in
    fresh_row g v w.item i h (has_blocks g v w.item) (ap (λ r. slice_get r i) (sym w.is) ∙ e)

-- no block is held at the start
pub none_held : (g : TaskGraph) (k : Settings) (v i : ℕ) (h : HeldBy) → held_at (start g k) v i ≡ Some h → ⊥
none_held g k v i h e = fresh_gone g v i h (held_there (item_at (start g k).blocks v i) h e)

---- made

home_attempt : (k : Settings) (incs : List ℕ) (attempt i : ℕ) (home : Home) (a : Attempt) → (home_of k incs attempt i home a).attempt ≡ attempt
home_attempt k incs attempt i Master a = refl
home_attempt k incs attempt i Pushed a = refl
home_attempt k incs attempt i Local a = refl

launches_up : (g : TaskGraph) (k : Settings) (s : State) (e : Event) → s.launches ≤ (after g k s e).launches
launches_up g k s (Launch attempt task slot reads) = omega arith
launches_up g k s (Commit attempt) = omega arith
launches_up g k s (Repeat attempt) = omega arith
launches_up g k s (GiveBack attempt) = omega arith
launches_up g k s (Evict slot) = omega arith
launches_up g k s (Repartition vertex cuts) = omega arith
launches_up g k s (Ignored vertex cuts) = omega arith
launches_up g k s (Decide vertex cuts) = omega arith
launches_up g k s (Fault attempt vertex kind rec) = omega arith
launches_up g k s (Spent task) = omega arith
launches_up g k s Starved = omega arith
launches_up g k s (Drop block) = omega arith
launches_up g k s Finish = omega arith

-- the attempt that makes the block runs
maker_runs : (g : TaskGraph) (k : Settings) (s : State) (attempt v i : ℕ) (h : HeldBy) → IsMade g k s attempt v i h → AreSingle s.tasks s.launches → attempt < s.launches
maker_runs g k s attempt v i h m single =
    single.launched attempt m.row.stage i (passes_at (runs attempt) (item_at s.tasks m.row.stage i) m.task m.there (ap (passes (is_number attempt)) m.running ∙ m.number))

pub made_step : (g : TaskGraph) (k : Settings) (s : State) (e : Event) → AreSingle s.tasks s.launches → AreMade s → AreMade (after g k s e)
made_step g k s e single kept v i h held =
    let up : s.launches ≤ (after g k s e).launches = launches_up g k s e in
    elim (held_was g k s e v i h held) as (λ w. h.attempt < (after g k s e).launches) [
      | stayed was none ↦ let less : h.attempt < s.launches = kept v i h was in omega (arith, less, up)
      | commits attempt is m ↦
          let less : attempt < s.launches = maker_runs g k s attempt v i h m single in
          let same : h.attempt ≡ attempt = ap (λ x. x.attempt) m.is ∙ home_attempt k s.incs attempt i m.row.home m.own in
          omega (arith, less, up, same)
    ]

---- present

-- an event that doesn't evict the slot keeps its incarnation
incs_stay : (g : TaskGraph) (k : Settings) (s : State) (e : Event) (v i : ℕ) (h : HeldBy) (n inc : ℕ) → takes e v i h ≡ false → h.slot ≡ Some n → slice_get s.incs n ≡ Some inc → slice_get (after g k s e).incs n ≡ Some inc
incs_stay g k s (Launch attempt task slot reads) v i h n inc none on_it is = is
incs_stay g k s (Commit attempt) v i h n inc none on_it is = is
incs_stay g k s (Repeat attempt) v i h n inc none on_it is = is
incs_stay g k s (GiveBack attempt) v i h n inc none on_it is = is
incs_stay g k s (Evict slot) v i h n inc none on_it is =
    let other : (n == slot) ≡ false = ap (passes (λ m. m == slot)) (sym on_it) ∙ none in
    get_map_at (λ place m. if place == slot then m + 1 else m) s.incs n
    ∙ ap (on (λ m. if n == slot then m + 1 else m)) is
    ∙ ap (λ b. Some (if b then inc + 1 else inc)) other
incs_stay g k s (Repartition vertex cuts) v i h n inc none on_it is = is
incs_stay g k s (Ignored vertex cuts) v i h n inc none on_it is = is
incs_stay g k s (Decide vertex cuts) v i h n inc none on_it is = is
incs_stay g k s (Fault attempt vertex kind rec) v i h n inc none on_it is = is
incs_stay g k s (Spent task) v i h n inc none on_it is = is
incs_stay g k s Starved v i h n inc none on_it is = is
incs_stay g k s (Drop block) v i h n inc none on_it is = is
incs_stay g k s Finish v i h n inc none on_it is = is

reserved_less : (i r : ℕ) → 1 ≤ r → i % max 1 r < r
reserved_less i r some = let same : max 1 r ≡ r = omega (arith, some) in let less : i % r < r = omega (arith, some) in subst (λ m. i % m < r) (sym same) less

home_present : (k : Settings) (incs : List ℕ) (attempt i : ℕ) (home : Home) (a : Attempt) (h : HeldBy) (n : ℕ) → AreInRange k → ((m : ℕ) → m < k.reserved → slice_get incs m ≡ Some 0) → a.slot < length incs
    → h ≡ home_of k incs attempt i home a → h.slot ≡ Some n → slice_get incs n ≡ Some h.inc
home_present k incs attempt i Master a h n range first less is on_it = let clash : None ≡ Some n = sym (ap (λ x. x.slot) is) ∙ on_it in cc
home_present k incs attempt i Pushed a h n range first less is on_it =
    let same : i % max 1 k.reserved ≡ n = same_item (i % max 1 k.reserved) n (sym (ap (λ x. x.slot) is) ∙ on_it) in
    ap (slice_get incs) (sym same) ∙ first (i % max 1 k.reserved) (reserved_less i k.reserved range.reserved) ∙ ap (λ x. Some x.inc) (sym is)
home_present k incs attempt i Local a h n range first less is on_it =
    let same : a.slot ≡ n = same_item a.slot n (sym (ap (λ x. x.slot) is) ∙ on_it) in
    ap (slice_get incs) (sym same) ∙ slice_get-get_or incs a.slot 0 less ∙ ap (λ x. Some x.inc) (sym is)

pub present_step : (g : TaskGraph) (k : Settings) (s : State) (e : Event) → AreInRange k → AreFirst k s → ArePlaced g k s → ArePresent s → ArePresent (after g k s e)
present_step g k s e range first placed kept v i h n held on_it =
    elim (held_was g k s e v i h held) as (λ w. slice_get (after g k s e).incs n ≡ Some h.inc) [
      | stayed was none ↦ incs_stay g k s e v i h n h.inc none on_it (kept v i h n was on_it)
      | commits attempt is m ↦
          ap (λ x. slice_get (after g k s x).incs n) is
          ∙ home_present k s.incs attempt i m.row.home m.own h n range first (placed m.row.stage i m.task m.own m.there m.running).slot m.is on_it
    ]

---- home

home_lies : (k : Settings) (incs : List ℕ) (attempt i : ℕ) (class : Class) (home : Home) (a : Attempt) → AreInRange k → fits k a.slot class ≡ true → may_lie k class home (home_of k incs attempt i home a).slot ≡ true
home_lies k incs attempt i class Master a range fit = refl
home_lies k incs attempt i class Pushed a range fit = lt-ltb (i % max 1 k.reserved) k.reserved (reserved_less i k.reserved range.reserved)
home_lies k incs attempt i class Local a range fit = fit

-- a stage that is there makes the blocks of the vertex
pub record IsStaged (o : Option StageRow) (v : ℕ) : Type 0 where
  pub stage : StageRow
  pub there : o ≡ Some stage
  pub within : is_in v stage.blocks ≡ true

pub staged : (o : Option StageRow) (v : ℕ) → is_in v (made_by o) ≡ true → IsStaged o v
staged (Some stage) v h = record { stage = stage; there = refl; within = h }
staged None v h = cc

home_made : (g : TaskGraph) (k : Settings) (s : State) (attempt v i : ℕ) (h : HeldBy) → AreInRange k → HasTables g k s → ArePlaced g k s → IsMade g k s attempt v i h → IsHome g k v i h
home_made g k s attempt v i h range tables placed m =
    let b = block_there g k s v i m.row None tables m.named m.gone in
    let t = staged (slice_get g.stages m.row.stage) v b.0 in
    let p = passing (λ row. fits k m.own.slot row.class) (slice_get g.stages m.row.stage) (placed m.row.stage i m.task m.own m.there m.running).class in
    let same : p.item ≡ t.stage = same_item p.item t.stage (sym p.there ∙ t.there) in
    record {
      vertex = m.row;
      named = m.named;
      stage = t.stage;
      made_by = t.there;
      has = t.within;
      below = b.1;
      lies = ap (λ x. may_lie k t.stage.class m.row.home x.slot) m.is
          ∙ home_lies k s.incs attempt i t.stage.class m.row.home m.own range (ap (λ x. fits k m.own.slot x.class) (sym same) ∙ p.ok);
    }

pub home_step : (g : TaskGraph) (k : Settings) (s : State) (e : Event) → AreInRange k → HasTables g k s → ArePlaced g k s → AreHome g k s → AreHome g k (after g k s e)
home_step g k s e range tables placed kept v i h held =
    elim (held_was g k s e v i h held) as (λ w. IsHome g k v i h) [
      | stayed was none ↦ kept v i h was
      | commits attempt is m ↦ home_made g k s attempt v i h range tables placed m
    ]
