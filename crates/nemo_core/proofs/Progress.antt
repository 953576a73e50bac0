-- A run that goes on, and where no attempt runs, is never stuck.
use Rattle.std.proofs.Common.{arith, ◌≡◌, ◌∙◌, ap, sym, refl, ℕ, zero, suc, ◌+◌, ◌<◌, ◌≤◌, List, [], ◌∷◌, map, length, slice_get, Bool, true, false, Some, ⊎_elim}
use Rattle.std.specs.Prelude.{◌&&◌, ◌==◌, not, is_some, nat_le, nat_lt, slice_index_or, if◌then◌else◌}
use Rattle.std.specs.List.{list_all}
use Rattle.std.proofs.lemmas.Bool.{eq-eqb, and_from, and_parts, cases_Bool, eqb-false, eqb-true, le-leb, lt-ltb, ltb-false, not-false, not-true, or_left}
use Rattle.std.proofs.lemmas.Option.{slice_get-get_or}
use Rattle.nemo_base.specs.Cuts.{even_cuts}
use Rattle.nemo_base.specs.Needed.{is_master, is_read_by, is_sink, needed}
use Rattle.nemo_base.specs.Places.{any_at, item_at, passes, row_at}
use Rattle.nemo_base.specs.Settings.{AreInRange}
use Rattle.nemo_base.specs.Sound.{is_sound, reads_all}
use Rattle.nemo_base.specs.declared.annotation.Class.{Class}
use Rattle.nemo_base.specs.declared.annotation.Class.TheVariants.{Reserved, Transient}
use Rattle.nemo_base.specs.declared.graph.StageRow.{StageRow}
use Rattle.nemo_base.specs.declared.graph.TaskGraph.{TaskGraph}
use Rattle.nemo_base.specs.declared.graph.VertexRow.{VertexRow}
use Rattle.nemo_base.specs.declared.settings.Settings.{Settings}
use Rattle.nemo_base.proofs.Finding.{all_each, all_found, find, find_at, find_failing, passes_at, passing, same_item}
use Rattle.nemo_base.proofs.NeededTasks.{need_block}
use Rattle.nemo_base.proofs.SoundGraphs.{vertex_sound}
use Rattle.nemo_core.specs.Kept.{HasTables}
use Rattle.nemo_core.specs.Laws.{GoesOn, NoneRuns, ProgressLaw, decides, finishes, launches, spends}
use Rattle.nemo_core.specs.State.{State, all_held, fresh_task, flat, held_in, is_gone, read_held, reads_by, reads_held, reads_of, task_at}
use Rattle.nemo_core.specs.Step.{all_decided, conditions, cuts_fit, fits, is_decided, is_going, is_idle, is_open, is_skewed, lacks_sink, vertex_held}
use Rattle.nemo_core.specs.declared.event.Event.TheVariants.{Decide, Finish, Spent}
use Rattle.nemo_core.specs.declared.event.Outcome.TheVariants.{Going}
use Rattle.nemo_core.specs.declared.row.TaskRow.{TaskRow}
use Rattle.nemo_core.proofs.Allowed.{none_fails}
use Rattle.nemo_core.proofs.Cells.{row_is}
use Rattle.nemo_core.proofs.Keeping.{states}
use Rattle.nemo_core.proofs.KeptBlocks.{staged}
use Rattle.nemo_core.proofs.KeptTables.{block_there, even_fit}
use Rattle.nemo_core.proofs.Launchable.{launch_iff}
use Rattle.nemo_core.proofs.Missing.{lower_needed}

-- the run goes on and waits for nothing
record Waits (g : TaskGraph) (k : Settings) (s : State) : Type 0 where
  sound : is_sound g ≡ true
  range : AreInRange k
  tables : HasTables g k s
  going : s.outcome ≡ Going
  rest : NoneRuns s

---- a task that is there

stage_length : (tasks : List (List TaskRow)) (stages : List StageRow) (n : ℕ) (row : StageRow) → map length tasks ≡ map (λ r. r.parallelism) stages → slice_get stages n ≡ Some row → length (row_at tasks n) ≡ row.parallelism
stage_length tasks [] n row e there = cc
stage_length [] (r ∷ rows) n row e there = cc
stage_length (t ∷ tasks) (r ∷ rows) zero row e there = let long : length t ≡ r.parallelism = cc in long ∙ ap (λ x. x.parallelism) (same_item r row there)
stage_length (t ∷ tasks) (r ∷ rows) (suc n) row e there = let later : map length tasks ≡ map (λ r. r.parallelism) rows = cc in stage_length tasks rows n row later there

pub record IsTask (s : State) (stage i : ℕ) : Type 0 where
  pub row : TaskRow
  pub there : item_at s.tasks stage i ≡ Some row

pub task_there : (g : TaskGraph) (k : Settings) (s : State) (stage i : ℕ) (row : StageRow) → HasTables g k s → slice_get g.stages stage ≡ Some row → i < row.parallelism → IsTask s stage i
task_there g k s stage i row tables there less =
    let long : length (row_at s.tasks stage) ≡ row.parallelism = stage_length s.tasks g.stages stage row tables.tasks there in
    record { row = slice_index_or (row_at s.tasks stage) i fresh_task; there = slice_get-get_or (row_at s.tasks stage) i fresh_task (omega (arith, long, less)) }

---- a slot that fits

pub record IsSlot (k : Settings) (class : Class) : Type 0 where
  pub slot : ℕ
  pub there : slot < k.reserved + k.transient
  pub fit : fits k slot class ≡ true

pub slot_for : (k : Settings) (class : Class) → AreInRange k → IsSlot k class
slot_for k Reserved range =
    let some : 1 ≤ k.reserved = range.reserved in
    record { slot = 0; there = omega (arith, some); fit = lt-ltb 0 k.reserved (omega (arith, some)) }
slot_for k Transient range = go (k.transient == 0) refl
  where
    some : 1 ≤ k.reserved
    some = range.reserved

    go : (b : Bool) → (k.transient == 0) ≡ b → IsSlot k Transient
    go true e = record {
      slot = 0;
      there = omega (arith, some);
      fit = ap (λ b. if b then nat_lt 0 k.reserved else nat_le k.reserved 0) e ∙ lt-ltb 0 k.reserved (omega (arith, some));
    }
    go false e =
        let others : k.transient ≡ 0 → ⊥ = eqb-false k.transient 0 e in
        record {
          slot = k.reserved;
          there = omega (arith, others);
          fit = ap (λ b. if b then nat_lt k.reserved k.reserved else nat_le k.reserved k.reserved) e ∙ le-leb k.reserved k.reserved (omega arith);
        }

---- a task with all its reads

triggers_held : (g : TaskGraph) (s : State) (stage : ℕ) (row : StageRow) (i v : ℕ) (vertex : VertexRow) → is_sound g ≡ true → slice_get g.stages stage ≡ Some row → reads_held g s (record { stage = stage; index = i }) ≡ true
    → slice_get g.vertices v ≡ Some vertex → vertex.stage ≡ stage → list_all (vertex_held s) vertex.triggers ≡ true
triggers_held g s stage row i v vertex sound there held named lies =
    let f = vertex_sound g v vertex sound named in
    let same : f.stage ≡ row = same_item f.stage row (sym f.made_by ∙ ap (slice_get g.stages) lies ∙ there) in
    let own : reads_of g stage ≡ row.reads = ap reads_by there in
    let all : list_all (read_held s.blocks i) row.reads ≡ true = ap (list_all (read_held s.blocks i)) (sym own) ∙ held in
    all_each (vertex_held s) vertex.triggers (λ p t at.
    let reads : reads_all row t ≡ true = ap (λ x. reads_all x t) (sym same) ∙ all_found (reads_all f.stage) vertex.triggers p t f.triggers at in
    let r = find (λ r. r.wide && (r.vertex == t)) row.reads reads in
    let b = and_parts r.item.wide (r.item.vertex == t) r.ok in
    let whole : read_held s.blocks i r.item ≡ true = all_found (read_held s.blocks i) row.reads r.place r.item all r.there in
    ap (λ n. all_held (row_at s.blocks n)) (sym (eqb-true r.item.vertex t b.1))
    ∙ ap (λ x. all_held (if x then row_at s.blocks r.item.vertex else held_in s.blocks r.item.vertex i ∷ [])) (sym b.0)
    ∙ whole)

decided_goes : (g : TaskGraph) (k : Settings) (s : State) (stage : ℕ) (row : StageRow) (i : ℕ) → Waits g k s → slice_get g.stages stage ≡ Some row → reads_held g s (record { stage = stage; index = i }) ≡ true
    → all_decided g s stage ≡ false → GoesOn g k s
decided_goes g k s stage row i w there held undecided =
    let f = find_at (is_open s.cuts stage) g.vertices (not-false (any_at (is_open s.cuts stage) 0 g.vertices) undecided) in
    let a = and_parts ((f.item.stage == stage) && is_skewed f.item) (not (is_decided s.cuts f.place)) f.ok in
    let b = and_parts (f.item.stage == stage) (is_skewed f.item) a.0 in
    let triggers = triggers_held g s stage row i f.place f.item w.sound there held f.there (eqb-true f.item.stage stage b.0) in
    decides f.place f.item f.there (eq-eqb (suc (length (even_cuts f.item.parallelism))) f.item.parallelism (even_fit g f.place f.item w.sound f.there)) (λ cuts fit.
    none_fails (conditions g k s (Decide f.place cuts)) (
      ap is_going w.going,
      (
        ap is_some f.there,
        (
          passes_at is_skewed (slice_get g.vertices f.place) f.item f.there b.1,
          (
            a.1,
            (
              passes_at (λ row. list_all (vertex_held s) row.triggers) (slice_get g.vertices f.place) f.item f.there triggers,
              (passes_at (cuts_fit cuts) (slice_get g.vertices f.place) f.item f.there fit, tt),
            ),
          ),
        ),
      ),
    ))

-- a needed task that is idle and has its reads may be launched, or a vertex of its stage decided, or the run ends
ready_goes : (g : TaskGraph) (k : Settings) (s : State) (stage : ℕ) (row : StageRow) (i : ℕ) → Waits g k s → slice_get g.stages stage ≡ Some row → i < row.parallelism
    → needed g (is_gone s) stage i ≡ true → reads_held g s (record { stage = stage; index = i }) ≡ true → GoesOn g k s
ready_goes g k s stage row i w there less needs held = ⊎_elim
    (λ left. ⊎_elim (launch left) (decided_goes g k s stage row i w there held) (cases_Bool (all_decided g s stage)))
    spend
    (cases_Bool (nat_lt own.row.losses k.loss_bound))
  where
    own : IsTask s stage i
    own = task_there g k s stage i row w.tables there less

    idle : passes is_idle (task_at s (record { stage = stage; index = i })) ≡ true
    idle = passes_at is_idle (item_at s.tasks stage i) own.row own.there (w.rest stage i own.row own.there)

    slot : IsSlot k row.class
    slot = slot_for k row.class w.range

    launch : nat_lt own.row.losses k.loss_bound ≡ true → all_decided g s stage ≡ true → GoesOn g k s
    launch left decided =
        let within : slot.slot < k.reserved + k.transient = slot.there in
        let long : length s.incs ≡ k.reserved + k.transient = w.tables.slots in
        launches (record { stage = stage; index = i }) slot.slot ((launch_iff g k s (record { stage = stage; index = i }) slot.slot).1 (record {
          going = w.going;
          ready = and_from _ _ (and_from _ _ (and_from _ _ (and_from _ _ (and_from _ _ (ap is_some own.there) needs) idle) held)
              (passes_at (λ row. nat_lt row.losses k.loss_bound) (item_at s.tasks stage i) own.row own.there left)) decided;
          there = omega (arith, within, long);
          class = passes_at (λ row. fits k slot.slot row.class) (slice_get g.stages stage) row there slot.fit;
        }))

    spend : nat_lt own.row.losses k.loss_bound ≡ false → GoesOn g k s
    spend full =
        spends (record { stage = stage; index = i }) (none_fails (conditions g k s (Spent (record { stage = stage; index = i }))) (
          ap is_going w.going,
          (
            ap is_some own.there,
            (
              needs,
              (
                idle,
                (passes_at (λ row. nat_le k.loss_bound row.losses) (item_at s.tasks stage i) own.row own.there (le-leb k.loss_bound own.row.losses (ltb-false own.row.losses k.loss_bound full)), tt),
              ),
            ),
          ),
        ))

---- any needed task

needed_goes : (g : TaskGraph) (k : Settings) (s : State) → Waits g k s → (ranks stage : ℕ) (row : StageRow) (i : ℕ) → slice_get g.stages stage ≡ Some row → row.rank < ranks → i < row.parallelism
    → needed g (is_gone s) stage i ≡ true → GoesOn g k s
needed_goes g k s w zero stage row i there low less needs = absurd (omega (arith, low))
needed_goes g k s w (suc ranks) stage row i there low less needs = ⊎_elim
    (λ held. ready_goes g k s stage row i w there less needs held)
    (λ lacks. let l = lower_needed g k s stage row i w.sound w.tables there less needs lacks in
    let down : l.lower.rank < row.rank = l.rank in
    needed_goes g k s w ranks l.stage l.lower l.place l.there (omega (arith, low, down)) l.within l.needs)
    (cases_Bool (reads_held g s (record { stage = stage; index = i })))

---- the law

-- a sink block that is gone needs its task
sink_goes : (g : TaskGraph) (k : Settings) (s : State) → Waits g k s → any_at (lacks_sink g) 0 s.blocks ≡ true → GoesOn g k s
sink_goes g k s w lacks =
    let f = find_at (lacks_sink g) s.blocks lacks in
    let b = and_parts (is_sink g f.place) (not (all_held f.item)) f.ok in
    let v = passing (λ row. is_master row.home) (slice_get g.vertices f.place) b.0 in
    let p = find_failing is_some f.item (not-true (all_held f.item) b.1) in
    let there : item_at s.blocks f.place p.place ≡ Some p.item = ap (λ r. slice_get r p.place) (row_is s.blocks f.place f.item f.there) ∙ p.there in
    let gone : is_gone s f.place p.place ≡ true = ap (λ o. not (is_some (flat o))) there ∙ p.ok in
    let block = block_there g k s f.place p.place v.item p.item w.tables v.there there in
    let t = staged (slice_get g.stages v.item.stage) f.place block.0 in
    let m = vertex_sound g f.place v.item w.sound v.there in
    let same : m.stage.parallelism ≡ t.stage.parallelism = ap (λ x. x.parallelism) (same_item m.stage t.stage (sym m.made_by ∙ t.there)) in
    let equal : v.item.parallelism ≡ m.stage.parallelism = m.parallelism in
    let low : p.place < v.item.parallelism = block.1 in
    needed_goes g k s w (suc t.stage.rank) v.item.stage t.stage p.place t.there (omega arith) (omega (arith, same, equal, low))
    (need_block g (is_gone s) v.item.stage t.stage f.place p.place w.sound t.there t.within gone (or_left (is_sink g f.place) (is_read_by g (needed g (is_gone s)) f.place p.place) b.0))

pub progress : ProgressLaw
progress g k log s sound range has going rest = ⊎_elim
    (sink_goes g k s w)
    (λ none. finishes (none_fails (conditions g k s Finish) (ap is_going going, (ap not none, tt))))
    (cases_Bool (any_at (lacks_sink g) 0 s.blocks))
  where
    w : Waits g k s
    w = record { sound = sound; range = range; tables = (states g k log s has).tables; going = going; rest = rest }
