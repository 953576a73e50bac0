-- A run on one thread is legal.
use Rattle.std.proofs.Common.{arith, ◌≡◌, ◌∙◌, ap, sym, subst, refl, ℕ, zero, suc, ◌+◌, ◌-◌, ◌<◌, ◌≤◌, ◌==◌, List, [], ◌∷◌, ◌++◌, length, replicate, slice_get, Bool, true, false, filter, Option, Some, None, inl, inr}
use Rattle.std.specs.Prelude.{◌&&◌, is_none, is_some, not, if◌then◌else◌}
use Rattle.std.specs.List.{flat_map, list_all, list_any}
use Rattle.std.proofs.lemmas.Bool.{and_parts, cond_both, eq-eqb, eqb-true, lt-ltb}
use Rattle.std.proofs.lemmas.List.{length-append, length-replicate, length-take-le}
use Rattle.std.proofs.lemmas.Option.{slice_get_within}
use Rattle.nemo_base.specs.LeastCuts.{IsLeastCuts, ends}
use Rattle.nemo_base.specs.Places.{first_at, item_at, or_else, passes, row_at}
use Rattle.nemo_base.specs.Samples.{counts_of, sampled}
use Rattle.nemo_base.specs.Script.{IsScript}
use Rattle.nemo_base.specs.Settings.{SettingsForm}
use Rattle.nemo_base.specs.declared.graph.StageRow.{StageRow}
use Rattle.nemo_base.specs.declared.graph.TaskGraph.{TaskGraph}
use Rattle.nemo_base.specs.declared.graph.VertexRow.{VertexRow}
use Rattle.nemo_base.specs.declared.id.TaskId.{TaskId}
use Rattle.nemo_base.specs.declared.script.Action.{Action}
use Rattle.nemo_base.specs.declared.script.Action.TheVariants.{Evict as EvictLine, Repartition as RepartitionLine}
use Rattle.nemo_base.specs.declared.script.ScriptLine.{ScriptLine}
use Rattle.nemo_base.proofs.Finding.{any_found, passing}
use Rattle.nemo_value.specs.Members.{In}
use Rattle.nemo_value.specs.declared.expr.Kind.{Kind}
use Rattle.nemo_value.proofs.MemberLists.{passes as members_pass}
use Rattle.nemo_transform.specs.Gives.{Row}
use Rattle.nemo_ir.proofs.Places.{got}
use Rattle.nemo_ir.specs.Along.{below, counted}
use Rattle.nemo_ir.specs.Flat.{IsFlat}
use Rattle.nemo_ir.specs.Valid.{Valid}
use Rattle.nemo_core.specs.Reading.{first_of}
use Rattle.nemo_core.specs.Run.{HasState, run_on}
use Rattle.nemo_core.specs.State.{State, held_in, holder, is_running, runs, start, task_at}
use Rattle.nemo_core.specs.Step.{after, conditions, cuts_fit, decided, is_decided, is_going, is_skewed, launched, refusal, vertex_held}
use Rattle.nemo_core.specs.declared.event.Event.{Event}
use Rattle.nemo_core.specs.declared.event.Event.TheVariants.{Launch, Commit, Repartition, Ignored, Decide, Fault, Spent}
use Rattle.nemo_core.specs.declared.row.CutsRow.{CutsRow}
use Rattle.nemo_core.specs.declared.row.TaskRow.{TaskRow}
use Rattle.nemo_core.proofs.Allowed.{are_met, none_fails}
use Rattle.nemo_core.proofs.Changed.{get_map_at, item_map_rows, on}
use Rattle.nemo_core.proofs.Keeping.{states}
use Rattle.nemo_plan.specs.Form.{PlanForm, graph}
use Rattle.nemo_laws.specs.Data.{Ran, given_by, gives_of, launched_as, ran_from, ran_of, state_of, task_gives, with_attempt}
use Rattle.nemo_laws.specs.Holds.{commit_hold, drops, event_of, finish_of, fired, least_spent, may_be_spent, may_decide}
use Rattle.nemo_laws.specs.Legal.{Faultless, FirstFault, IsHonest, Legal, LegalFrom, row_of, row_tasks, row_triggers, sample}
use Rattle.nemo_laws.specs.Solo.{AreDecisions, IsStart, IsTurn, LeastDecisions, SoloRun, begins, commits, faults, launch_of_turn, may_take_turn, next_task, spends, started, turn_slot, turns}
use Rattle.nemo_laws.proofs.Dropping.{none_is}
use Rattle.nemo_laws.proofs.Every.{Every, every_append}
use Rattle.nemo_laws.proofs.Holding.{begin_allowed, commit_allowed}
use Rattle.nemo_laws.proofs.Logs.{Allowed, legal_append, legal_state, ran_append, reaches_allowed, run_append}
use Rattle.nemo_laws.proofs.Parts.{every_drop, every_finish, every_fired}
use Rattle.nemo_laws.proofs.Recomputing.{recomputation}
use Rattle.nemo_plan.proofs.Wires.{graph_wired}

---- the first task with an answer

first_some : {Y : Type 0} (f : ℕ → Option Y) (ns : List ℕ) (y : Y) → first_of f ns ≡ Some y → (i : ℕ) × (f i ≡ Some y)
first_some f [] y e = cc
first_some {Y} f (i ∷ ns) y e = go (f i) refl (first_some f ns y)
  where
    go : (o : Option Y) → f i ≡ o → (first_of f ns ≡ Some y → (j : ℕ) × (f j ≡ Some y)) → (j : ℕ) × (f j ≡ Some y)
    go (Some z) is later = (i, is ∙ sym (ap (λ o. or_else o (first_of f ns)) is) ∙ e)
    go None is later = later (sym (ap (λ o. or_else o (first_of f ns)) is) ∙ e)

pub task_some : {Y : Type 0} (f : ℕ → ℕ → Option Y) (n : ℕ) (rows : List StageRow) (y : Y) → first_at (λ stage row. first_of (f stage) (below row.parallelism)) n rows ≡ Some y → (stage i : ℕ) × (f stage i ≡ Some y)
task_some f n [] y e = cc
task_some {Y} f n (row ∷ rows) y e = go (first_of (f n) (below row.parallelism)) refl (task_some f (n + 1) rows y)
  where
    rest : Option Y
    rest = first_at (λ stage row. first_of (f stage) (below row.parallelism)) (n + 1) rows

    go : (o : Option Y) → first_of (f n) (below row.parallelism) ≡ o → (rest ≡ Some y → (stage i : ℕ) × (f stage i ≡ Some y)) → (stage i : ℕ) × (f stage i ≡ Some y)
    go (Some z) is later = let w = first_some (f n) (below row.parallelism) y (is ∙ sym (ap (λ o. or_else o rest) is) ∙ e) in (n, w.0, w.1)
    go None is later = later (sym (ap (λ o. or_else o rest) is) ∙ e)

-- a task that is named passed its test
named_passes : (test : TaskId → Bool) (s t : TaskId) (b : Bool) → test s ≡ b → (if b then Some s else None) ≡ Some t → test t ≡ true
named_passes test s t true is e = let same : s ≡ t = cc in ap test (sym same) ∙ is
named_passes test s t false is e = cc

pub spent_allowed : (g : TaskGraph) (k : SettingsForm) (s : State) (t : TaskId) → least_spent g k s ≡ Some t → refusal g k s (Spent t) ≡ None
spent_allowed g k s t e =
    let w = task_some (may_be_spent g k s) 0 g.stages t e in
    none_is (refusal g k s (Spent t)) (named_passes (λ u. is_none (refusal g k s (Spent u))) (record { stage = w.0; index = w.1 }) t (is_none (refusal g k s (Spent (record { stage = w.0; index = w.1 })))) refl w.2)

pub turn_allowed : (g : TaskGraph) (k : SettingsForm) (s : State) (t : TaskId) → next_task g k s ≡ Some t → refusal g k s (launch_of_turn g k s t) ≡ None
turn_allowed g k s t e =
    let w = task_some (may_take_turn g k s) 0 g.stages t e in
    none_is (refusal g k s (launch_of_turn g k s t))
    (named_passes (λ u. is_none (refusal g k s (launch_of_turn g k s u))) (record { stage = w.0; index = w.1 }) t (is_none (refusal g k s (launch_of_turn g k s (record { stage = w.0; index = w.1 })))) refl w.2)

---- events that say nothing of data

abbrev SaysNothing : PlanForm → SettingsForm → Event → Type 0
SaysNothing p k e = (s : State) (ran : List Ran) → IsHonest p k s ran e

legal_quiet : (p : PlanForm) (k : SettingsForm) (es : List Event) (s : State) (ran : List Ran) → Allowed (graph p) k s es → Every (SaysNothing p k) es → LegalFrom p k s ran es
legal_quiet p k [] s ran a h = tt
legal_quiet p k (e ∷ es) s ran a h = (a.0, h.0 s ran, legal_quiet p k es (after (graph p) k s e) (with_attempt p s ran e) a.1 h.1)

quiet_line : (p : PlanForm) (k : SettingsForm) (s : State) (a : Action) → SaysNothing p k (event_of (graph p) k s a)
quiet_line p k s (EvictLine slot) = λ t ran. tt
quiet_line p k s (RepartitionLine v cuts) = cond_both (is_none (refusal (graph p) k s (Repartition v cuts))) (Repartition v cuts) (Ignored v cuts) (SaysNothing p k) (λ h t ran. tt) (λ h t ran. tt)

quiet_end : (p : PlanForm) (k : SettingsForm) (script : List ScriptLine) (s : State) (a : ℕ) → (es : List Event) × (commit_hold (graph p) k script s a ≡ Commit a ∷ es) × Every (SaysNothing p k) es
quiet_end p k script s a =
    let g = graph p in
    let t = after g k s (Commit a) in
    let lines = fired g k t.commits script t in
    let u = run_on g k t lines in (
      lines ++ (drops g k u ++ finish_of g k (run_on g k u (drops g k u))),
      refl,
      every_append (SaysNothing p k) lines (drops g k u ++ finish_of g k (run_on g k u (drops g k u))) (every_fired (SaysNothing p k) g k t.commits script t (quiet_line p k))
          (every_append (SaysNothing p k) (drops g k u) (finish_of g k (run_on g k u (drops g k u))) (every_drop (SaysNothing p k) g k u (λ b s ran. tt)) (every_finish (SaysNothing p k) g k (run_on g k u (drops g k u)) (λ s ran. tt))),
    )

---- decisions

-- numbers that rise from this one on
abbrev Rises : ℕ → List ℕ → Type 0
Rises k [] = Unit {0}
Rises k (v ∷ vs) = (k ≤ v) × Rises (suc v) vs

rises_more : (k m : ℕ) (vs : List ℕ) → m ≤ k → Rises k vs → Rises m vs
rises_more k m [] l h = tt
rises_more k m (v ∷ vs) l h = (let low = h.0 in omega (arith, low, l), h.1)

filter_rises : (test : ℕ → Bool) (k n : ℕ) → Rises k (filter test (counted k n))
filter_rises test k zero = tt
filter_rises test k (suc n) =
    let rest = filter_rises test (suc k) n in
    cond_both (test k) (k ∷ filter test (counted (suc k) n)) (filter test (counted (suc k) n)) (Rises k) (λ h. (omega arith, rest)) (λ h. rises_more (suc k) k (filter test (counted (suc k) n)) (omega arith) rest)

rises_past : (k v : ℕ) (vs : List ℕ) → Rises k vs → In v vs → k ≤ v
rises_past k v [] h m = absurd m
rises_past k v (w ∷ ws) h (inl e) = let low = h.0 in omega (arith, low, e)
rises_past k v (w ∷ ws) h (inr m) = let low = h.0 in let later = rises_past (suc w) v ws h.1 m in omega (arith, low, later)

-- a decision leaves that of a later vertex as it was
other_row : (w : ℕ) (cuts : List ℕ) (v : ℕ) → w < v → (o : Option CutsRow) → on (decided w cuts v) o ≡ o
other_row w cuts v l None = refl
other_row w cuts v l (Some row) = go (v == w) refl
  where
    go : (b : Bool) → (v == w) ≡ b → Some (decided w cuts v row) ≡ Some row
    go true e = absurd (let same = eqb-true v w e in omega (arith, l, same))
    go false e = ap (λ b. Some (if b then record { cuts = cuts; decided = true } else row)) e

may_stay : (g : TaskGraph) (k : SettingsForm) (s : State) (w : ℕ) (cuts : List ℕ) (v : ℕ) → w < v → may_decide g s v ≡ true → may_decide g (after g k s (Decide w cuts)) v ≡ true
may_stay g k s w cuts v l h =
    ap (λ d. is_going s.outcome && passes (λ row. is_skewed row && not d && list_all (vertex_held s) row.triggers) (slice_get g.vertices v))
    (ap (passes (λ row. row.decided)) (get_map_at (decided w cuts) s.cuts v ∙ other_row w cuts v l (slice_get s.cuts v)))
    ∙ h

decide_allowed : (g : TaskGraph) (k : SettingsForm) (s : State) (v : ℕ) (cuts : List ℕ) → may_decide g s v ≡ true → ((row : VertexRow) → slice_get g.vertices v ≡ Some row → cuts_fit cuts row ≡ true)
    → refusal g k s (Decide v cuts) ≡ None
decide_allowed g k s v cuts h fit =
    let two = and_parts (is_going s.outcome) (passes (λ row. is_skewed row && not (is_decided s.cuts v) && list_all (vertex_held s) row.triggers) (slice_get g.vertices v)) h in
    let p = passing (λ row. is_skewed row && not (is_decided s.cuts v) && list_all (vertex_held s) row.triggers) (slice_get g.vertices v) two.1 in
    let waits = and_parts (is_skewed p.item && not (is_decided s.cuts v)) (list_all (vertex_held s) p.item.triggers) p.ok in
    let skewed = and_parts (is_skewed p.item) (not (is_decided s.cuts v)) waits.0 in
    none_fails (conditions g k s (Decide v cuts)) (
      two.0,
      (
        ap is_some p.there,
        (
          ap (passes is_skewed) p.there ∙ skewed.0,
          (
            skewed.1,
            (
              ap (passes (λ row. list_all (vertex_held s) row.triggers)) p.there ∙ waits.1,
              (ap (passes (cuts_fit cuts)) p.there ∙ fit p.item p.there, tt),
            ),
          ),
        ),
      ),
    )

-- least cuts are as many as the tasks, less one
least_count : (counts : List ℕ) (n : ℕ) (cuts : List ℕ) → 1 ≤ n → IsLeastCuts counts n cuts → suc (length cuts) ≡ n
least_count counts n cuts some least =
    let padding : List ℕ = replicate (n - 1) 256 in
    let all : List ℕ = ends least.0 counts ++ padding in
    let long : length all ≡ length (ends least.0 counts) + length padding = length-append (ends least.0 counts) padding in
    let more : length padding ≡ n - 1 = length-replicate (n - 1) 256 in
    let is : length cuts ≡ n - 1 = ap length least.3 ∙ length-take-le (n - 1) all (omega (arith, long, more)) in
    omega (arith, is, some)

module _ (p : PlanForm) (k : SettingsForm) (s : State) (ran : List Ran) (some : (v : ℕ) (row : VertexRow) → slice_get (graph p).vertices v ≡ Some row → 1 ≤ row.parallelism) where
  fitting_cuts : (v : ℕ) (cuts counts : List ℕ) → IsLeastCuts counts (row_tasks (row_of p v)) cuts → (row : VertexRow) → slice_get (graph p).vertices v ≡ Some row → cuts_fit cuts row ≡ true
  fitting_cuts v cuts counts least row there =
      eq-eqb (suc (length cuts)) row.parallelism (least_count counts row.parallelism cuts (some v row there) (subst (λ o. IsLeastCuts counts (row_tasks o) cuts) there least))

  decisions_legal : (vs : List ℕ) (es : List Event) (t : State) (m : ℕ) → t.blocks ≡ s.blocks → Rises m vs → ((v : ℕ) → In v vs → may_decide (graph p) t v ≡ true) → LeastDecisions p k s ran vs es → LegalFrom p k t ran es
  decisions_legal [] es t m same rises may d = subst (LegalFrom p k t ran) (sym d) tt
  decisions_legal (v ∷ vs) es t m same rises may d =
      subst (LegalFrom p k t ran) (sym d.2) (
        decide_allowed (graph p) k t v d.0 (may v (inl refl)) (fitting_cuts v d.0 (counts_of (sample p k s ran v)) d.3),
        subst (λ l. IsLeastCuts (counts_of l) (row_tasks (row_of p v)) d.0) (sampled_alike v) d.3,
        decisions_legal vs d.1 (after (graph p) k t (Decide v d.0)) (suc v) same rises.1
            (λ w i. may_stay (graph p) k t v d.0 w (let past = rises_past (suc v) w vs rises.1 i in omega (arith, past)) (may w (inr i))) d.4,
      )
    where
      sampled_alike : (w : ℕ) → sample p k s ran w ≡ sample p k t ran w
      sampled_alike w =
          ap (λ blocks. flat_map (λ u. flat_map (λ j. sampled k.sample 0 (given_by ran (holder (held_in blocks u j)) u).rows) (below (row_tasks (row_of p u)))) (row_triggers (row_of p w))) (sym same)

  -- what decisions leave as it was
  pub record IsLeft (t : State) (es : List Event) : Type 0 where
    pub launches : (run_on (graph p) k t es).launches ≡ t.launches
    pub incs : (run_on (graph p) k t es).incs ≡ t.incs
    pub outcome : (run_on (graph p) k t es).outcome ≡ t.outcome
    pub ran_is : ran_from p k t ran es ≡ ran

  pub decisions_left : (vs : List ℕ) (es : List Event) (t : State) → LeastDecisions p k s ran vs es → IsLeft t es
  decisions_left [] es t d = subst (IsLeft t) (sym d) (record { launches = refl; incs = refl; outcome = refl; ran_is = refl })
  decisions_left (v ∷ vs) es t d =
      let rest = decisions_left vs d.1 (after (graph p) k t (Decide v d.0)) d.4 in
      subst (IsLeft t) (sym d.2) (record { launches = rest.launches; incs = rest.incs; outcome = rest.outcome; ran_is = rest.ran_is })

---- a launch and its end

pub row_of_item : (tasks : List (List TaskRow)) (stage i : ℕ) (row : TaskRow) → item_at tasks stage i ≡ Some row → slice_get tasks stage ≡ Some (row_at tasks stage)
row_of_item [] stage i row e = cc
row_of_item (r ∷ rs) zero i row e = refl
row_of_item (r ∷ rs) (suc stage) i row e = row_of_item rs stage i row e

pub there_is : {X : Type 0} (o : Option X) → is_some o ≡ true → (x : X) × (o ≡ Some x)
there_is (Some x) h = (x, refl)
there_is None h = cc

-- the launched attempt runs
launched_runs : (g : TaskGraph) (k : SettingsForm) (s : State) (a : ℕ) (t : TaskId) (slot : ℕ) (reads : List ℕ) → refusal g k s (Launch a t slot reads) ≡ None → is_running (after g k s (Launch a t slot reads)) a ≡ true
launched_runs g k s a t slot reads none =
    let row = there_is (task_at s t) (are_met (conditions g k s (Launch a t slot reads)) none).1.0 in
    let tasks = (after g k s (Launch a t slot reads)).tasks in
    let item : item_at tasks t.stage t.index ≡ Some (launched a t slot t.stage t.index row.0) = item_map_rows (launched a t slot) s.tasks t.stage t.index ∙ ap (on (launched a t slot t.stage t.index)) row.1 in
    any_found (list_any (runs a)) tasks t.stage (row_at tasks t.stage) (row_of_item tasks t.stage t.index (launched a t slot t.stage t.index row.0) item)
    (any_found (runs a) (row_at tasks t.stage) t.index (launched a t slot t.stage t.index row.0) item (mine row.0))
  where
    mine : (row : TaskRow) → runs a (launched a t slot t.stage t.index row) ≡ true
    mine row =
        ap (λ b. runs a (if b && (t.index == t.index) then record { running = Some (record { number = a; slot = slot }); losses = row.losses } else row)) (eq-eqb t.stage t.stage refl)
        ∙ ap (λ b. runs a (if b then record { running = Some (record { number = a; slot = slot }); losses = row.losses } else row)) (eq-eqb t.index t.index refl)
        ∙ eq-eqb a a refl

-- so it may commit, or have a fault
commit_may : (g : TaskGraph) (k : SettingsForm) (s : State) (t : TaskId) (slot : ℕ) (reads : List ℕ) → refusal g k s (Launch s.launches t slot reads) ≡ None
    → refusal g k (after g k s (Launch s.launches t slot reads)) (Commit s.launches) ≡ None
commit_may g k s t slot reads none =
    none_fails (conditions g k (after g k s (Launch s.launches t slot reads)) (Commit s.launches))
    ((are_met (conditions g k s (Launch s.launches t slot reads)) none).0, (lt-ltb s.launches (s.launches + 1) (omega arith), (launched_runs g k s s.launches t slot reads none, tt)))

fault_may : (g : TaskGraph) (k : SettingsForm) (s : State) (t : TaskId) (slot : ℕ) (reads : List ℕ) (x : ℕ) (kind : Kind) (rec : Row) → refusal g k s (Launch s.launches t slot reads) ≡ None
    → refusal g k (after g k s (Launch s.launches t slot reads)) (Fault s.launches x kind rec) ≡ None
fault_may g k s t slot reads x kind rec none =
    none_fails (conditions g k (after g k s (Launch s.launches t slot reads)) (Fault s.launches x kind rec))
    ((are_met (conditions g k s (Launch s.launches t slot reads)) none).0, (lt-ltb s.launches (s.launches + 1) (omega arith), (launched_runs g k s s.launches t slot reads none, tt)))

-- the last of some attempts
last_given : (ran : List Ran) (new : Ran) → slice_get (ran ++ new ∷ []) (length ran) ≡ Some new
last_given [] new = refl
last_given (r ∷ ran) new = last_given ran new

---- a turn

module _ (p : PlanForm) (k : SettingsForm) (script : List ScriptLine) (fine : IsFlat p.flat) (valid : Valid p.flat p.dag) (is : IsScript k script) where
  pub some_tasks : (log : List Event) → Legal p k log → (v : ℕ) (row : VertexRow) → slice_get (graph p).vertices v ≡ Some row → 1 ≤ row.parallelism
  some_tasks log legal v row there =
      let kept = states (graph p) k log (state_of (graph p) k log) (legal_state p k log legal) in
      let less = slice_get_within (graph p).vertices v row there in
      let long = kept.tables.cuts in
      let cuts = got (state_of (graph p) k log).cuts v (omega (arith, less, long)) in
      let same = kept.cuts (graph_wired p fine valid).sound v row cuts.0 there cuts.1 in
      omega (arith, same)

  pub decisions_allowed : (log : List Event) → Legal p k log → (ds : List Event) → AreDecisions p k (state_of (graph p) k log) (ran_of p k log) ds → LegalFrom p k (state_of (graph p) k log) (ran_of p k log) ds
  decisions_allowed log legal ds d =
      let g = graph p in
      let s = state_of g k log in
      decisions_legal p k s (ran_of p k log) (some_tasks log legal) (filter (may_decide g s) (below (length g.vertices))) ds s 0 refl (filter_rises (may_decide g s) 0 (length g.vertices)) (λ v m. members_pass (may_decide g s) v (below (length g.vertices)) m) d

  module _ (log : List Event) (legal : Legal p k log) where
    abbrev s : State
    s = state_of (graph p) k log

    abbrev ran : List Ran
    ran = ran_of p k log

    abbrev g : TaskGraph
    g = graph p

    launches_are : length ran ≡ s.launches
    launches_are = (recomputation.legal p k log fine valid legal).count

    record Starts (decisions : List Event) (t : TaskId) : Type 0 where
      allowed : LegalFrom p k s ran (started p k s decisions t)
      launches : (run_on g k s decisions).launches ≡ s.launches
      may : refusal g k (run_on g k s decisions) (launch_of_turn g k (run_on g k s decisions) t) ≡ None
      given : given_by (ran_from p k s ran (started p k s decisions t)) s.launches ≡ task_gives p ran (run_on g k s decisions) t

    starts : (decisions : List Event) (t : TaskId) → IsStart p k s ran decisions t → Starts decisions t
    starts decisions t h =
        let vs = filter (may_decide g s) (below (length g.vertices)) in
        let left = decisions_left p k s ran (some_tasks log legal) vs decisions s h.decided in
        let may = turn_allowed g k (run_on g k s decisions) t h.task in
        let launch = launch_of_turn g k (run_on g k s decisions) t in
        let attempt = launched_as p ran (run_on g k s decisions) t (turn_slot k (run_on g k s decisions) (slice_get g.stages t.stage)) in
        let all : ran_from p k s ran (started p k s decisions t) ≡ ran ++ attempt ∷ [] =
        ran_append p k decisions (launch ∷ []) s ran ∙ ap (λ l. with_attempt p (run_on g k s decisions) l launch) left.ran_is in
        record {
          allowed = legal_append p k decisions (launch ∷ []) s ran
              (decisions_legal p k s ran (some_tasks log legal) vs decisions s 0 refl (filter_rises (may_decide g s) 0 (length g.vertices)) (λ v m. members_pass (may_decide g s) v (below (length g.vertices)) m) h.decided)
              (may, tt, tt);
          launches = left.launches;
          may = may;
          given = ap (λ l. given_by l s.launches) all ∙ ap (λ n. gives_of (slice_get (ran ++ attempt ∷ []) n)) (sym launches_are) ∙ ap gives_of (last_given ran attempt);
        }

    ended_may : (decisions : List Event) (t : TaskId) (e : ℕ → Event)
        → ((u : State) (slot : ℕ) (reads : List ℕ) → refusal g k u (Launch u.launches t slot reads) ≡ None → refusal g k (after g k u (Launch u.launches t slot reads)) (e u.launches) ≡ None)
        → (h : IsStart p k s ran decisions t) → refusal g k (run_on g k s (started p k s decisions t)) (e s.launches) ≡ None
    ended_may decisions t e may h =
        let st = starts decisions t h in
        let u = run_on g k s decisions in
        ap (λ x. refusal g k x (e s.launches)) (run_append g k decisions (launch_of_turn g k u t ∷ []) s)
        ∙ ap (λ n. refusal g k (after g k u (launch_of_turn g k u t)) (e n)) (sym st.launches)
        ∙ may u (turn_slot k u (slice_get g.stages t.stage)) _ st.may

    pub turn_legal : (es : List Event) → IsTurn p k script s ran es → LegalFrom p k s ran es
    turn_legal _ (spends t least) = (spent_allowed g k s t least, tt, tt)
    turn_legal _ (commits decisions t h none) =
        let st = starts decisions t h in
        let u = run_on g k s (started p k s decisions t) in
        let more = ran_from p k s ran (started p k s decisions t) in
        let may = ended_may decisions t Commit (λ x slot reads. commit_may g k x t slot reads) h in
        let so_far : Legal p k (log ++ started p k s decisions t) = legal_append p k log (started p k s decisions t) (start g k) [] legal st.allowed in
        let allowed = commit_allowed g k script (log ++ started p k s decisions t) u s.launches (graph_wired p fine valid).sound is
        (subst (HasState g k (log ++ started p k s decisions t)) (run_append g k log (started p k s decisions t) (start g k)) (legal_state p k (log ++ started p k s decisions t) so_far)) may in
        legal_append p k (started p k s decisions t) (commit_hold g k script u s.launches) s ran st.allowed
        (ended u more (commit_hold g k script u s.launches) (quiet_end p k script u s.launches) allowed (subst (Faultless p) (sym st.given) none))
      where
        ended : (u : State) (more : List Ran) (es : List Event) → ((later : List Event) × (es ≡ Commit s.launches ∷ later) × Every (SaysNothing p k) later) → Allowed g k u es → Faultless p (given_by more s.launches) → LegalFrom p k u more es
        ended u more es q allowed honest =
            let a = subst (Allowed g k u) q.1 allowed in
            subst (LegalFrom p k u more) (sym q.1) (a.0, honest, legal_quiet p k q.0 (after g k u (Commit s.launches)) more a.1 q.2)
    turn_legal _ (faults decisions t x kind rec h first) =
        let st = starts decisions t h in
        legal_append p k (started p k s decisions t) (Fault s.launches x kind rec ∷ []) s ran st.allowed
        (ended_may decisions t (λ a. Fault a x kind rec) (λ u slot reads. fault_may g k u t slot reads x kind rec) h, subst (λ f. FirstFault p f (record { vertex = x; kind = kind; rec = rec })) (sym st.given) first, tt)

  -- each run on one thread is legal
  pub run_legal : (log : List Event) → SoloRun p k script log → Legal p k log
  run_legal _ begins = legal_quiet p k (fired (graph p) k 0 script (start (graph p) k)) (start (graph p) k) []
      (reaches_allowed (graph p) k (fired (graph p) k 0 script (start (graph p) k)) (start (graph p) k) (state_of (graph p) k (fired (graph p) k 0 script (start (graph p) k))) (begin_allowed (graph p) k script is))
      (every_fired (SaysNothing p k) (graph p) k 0 script (start (graph p) k) (quiet_line p k))
  run_legal _ (turns log es r turn) = let legal = run_legal log r in legal_append p k log es (start (graph p) k) [] legal (turn_legal log legal es turn)
