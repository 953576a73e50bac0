-- Each block of each sink of a run that is done is from one commit.
use Rattle.std.proofs.Common.{arith, ◌≡◌, ◌∙◌, ap, sym, subst, refl, ℕ, ◌<◌, ◌≤◌, zero, suc, Bool, true, false, List, [], ◌∷◌, ◌++◌, slice_get, Option, Some, None, ⊎_elim}
use Rattle.std.specs.Prelude.{◌==◌, ◌&&◌, ◌||◌, not, if◌then◌else◌}
use Rattle.std.specs.List.{list_any}
use Rattle.std.proofs.lemmas.Bool.{both_ways, eqb-true, ltb-true, not-true, or_cases}
use Rattle.std.proofs.lemmas.Option.{slice_get_within}
use Rattle.nemo_base.specs.Needed.{is_master, is_sink}
use Rattle.nemo_base.specs.Places.{any_at, item_at, passes, row_at}
use Rattle.nemo_base.specs.declared.graph.Home.{Home}
use Rattle.nemo_base.specs.declared.graph.Home.TheVariants.{Master, Pushed, Local}
use Rattle.nemo_base.specs.declared.graph.TaskGraph.{TaskGraph}
use Rattle.nemo_base.specs.declared.graph.VertexRow.{VertexRow}
use Rattle.nemo_base.specs.declared.id.TaskId.{TaskId}
use Rattle.nemo_base.specs.Settings.{SettingsForm}
use Rattle.nemo_base.proofs.Finding.{any_at_found, find, passes_at, passing}
use Rattle.nemo_transform.specs.declared.transform.Transform.{Transform}
use Rattle.nemo_transform.specs.declared.transform.Transform.TheVariants.{Source, Map, Filter, Emit, Words, Union, Reduce, Distinct, Join, SideJoin, Sink}
use Rattle.nemo_ir.specs.Flat.{is_sink as is_sink_of, sink_name}
use Rattle.nemo_ir.specs.declared.dag.IrVertex.{IrVertex}
use Rattle.nemo_ir.proofs.Places.{got}
use Rattle.nemo_core.specs.Kept.{HasTables}
use Rattle.nemo_core.specs.Run.{Reaches, run_on}
use Rattle.nemo_core.specs.State.{State, all_held, flat, has_blocks, held_at, is_running, runs, start}
use Rattle.nemo_core.specs.Step.{after, conditions, ended, home_of, idle, lacks_sink, refusal}
use Rattle.nemo_core.specs.Within.{runs_at}
use Rattle.nemo_core.specs.declared.event.Event.{Event}
use Rattle.nemo_core.specs.declared.event.Event.TheVariants.{Launch, Commit, Repeat, GiveBack, Evict, Repartition, Ignored, Decide, Fault, Spent, Starved, Drop, Finish}
use Rattle.nemo_core.specs.declared.event.HeldBy.{HeldBy}
use Rattle.nemo_core.specs.declared.row.TaskRow.{TaskRow}
use Rattle.nemo_core.proofs.Allowed.{are_met}
use Rattle.nemo_core.proofs.Blocks.{IsMade, commits, held_was, stayed}
use Rattle.nemo_core.proofs.Cells.{row_is}
use Rattle.nemo_core.proofs.Changed.{item_map, on}
use Rattle.nemo_core.proofs.KeptBlocks.{none_held}
use Rattle.nemo_core.proofs.KeptTables.{blocks_length, has_all}
use Rattle.nemo_core.proofs.Keeping.{kept_start, kept_along}
use Rattle.nemo_core.proofs.Launchable.{launch_only}
use Rattle.nemo_core.proofs.TaskRows.{goes_on, rests, starts, task_before}
use Rattle.nemo_plan.specs.Form.{PlanForm, graph}
use Rattle.nemo_plan.specs.Graph.{is_sink_vertex, vertex_transform}
use Rattle.nemo_plan.specs.Wiring.{IsWired}
use Rattle.nemo_laws.specs.Data.{Ran, state_of, with_attempt}
use Rattle.nemo_laws.specs.Legal.{Legal, LegalFrom}
use Rattle.nemo_laws.specs.Written.{FromCommits, IsFromCommit, StaysHeld, is_commit, sink_at}

---- logs

pub reached : (p : PlanForm) (k : SettingsForm) (s : State) (ran : List Ran) (log : List Event) → LegalFrom p k s ran log → Reaches (graph p) k s log (run_on (graph p) k s log)
reached p k s ran [] legal = refl
reached p k s ran (e ∷ es) legal = (legal.0, reached p k (after (graph p) k s e) (with_attempt p s ran e) es legal.2)

pub split : (g : TaskGraph) (k : SettingsForm) (s t : State) (xs ys : List Event) → Reaches g k s (xs ++ ys) t → Reaches g k s xs (run_on g k s xs) × Reaches g k (run_on g k s xs) ys t
split g k s t [] ys h = (refl, h)
split g k s t (x ∷ xs) ys h = let q = split g k (after g k s x) t xs ys h.1 in ((h.0, q.0), q.1)

---- an attempt that committed

-- the attempt was launched and runs no more
record IsOver (s : State) (a : ℕ) : Type 0 where
  launched : a < s.launches
  rests : (stage i : ℕ) → runs_at s.tasks a stage i ≡ true → ⊥

launches_grow : (g : TaskGraph) (k : SettingsForm) (s : State) (e : Event) → s.launches ≤ (after g k s e).launches
launches_grow g k s (Launch attempt task slot reads) = omega arith
launches_grow g k s (Commit attempt) = omega arith
launches_grow g k s (Repeat attempt) = omega arith
launches_grow g k s (GiveBack attempt) = omega arith
launches_grow g k s (Evict slot) = omega arith
launches_grow g k s (Repartition v cuts) = omega arith
launches_grow g k s (Ignored v cuts) = omega arith
launches_grow g k s (Decide v cuts) = omega arith
launches_grow g k s (Fault attempt v kind rec) = omega arith
launches_grow g k s (Spent task) = omega arith
launches_grow g k s Starved = omega arith
launches_grow g k s (Drop block) = omega arith
launches_grow g k s Finish = omega arith

-- a launch has another number
other_number : (g : TaskGraph) (k : SettingsForm) (s : State) (e : Event) (a attempt : ℕ) (t : TaskId) (slot : ℕ) (reads : List ℕ)
    → e ≡ Launch attempt t slot reads → refusal g k s e ≡ None → a < s.launches → attempt ≡ a → ⊥
other_number g k s e a attempt t slot reads is none less same =
    let number = (launch_only g k s attempt t slot reads (sym (ap (refusal g k s) is) ∙ none)).0.number in
    omega (arith, number, less, same)

over_step : (g : TaskGraph) (k : SettingsForm) (s : State) (e : Event) (a : ℕ) → refusal g k s e ≡ None → IsOver s a → IsOver (after g k s e) a
over_step g k s e a none over = record {
  launched = let grow = launches_grow g k s e in let less = over.launched in omega (arith, grow, less);
  rests = still;
}
  where
    still : (stage i : ℕ) → runs_at (after g k s e).tasks a stage i ≡ true → ⊥
    still stage i h =
        let p = passing (runs a) (item_at (after g k s e).tasks stage i) h in
        let b = task_before g k s e stage i p.item p.there in
        elim b.comes.running as (λ r. ⊥) [
          | rests none ↦ both_ways (runs a p.item) (ap (passes (λ x. x.number == a)) none) p.ok
          | goes_on kept ↦ over.rests stage i (passes_at (runs a) (item_at s.tasks stage i) b.row b.there (ap (passes (λ x. x.number == a)) (sym kept) ∙ p.ok))
          | starts new ↦ other_number g k s e a new.attempt new.task new.slot new.reads new.is none over.launched (eqb-true new.attempt a (sym (ap (passes (λ x. x.number == a)) new.runs) ∙ p.ok))
        ]

-- the allowed commit of an attempt
commit_met : (g : TaskGraph) (k : SettingsForm) (s : State) (a : ℕ) → refusal g k s (Commit a) ≡ None → (a < s.launches) × (is_running s a ≡ true)
commit_met g k s a none =
    let m = are_met (conditions g k s (Commit a)) none in
    (ltb-true a s.launches m.1.0, m.1.1.0)

never_idle : (a : ℕ) (row : TaskRow) → runs a (idle row) ≡ true → ⊥
never_idle a row h = cc

ended_rests : (a : ℕ) (row : TaskRow) (b : Bool) → runs a row ≡ b → runs a (if b then idle row else row) ≡ true → ⊥
ended_rests a row true e h = never_idle a row h
ended_rests a row false e h = both_ways (runs a row) e h

ended_item : (a : ℕ) (o : Option TaskRow) → passes (runs a) (on (ended a) o) ≡ true → ⊥
ended_item a None h = cc
ended_item a (Some row) h = ended_rests a row (runs a row) refl h

over_committed : (g : TaskGraph) (k : SettingsForm) (s : State) (a : ℕ) → refusal g k s (Commit a) ≡ None → IsOver (after g k s (Commit a)) a
over_committed g k s a none = record {
  launched = (commit_met g k s a none).0;
  rests = λ stage i h. ended_item a (item_at s.tasks stage i) (sym (ap (passes (runs a)) (item_map (ended a) s.tasks stage i)) ∙ h);
}

runs_somewhere : (s : State) (a : ℕ) → is_running s a ≡ true → IsOver s a → ⊥
runs_somewhere s a h over =
    let f = find (list_any (runs a)) s.tasks h in
    let q = find (runs a) f.item f.ok in
    over.rests f.place q.place (passes_at (runs a) (item_at s.tasks f.place q.place) q.item (ap (λ row. slice_get row q.place) (row_is s.tasks f.place f.item f.there) ∙ q.there) q.ok)

commits_this : (a : ℕ) (x : Event) → is_commit a x ≡ true → x ≡ Commit a
commits_this a (Commit b) same = ap Commit (eqb-true b a same)
commits_this a (Launch attempt task slot reads) same = cc
commits_this a (Repeat attempt) same = cc
commits_this a (GiveBack attempt) same = cc
commits_this a (Evict slot) same = cc
commits_this a (Repartition v cuts) same = cc
commits_this a (Ignored v cuts) same = cc
commits_this a (Decide v cuts) same = cc
commits_this a (Fault attempt v kind rec) same = cc
commits_this a (Spent task) same = cc
commits_this a Starved same = cc
commits_this a (Drop block) same = cc
commits_this a Finish same = cc

-- once it has committed it never does again
none_again : (g : TaskGraph) (k : SettingsForm) (s t : State) (es : List Event) (a : ℕ) → Reaches g k s es t → IsOver s a → list_any (is_commit a) es ≡ false
none_again g k s t [] a h over = refl
none_again g k s t (e ∷ es) a h over = go (is_commit a e) refl (none_again g k (after g k s e) t es a h.1 (over_step g k s e a h.0 over))
  where
    go : (b : Bool) → is_commit a e ≡ b → list_any (is_commit a) es ≡ false → list_any (is_commit a) (e ∷ es) ≡ false
    go true here later = absurd (runs_somewhere s a (commit_met g k s a (sym (ap (refusal g k s) (commits_this a e here)) ∙ h.0)).1 over)
    go false here later = ap (λ b. b || list_any (is_commit a) es) here ∙ later

over_along : (g : TaskGraph) (k : SettingsForm) (s t : State) (es : List Event) (a : ℕ) → Reaches g k s es t → IsOver s a → IsOver t a
over_along g k s t [] a h over = subst (λ x. IsOver x a) h over
over_along g k s t (e ∷ es) a h over = over_along g k (after g k s e) t es a h.1 (over_step g k s e a h.0 over)

over_once : (g : TaskGraph) (k : SettingsForm) (s t : State) (es : List Event) (a : ℕ) → Reaches g k s es t → list_any (is_commit a) es ≡ true → IsOver t a
over_once g k s t [] a h some = cc
over_once g k s t (e ∷ es) a h some = ⊎_elim
    (λ here. let is = commits_this a e here in
    over_along g k (after g k s e) t es a h.1 (subst (λ x. IsOver (after g k s x) a) (sym is) (over_committed g k s a (sym (ap (refusal g k s) is) ∙ h.0))))
    (λ later. over_once g k (after g k s e) t es a h.1 later)
    (or_cases (is_commit a e) (list_any (is_commit a) es) some)

-- an attempt that may commit didn't before
none_yet : (g : TaskGraph) (k : SettingsForm) (s t : State) (es : List Event) (a : ℕ) → Reaches g k s es t → refusal g k t (Commit a) ≡ None → list_any (is_commit a) es ≡ false
none_yet g k s t es a h none = go (list_any (is_commit a) es) refl
  where
    go : (b : Bool) → list_any (is_commit a) es ≡ b → list_any (is_commit a) es ≡ false
    go true some = absurd (runs_somewhere t a (commit_met g k t a none).1 (over_once g k s t es a h some))
    go false is = is

---- where a held block comes from

-- it is held so in this state and after each further event
abbrev Stays : TaskGraph → SettingsForm → HeldBy → ℕ → ℕ → State → List Event → Type 0
Stays g k h v i s [] = held_at s v i ≡ Some h
Stays g k h v i s (e ∷ es) = (held_at s v i ≡ Some h) × Stays g k h v i (after g k s e) es

stays_now : (g : TaskGraph) (k : SettingsForm) (h : HeldBy) (v i : ℕ) (s : State) (es : List Event) → Stays g k h v i s es → held_at s v i ≡ Some h
stays_now g k h v i s [] stays = stays
stays_now g k h v i s (e ∷ es) stays = stays.0

record Arises (g : TaskGraph) (k : SettingsForm) (h : HeldBy) (v i : ℕ) (s : State) (es : List Event) : Type 0 where
  before : List Event
  attempt : ℕ
  later : List Event
  is : es ≡ before ++ (Commit attempt ∷ later)
  made : IsMade g k (run_on g k s before) attempt v i h
  stays : Stays g k h v i (after g k (run_on g k s before) (Commit attempt)) later

data Came (g : TaskGraph) (k : SettingsForm) (h : HeldBy) (v i : ℕ) (s : State) (es : List Event) : Type 0 where
  always : Stays g k h v i s es → Came g k h v i s es
  once : Arises g k h v i s es → Came g k h v i s es

came : (g : TaskGraph) (k : SettingsForm) (h : HeldBy) (v i : ℕ) (s t : State) (es : List Event) → Reaches g k s es t → held_at t v i ≡ Some h → Came g k h v i s es
came g k h v i s t [] reach held = always (ap (λ x. held_at x v i) reach ∙ held)
came g k h v i s t (e ∷ es) reach held = elim (came g k h v i (after g k s e) t es reach.1 held) as (λ c. Came g k h v i s (e ∷ es)) [
  | once a ↦ once (record { before = e ∷ a.before; attempt = a.attempt; later = a.later; is = ap (λ l. e ∷ l) a.is; made = a.made; stays = a.stays })
  | always stays ↦ elim (held_was g k s e v i h (stays_now g k h v i (after g k s e) es stays)) as (λ c. Came g k h v i s (e ∷ es)) [
    | stayed was kept ↦ always (was, stays)
    | commits attempt is made ↦ once (record {
      before = [];
      attempt = attempt;
      later = es;
      is = ap (λ x. x ∷ es) is;
      made = made;
      stays = subst (λ x. Stays g k h v i (after g k s x) es) is stays;
    })
  ]
]

---- a sink's

abbrev master_block : ℕ → HeldBy
master_block a = record { slot = None; inc = 0; attempt = a }

stays_held : (g : TaskGraph) (k : SettingsForm) (h : HeldBy) (a v i : ℕ) (s : State) (es : List Event) → h ≡ master_block a → Stays g k h v i s es → StaysHeld g k a v i s es
stays_held g k h a v i s [] is stays = stays ∙ ap Some is
stays_held g k h a v i s (e ∷ es) is stays = (stays.0 ∙ ap Some is, stays_held g k h a v i (after g k s e) es is stays.1)

home_master : (home : Home) → is_master home ≡ true → home ≡ Master
home_master Master h = refl
home_master Pushed h = cc
home_master Local h = cc

-- a block of a sink that is held at the end of a log is from one commit
pub from_commit : (g : TaskGraph) (k : SettingsForm) (log : List Event) (t : State) (v i : ℕ) (h : HeldBy) → Reaches g k (start g k) log t → is_sink g v ≡ true → held_at t v i ≡ Some h
    → IsFromCommit g k log v i h.attempt
from_commit g k log t v i h reach sink held = elim (came g k h v i (start g k) t log reach held) as (λ c. IsFromCommit g k log v i h.attempt) [
  | always stays ↦ absurd (none_held g k v i h (stays_now g k h v i (start g k) log stays))
  | once a ↦ whole a
]
  where
    whole : Arises g k h v i (start g k) log → IsFromCommit g k log v i h.attempt
    whole a = subst (IsFromCommit g k log v i) (sym number) (record {
      before = a.before;
      later = a.later;
      is = a.is;
      once_before = none_yet g k (start g k) (state_of g k a.before) a.before a.attempt two.0 two.1.0;
      once_later = none_again g k (after g k (state_of g k a.before) (Commit a.attempt)) t a.later a.attempt two.1.1 (over_committed g k (state_of g k a.before) a.attempt two.1.0);
      gone = ap flat a.made.gone;
      stays = stays_held g k h a.attempt v i (after g k (state_of g k a.before) (Commit a.attempt)) a.later is a.stays;
    })
      where
        two : Reaches g k (start g k) a.before (state_of g k a.before) × Reaches g k (state_of g k a.before) (Commit a.attempt ∷ a.later) t
        two = split g k (start g k) t a.before (Commit a.attempt ∷ a.later) (subst (λ l. Reaches g k (start g k) l t) a.is reach)

        home : a.made.row.home ≡ Master
        home = home_master a.made.row.home (sym (ap (passes (λ row. is_master row.home)) a.made.named) ∙ sink)

        is : h ≡ master_block a.attempt
        is = a.made.is ∙ ap (λ x. home_of k (state_of g k a.before).incs a.attempt i x a.made.own) home

        number : h.attempt ≡ a.attempt
        number = ap (λ x. x.attempt) is

---- the end

nothing_there : (rows : List (List (Option HeldBy))) (n : ℕ) → slice_get rows n ≡ None → row_at rows n ≡ []
nothing_there [] n e = refl
nothing_there (r ∷ rows) zero e = cc
nothing_there (r ∷ rows) (suc n) e = nothing_there rows n e

none_in : (bs : List (Option HeldBy)) (n : ℕ) → slice_get bs n ≡ Some None → all_held bs ≡ false
none_in [] n e = cc
none_in (None ∷ bs) n e = refl
none_in (Some h ∷ bs) zero e = cc
none_in (Some h ∷ bs) (suc n) e = none_in bs n e

-- where the end is allowed, each block of a sink is held
pub sink_held : (g : TaskGraph) (k : SettingsForm) (s : State) (v i : ℕ) (row : VertexRow) → HasTables g k s → slice_get g.vertices v ≡ Some row → has_blocks g v row ≡ true → is_sink g v ≡ true
    → i < row.parallelism → refusal g k s Finish ≡ None → (h : HeldBy) × (held_at s v i ≡ Some h)
sink_held g k s v i row tables named has sink less none = holds x.0 x.1
  where
    blocks : List (Option HeldBy)
    blocks = row_at s.blocks v

    all : (b : Bool) → all_held blocks ≡ b → all_held blocks ≡ true
    all true is = is
    all false is =
        let there = row_there (slice_get s.blocks v) refl in
        absurd (both_ways (any_at (lacks_sink g) 0 s.blocks) (not-true (any_at (lacks_sink g) 0 s.blocks) (are_met (conditions g k s Finish) none).1.0)
        (any_at_found (lacks_sink g) s.blocks v blocks there (ap (λ b. b && not (all_held blocks)) sink ∙ ap not is)))
      where
        row_there : (o : Option (List (Option HeldBy))) → slice_get s.blocks v ≡ o → slice_get s.blocks v ≡ Some blocks
        row_there (Some r) e = e ∙ ap Some (sym (row_is s.blocks v r e))
        row_there None e = absurd (both_ways (all_held blocks) is (ap all_held (nothing_there s.blocks v e)))

    x : (o : Option HeldBy) × (slice_get blocks i ≡ Some o)
    x = let long = blocks_length g k s v row tables named ∙ has_all g v row has in got blocks i (omega (arith, less, long))

    holds : (o : Option HeldBy) → slice_get blocks i ≡ Some o → (h : HeldBy) × (held_at s v i ≡ Some h)
    holds (Some h) there = (h, ap flat there)
    holds None there = absurd (both_ways (all_held blocks) (none_in blocks i there) (all (all_held blocks) refl))

name_is_sink : (p : PlanForm) (u : IrVertex) (name : List ℕ) → sink_at p u ≡ Some name → is_sink_vertex p.flat u ≡ true
name_is_sink p u name e = named (vertex_transform p.flat u) e
  where
    named : (o : Option Transform) → sink_name o ≡ Some name → is_sink_of o ≡ true
    named (Some (Sink n)) e = refl
    named (Some (Source rows)) e = cc
    named (Some (Map out)) e = cc
    named (Some (Filter cond)) e = cc
    named (Some (Emit outs)) e = cc
    named (Some (Words field)) e = cc
    named (Some (Union ports)) e = cc
    named (Some (Reduce folding field)) e = cc
    named (Some Distinct) e = cc
    named (Some Join) e = cc
    named (Some SideJoin) e = cc
    named None e = cc

module _ (p : PlanForm) (k : SettingsForm) (before : List Event) (wired : IsWired p (graph p)) (legal : Legal p k (before ++ Finish ∷ [])) where
  abbrev log : List Event
  log = before ++ Finish ∷ []

  abbrev last : State
  last = state_of (graph p) k before

  two : Reaches (graph p) k (start (graph p) k) before last × Reaches (graph p) k last (Finish ∷ []) (state_of (graph p) k log)
  two = split (graph p) k (start (graph p) k) (state_of (graph p) k log) before (Finish ∷ []) (reached p k (start (graph p) k) [] log legal)

  row_of : (w : ℕ) (x : IrVertex) → slice_get p.dag.vertices w ≡ Some x → (row : VertexRow) × (slice_get (graph p).vertices w ≡ Some row)
  row_of w x at_w = let within = slice_get_within p.dag.vertices w x at_w in let same = wired.vertex_count in got (graph p).vertices w (omega (arith, within, same))

  -- a block of a sink at the end
  pub record IsEnded (v i : ℕ) : Type 0 where
    pub held : HeldBy
    pub is : held_at (state_of (graph p) k log) v i ≡ Some held
    pub sink : is_sink (graph p) v ≡ true

  pub ended_block : (v : ℕ) (u : IrVertex) (name : List ℕ) (i : ℕ) → slice_get p.dag.vertices v ≡ Some u → sink_at p u ≡ Some name → i < u.parallelism → IsEnded v i
  ended_block v u name i there named less =
      let row = row_of v u there in
      let is_row = wired.rows v u row.0 there row.1 in
      let home = is_row.sink (name_is_sink p u name named) in
      let sink : is_sink (graph p) v ≡ true = ap (passes (λ r. is_master r.home)) row.1 ∙ ap is_master home.0 in
      let kept = kept_along (graph p) k 0 (start (graph p) k) before last (kept_start (graph p) k) two.0 in
      let same = is_row.parallelism in
      let held = sink_held (graph p) k last v i row.0 kept.tables row.1 home.1 sink (omega (arith, less, same)) two.1.0 in
      record { held = held.0; is = ap (λ s. held_at s v i) (sym two.1.1) ∙ held.1; sink = sink }

  -- each block of each sink is from one commit
  pub from_commits : FromCommits p k log
  from_commits v u name i there named less =
      let e = ended_block v u name i there named less in
      (e.held.attempt, from_commit (graph p) k log (state_of (graph p) k log) v i e.held (reached p k (start (graph p) k) [] log legal) e.sink e.is)
