-- Two runs on one thread that end are one.
use Rattle.std.proofs.Common.{arith, ◌≡◌, ◌∙◌, ap, sym, subst, refl, ℕ, List, [], ◌∷◌, ◌++◌, length, slice_get, Bool, true, false, filter, Some, None, ◌⊎◌, inl, inr}
use Rattle.std.proofs.lemmas.Bool.{both_ways, cases_order}
use Rattle.std.proofs.lemmas.Option.{slice_get_within}
use Rattle.nemo_base.specs.LeastCuts.{IsLeastCuts, cuts_by}
use Rattle.nemo_base.specs.Samples.{counts_of}
use Rattle.nemo_base.specs.Script.{IsScript}
use Rattle.nemo_base.specs.Settings.{SettingsForm}
use Rattle.nemo_base.specs.declared.graph.TaskGraph.{TaskGraph}
use Rattle.nemo_base.specs.declared.id.TaskId.{TaskId}
use Rattle.nemo_base.specs.declared.script.ScriptLine.{ScriptLine}
use Rattle.nemo_value.specs.Ascending.{ascending}
use Rattle.nemo_transform.specs.Brought.{Arisen}
use Rattle.nemo_ir.specs.Along.{below}
use Rattle.nemo_ir.specs.Flat.{IsFlat}
use Rattle.nemo_ir.specs.Nodes.{nodes}
use Rattle.nemo_ir.specs.Valid.{Valid}
use Rattle.nemo_ir.specs.Value.{ByNumber}
use Rattle.nemo_core.specs.Run.{run_on}
use Rattle.nemo_core.specs.State.{State, start}
use Rattle.nemo_core.specs.Step.{conditions, is_going}
use Rattle.nemo_core.specs.declared.event.Event.{Event}
use Rattle.nemo_core.specs.declared.event.Event.TheVariants.{Decide, Fault, Spent}
use Rattle.nemo_core.proofs.Allowed.{are_met}
use Rattle.nemo_plan.specs.Form.{PlanForm, graph}
use Rattle.nemo_plan.specs.Over.{is_of_stage}
use Rattle.nemo_plan.specs.Stages.{stages_of}
use Rattle.nemo_plan.proofs.Memberships.{below_in}
use Rattle.nemo_plan.proofs.Wires.{graph_wired}
use Rattle.nemo_laws.specs.Data.{Given, Ran, cuts_at, held_parts, ran_of, state_of, task_gives}
use Rattle.nemo_laws.specs.Holds.{commit_hold, fired, may_decide}
use Rattle.nemo_laws.specs.Legal.{Faultless, FirstFault, all_vertices, by_kind, row_of, row_tasks, sample}
use Rattle.nemo_laws.specs.Solo.{IsStart, IsTurn, LeastDecisions, SoloRun, begins, commits, faults, launch_of_turn, next_task, spends, started, turns}
use Rattle.nemo_laws.proofs.Committing.{none_of}
use Rattle.nemo_laws.proofs.Faulted.{stage_there}
use Rattle.nemo_laws.proofs.Launching.{nothing_else}
use Rattle.nemo_laws.proofs.SoloLegal.{decisions_left, run_legal, some_tasks, spent_allowed, turn_allowed}

---- decisions

least_same : (counts : List ℕ) (n : ℕ) (a b : List ℕ) → IsLeastCuts counts n a → IsLeastCuts counts n b → a ≡ b
least_same counts n a b x y =
    let low = x.2 y.0 y.1 in
    let high = y.2 x.0 x.1 in
    let same : x.0 ≡ y.0 = omega (arith, low, high) in
    x.3 ∙ ap (cuts_by counts n) same ∙ sym y.3

decisions_same : (p : PlanForm) (k : SettingsForm) (s : State) (ran : List Ran) (vs : List ℕ) (a b : List Event) → LeastDecisions p k s ran vs a → LeastDecisions p k s ran vs b → a ≡ b
decisions_same p k s ran [] a b x y = x ∙ sym y
decisions_same p k s ran (v ∷ vs) a b x y =
    x.2 ∙ ap (λ cuts. Decide v cuts ∷ x.1) (least_same (counts_of (sample p k s ran v)) (row_tasks (row_of p v)) x.0 y.0 x.3 y.3)
    ∙ ap (λ later. Decide v y.0 ∷ later) (decisions_same p k s ran vs x.1 y.1 x.4 y.4) ∙ sym y.2

---- faults

first_clash : (gives : Given) (v : ℕ) (fault : Arisen ℕ) → (gives v).faults ≡ [] → slice_get (ascending by_kind (gives v).faults) 0 ≡ Some fault → ⊥
first_clash gives v fault none is = let clash : None ≡ Some fault = sym (ap (λ fs. slice_get (ascending by_kind fs) 0) none) ∙ is in cc

first_same : (p : PlanForm) (gives : Given) (a b : Arisen ℕ) → FirstFault p gives a → FirstFault p gives b → a ≡ b
first_same p gives a b x y = elim (cases_order x.vertex y.vertex) [
  | inl same ↦ let both : Some a ≡ Some b = sym x.is ∙ ap (λ v. slice_get (ascending by_kind (gives v).faults) 0) same ∙ y.is in cc
  | inr d ↦ elim d [
    | inl less ↦ absurd (first_clash gives x.vertex a (none_of gives (below y.vertex) x.vertex y.before (below_in y.vertex x.vertex less)) x.is)
    | inr more ↦ absurd (first_clash gives y.vertex b (none_of gives (below x.vertex) y.vertex x.before (below_in x.vertex y.vertex more)) y.is)
  ]
]

module _ (p : PlanForm) (k : SettingsForm) (script : List ScriptLine) (fine : IsFlat p.flat) (valid : Valid p.flat p.dag) where
  abbrev g : TaskGraph
  g = graph p

  -- a task without fault has no first one
  not_both : (s : State) (ran : List Ran) (t : TaskId) (fault : Arisen ℕ) → Faultless p (task_gives p ran s t) → FirstFault p (task_gives p ran s t) fault → ⊥
  not_both s ran t fault none first = go (is_of_stage (stages_of p.flat p.dag) t.stage first.vertex) refl
    where
      go : (b : Bool) → is_of_stage (stages_of p.flat p.dag) t.stage first.vertex ≡ b → ⊥
      go true own =
          let within = slice_get_within (stages_of p.flat p.dag) first.vertex t.stage (stage_there (stages_of p.flat p.dag) t.stage first.vertex own) in
          let staged = (graph_wired p fine valid).staged in
          first_clash (task_gives p ran s t) first.vertex fault
          (none_of (task_gives p ran s t) (all_vertices p) first.vertex none (below_in (length p.dag.vertices) first.vertex (omega (arith, within, staged)))) first.is
      go false other =
          first_clash (task_gives p ran s t) first.vertex fault
          (ap (λ (b : ByNumber). b.faults) (nothing_else p (cuts_at s) (held_parts (nodes p.flat.transforms p.dag) ran s) t first.vertex other)) first.is

  ---- turns

  record IsSameStart (s : State) (a b : List Event) (t u : TaskId) : Type 0 where
    decisions : a ≡ b
    task : t ≡ u

  start_same : (s : State) (ran : List Ran) (a b : List Event) (t u : TaskId) → IsStart p k s ran a t → IsStart p k s ran b u → IsSameStart s a b t u
  start_same s ran a b t u x y =
      let same = decisions_same p k s ran (filter (may_decide g s) (below (length g.vertices))) a b x.decided y.decided in
      let both : Some t ≡ Some u = sym x.task ∙ ap (λ ds. next_task g k (run_on g k s ds)) same ∙ y.task in
      record { decisions = same; task = cc }

  abbrev whole : State → List Event → TaskId → List Event
  whole s ds t = started p k s ds t ++ commit_hold g k script (run_on g k s (started p k s ds t)) s.launches

  abbrev failed : State → List Event → TaskId → Arisen ℕ → List Event
  failed s ds t f = started p k s ds t ++ Fault s.launches f.vertex f.kind f.rec ∷ []

  turn_same : (s : State) (ran : List Ran) (a b : List Event) → IsTurn p k script s ran a → IsTurn p k script s ran b → a ≡ b
  turn_same s ran _ _ (spends t l) (spends u m) = let both : Some t ≡ Some u = sym l ∙ m in ap (λ x. Spent x ∷ []) (the_same t u both)
    where
      the_same : (t u : TaskId) → Some t ≡ Some u → t ≡ u
      the_same t u e = cc
  turn_same s ran _ _ (spends t l) (commits ds u h none) = let clash : None ≡ Some t = sym h.unspent ∙ l in cc
  turn_same s ran _ _ (spends t l) (faults ds u x kind rec h first) = let clash : None ≡ Some t = sym h.unspent ∙ l in cc
  turn_same s ran _ _ (commits ds u h none) (spends t l) = let clash : None ≡ Some t = sym h.unspent ∙ l in cc
  turn_same s ran _ _ (faults ds u x kind rec h first) (spends t l) = let clash : None ≡ Some t = sym h.unspent ∙ l in cc
  turn_same s ran _ _ (commits ds t h none) (commits es u j clean) =
      let same = start_same s ran ds es t u h j in
      ap (λ l. whole s l t) same.decisions ∙ ap (whole s es) same.task
  turn_same s ran _ _ (commits ds t h none) (faults es u x kind rec j first) =
      let same = start_same s ran ds es t u h j in
      absurd (not_both (run_on g k s es) ran u (record { vertex = x; kind = kind; rec = rec })
      (subst (λ (q : List Event × TaskId). Faultless p (task_gives p ran (run_on g k s q.0) q.1)) (λ i. (same.decisions i, same.task i)) none) first)
  turn_same s ran _ _ (faults es u x kind rec j first) (commits ds t h none) =
      let same = start_same s ran ds es t u h j in
      absurd (not_both (run_on g k s es) ran u (record { vertex = x; kind = kind; rec = rec })
      (subst (λ (q : List Event × TaskId). Faultless p (task_gives p ran (run_on g k s q.0) q.1)) (λ i. (same.decisions i, same.task i)) none) first)
  turn_same s ran _ _ (faults ds t x kind rec h first) (faults es u y sort row j second) =
      let same = start_same s ran ds es t u h j in
      let f : Arisen ℕ = record { vertex = x; kind = kind; rec = rec } in
      let e : Arisen ℕ = record { vertex = y; kind = sort; rec = row } in
      let one : f ≡ e = first_same p (task_gives p ran (run_on g k s es) u) f e
      (subst (λ (q : List Event × TaskId). FirstFault p (task_gives p ran (run_on g k s q.0) q.1) f) (λ i. (same.decisions i, same.task i)) first) second in
      ap (λ l. failed s l t f) same.decisions ∙ ap (λ v. failed s es v f) same.task ∙ ap (failed s es u) one

  ---- runs

  -- turns lead from one log to another
  data Ahead (a : List Event) : List Event → Type 0 where
    at_once : Ahead a a
    later : (b es : List Event) → Ahead a b → IsTurn p k script (state_of g k b) (ran_of p k b) es → Ahead a (b ++ es)

  abbrev Next : List Event → List Event → Type 0
  Next a b = (es : List Event) × IsTurn p k script (state_of g k a) (ran_of p k a) es × Ahead (a ++ es) b

  first_turn : (a b : List Event) → Ahead a b → (a ≡ b) ⊎ Next a b
  first_turn a _ at_once = inl refl
  first_turn a _ (later b es h turn) = elim (first_turn a b h) [
    | inl same ↦ inr (es, subst (λ l. IsTurn p k script (state_of g k l) (ran_of p k l) es) (sym same) turn, subst (Ahead (a ++ es)) (ap (λ l. l ++ es) same) at_once)
    | inr next ↦ inr (next.0, next.1, later b es next.2 turn)
  ]

  from_begin : (b : List Event) → SoloRun p k script b → Ahead (fired g k 0 script (start g k)) b
  from_begin _ begins = at_once
  from_begin _ (turns log es r turn) = later log es (from_begin log r) turn

  compared : (a b : List Event) → SoloRun p k script a → SoloRun p k script b → Ahead a b ⊎ Ahead b a
  compared _ b begins other = inl (from_begin b other)
  compared _ b (turns log es r turn) other = elim (compared log b r other) [
    | inr behind ↦ inr (later log es behind turn)
    | inl ahead ↦ elim (first_turn log b ahead) [
      | inl same ↦ inr (subst (λ l. Ahead l (log ++ es)) same (later log es at_once turn))
      | inr next ↦ inl (subst (λ xs. Ahead (log ++ xs) b) (turn_same (state_of g k log) (ran_of p k log) next.0 es next.1 turn) next.2)
    ]
  ]

  module _ (is : IsScript k script) where
    start_goes : (log : List Event) → SoloRun p k script log → (ds : List Event) (t : TaskId) → IsStart p k (state_of g k log) (ran_of p k log) ds t → is_going (state_of g k log).outcome ≡ true
    start_goes log r ds t h =
        let s = state_of g k log in
        let u = run_on g k s ds in
        let legal = run_legal p k script fine valid is log r in
        let left = decisions_left p k s (ran_of p k log) (some_tasks p k script fine valid is log legal) (filter (may_decide g s) (below (length g.vertices))) ds s h.decided in
        ap is_going (sym left.outcome) ∙ (are_met (conditions g k u (launch_of_turn g k u t)) (turn_allowed g k u t h.task)).0

    -- a turn goes on a run that isn't over
    pub turn_goes : (log es : List Event) → SoloRun p k script log → IsTurn p k script (state_of g k log) (ran_of p k log) es → is_going (state_of g k log).outcome ≡ true
    turn_goes log _ r (spends t least) = (are_met (conditions g k (state_of g k log) (Spent t)) (spent_allowed g k (state_of g k log) t least)).0
    turn_goes log _ r (commits ds t h none) = start_goes log r ds t h
    turn_goes log _ r (faults ds t x kind rec h first) = start_goes log r ds t h

    ended : (a b : List Event) → SoloRun p k script a → is_going (state_of g k a).outcome ≡ false → Ahead a b → a ≡ b
    ended a b r over ahead = elim (first_turn a b ahead) [
      | inl same ↦ same
      | inr next ↦ absurd (both_ways (is_going (state_of g k a).outcome) over (turn_goes a next.0 r next.1))
    ]

    pub run_same : (a b : List Event) → SoloRun p k script a → SoloRun p k script b → is_going (state_of g k a).outcome ≡ false → is_going (state_of g k b).outcome ≡ false → a ≡ b
    run_same a b x y over done = elim (compared a b x y) [
      | inl ahead ↦ ended a b x over ahead
      | inr behind ↦ sym (ended b a y done behind)
    ]
