-- A run on one thread is made of holds.
use Rattle.std.proofs.Common.{arith, ◌≡◌, ◌∙◌, ap, sym, subst, refl, ℕ, ◌+◌, ◌<◌, ◌==◌, ◌%◌, List, [], ◌∷◌, ◌++◌, length, slice_get, slice_index_or, Bool, true, false, filter, Option, Some, None}
use Rattle.std.specs.Prelude.{is_none, max, nat_le, nat_lt, if◌then◌else◌}
use Rattle.std.proofs.lemmas.Bool.{both_ways, leb-true, ltb-true}
use Rattle.std.proofs.lemmas.List.{append_assoc}
use Rattle.nemo_base.specs.Places.{first_at, or_else, passes}
use Rattle.nemo_base.specs.Script.{IsScript}
use Rattle.nemo_base.specs.Settings.{SettingsForm}
use Rattle.nemo_base.specs.declared.annotation.Class.{Class}
use Rattle.nemo_base.specs.declared.annotation.Class.TheVariants.{Reserved, Transient}
use Rattle.nemo_base.specs.declared.graph.StageRow.{StageRow}
use Rattle.nemo_base.specs.declared.graph.TaskGraph.{TaskGraph}
use Rattle.nemo_base.specs.declared.id.TaskId.{TaskId}
use Rattle.nemo_base.specs.declared.script.ScriptLine.{ScriptLine}
use Rattle.nemo_ir.specs.Along.{below}
use Rattle.nemo_ir.specs.Flat.{IsFlat}
use Rattle.nemo_ir.specs.Valid.{Valid}
use Rattle.nemo_core.specs.Laws.{next_launch}
use Rattle.nemo_core.specs.Reading.{first_of, launchable, may_launch}
use Rattle.nemo_core.specs.Run.{run_on}
use Rattle.nemo_core.specs.State.{State, start}
use Rattle.nemo_core.specs.Step.{conditions, fits, refusal}
use Rattle.nemo_core.specs.declared.event.Event.{Event}
use Rattle.nemo_core.specs.declared.event.Event.TheVariants.{Fault}
use Rattle.nemo_core.proofs.Allowed.{are_met}
use Rattle.nemo_plan.specs.Form.{PlanForm, graph}
use Rattle.nemo_laws.specs.Data.{Ran, ran_of, state_of}
use Rattle.nemo_laws.specs.Holds.{Decisions, Holds, IsLaunchHold, begins as begin_hold, commit_hold, commits as commit_holds, faults as fault_holds, launch_event, launches as launch_holds, machine, may_decide, spends as spend_holds}
use Rattle.nemo_laws.specs.Legal.{Legal}
use Rattle.nemo_laws.specs.Solo.{IsStart, IsTurn, LeastDecisions, SoloRun, begins, commits, faults, fitting, launch_of_turn, may_take_turn, next_task, spends, started, turn_slot, turns}
use Rattle.nemo_laws.proofs.Dropping.{none_is}
use Rattle.nemo_laws.proofs.Logs.{run_append}
use Rattle.nemo_laws.proofs.SoloLegal.{decisions_left, run_legal, some_tasks, turn_allowed}

---- slots

fitting_same : (k : SettingsForm) (c d : Class) (slot : ℕ) → fits k slot c ≡ true → fits k slot d ≡ true → fitting k c ≡ fitting k d
fitting_same k Reserved Reserved slot a b = refl
fitting_same k Transient Transient slot a b = refl
fitting_same k Reserved Transient slot a b = mixed (k.transient == 0) refl
  where
    mixed : (x : Bool) → (k.transient == 0) ≡ x → fitting k Reserved ≡ fitting k Transient
    mixed true e = sym (ap (λ x. filter (λ n. if x then nat_lt n k.reserved else nat_le k.reserved n) (below (k.reserved + k.transient))) e)
    mixed false e =
        let low = ltb-true slot k.reserved a in
        let high = leb-true k.reserved slot (sym (ap (λ x. if x then nat_lt slot k.reserved else nat_le k.reserved slot) e) ∙ b) in
        absurd (omega (arith, low, high))
fitting_same k Transient Reserved slot a b = sym (fitting_same_back k slot b a)
  where
    fitting_same_back : (k : SettingsForm) (slot : ℕ) → fits k slot Reserved ≡ true → fits k slot Transient ≡ true → fitting k Reserved ≡ fitting k Transient
    fitting_same_back k slot a b = mixed (k.transient == 0) refl
      where
        mixed : (x : Bool) → (k.transient == 0) ≡ x → fitting k Reserved ≡ fitting k Transient
        mixed true e = sym (ap (λ x. filter (λ n. if x then nat_lt n k.reserved else nat_le k.reserved n) (below (k.reserved + k.transient))) e)
        mixed false e =
            let low = ltb-true slot k.reserved a in
            let high = leb-true k.reserved slot (sym (ap (λ x. if x then nat_lt slot k.reserved else nat_le k.reserved slot) e) ∙ b) in
            absurd (omega (arith, low, high))

-- stages that a slot fits have the same slot in a turn
turn_alike : (k : SettingsForm) (s : State) (slot : ℕ) (a b : Option StageRow) → passes (λ row. fits k slot row.class) a ≡ true → passes (λ row. fits k slot row.class) b ≡ true → turn_slot k s a ≡ turn_slot k s b
turn_alike k s slot (Some x) (Some y) f h = ap (λ slots. slice_index_or slots (s.launches % max 1 (length slots)) 0) (fitting_same k x.class y.class slot f h)
turn_alike k s slot (Some x) None f h = cc
turn_alike k s slot None b f h = cc

---- the least task

-- the first answer of two tests, where the second gives none that the first doesn't, and the same at the first's
first_alike : (f h : ℕ → Option TaskId) (t : TaskId) → ((i : ℕ) → f i ≡ None → h i ≡ None) → ((i : ℕ) → f i ≡ Some t → h i ≡ Some t) → (ns : List ℕ) → (o : Option TaskId) → first_of f ns ≡ o
    → ((o ≡ None → first_of h ns ≡ None) × (o ≡ Some t → first_of h ns ≡ Some t))
first_alike f h t none some [] o e = (λ x. refl, λ x. e ∙ x)
first_alike f h t none some (i ∷ ns) o e = go (f i) refl (first_alike f h t none some ns (first_of f ns) refl)
  where
    go : (x : Option TaskId) → f i ≡ x → ((first_of f ns ≡ None → first_of h ns ≡ None) × (first_of f ns ≡ Some t → first_of h ns ≡ Some t))
        → ((o ≡ None → or_else (h i) (first_of h ns) ≡ None) × (o ≡ Some t → or_else (h i) (first_of h ns) ≡ Some t))
    go (Some y) is rest =
        let whole : Some y ≡ o = sym (ap (λ x. or_else x (first_of f ns)) is) ∙ e in
        (λ n. let clash : Some y ≡ None = whole ∙ n in cc, λ m. ap (λ x. or_else x (first_of h ns)) (some i (is ∙ whole ∙ m)))
    go None is rest =
        let whole : first_of f ns ≡ o = sym (ap (λ x. or_else x (first_of f ns)) is) ∙ e in
        let skip : or_else (h i) (first_of h ns) ≡ first_of h ns = ap (λ x. or_else x (first_of h ns)) (none i is) in
        (λ n. skip ∙ rest.0 (whole ∙ n), λ m. skip ∙ rest.1 (whole ∙ m))

task_alike : (f h : ℕ → ℕ → Option TaskId) (t : TaskId) → ((stage i : ℕ) → f stage i ≡ None → h stage i ≡ None) → ((stage i : ℕ) → f stage i ≡ Some t → h stage i ≡ Some t) → (n : ℕ) (rows : List StageRow)
    → first_at (λ stage row. first_of (f stage) (below row.parallelism)) n rows ≡ Some t → first_at (λ stage row. first_of (h stage) (below row.parallelism)) n rows ≡ Some t
task_alike f h t none some n [] e = cc
task_alike f h t none some n (row ∷ rows) e = go (first_of (f n) (below row.parallelism)) refl (task_alike f h t none some (n + 1) rows)
  where
    before : Option TaskId
    before = first_at (λ stage row. first_of (f stage) (below row.parallelism)) (n + 1) rows

    later : Option TaskId
    later = first_at (λ stage row. first_of (h stage) (below row.parallelism)) (n + 1) rows

    go : (o : Option TaskId) → first_of (f n) (below row.parallelism) ≡ o → (before ≡ Some t → later ≡ Some t) → or_else (first_of (h n) (below row.parallelism)) later ≡ Some t
    go (Some y) is rest =
        let whole : Some y ≡ Some t = sym (ap (λ x. or_else x before) is) ∙ e in
        ap (λ x. or_else x later) ((first_alike (f n) (h n) t (none n) (some n) (below row.parallelism) (Some y) is).1 whole)
    go None is rest =
        ap (λ x. or_else x later) ((first_alike (f n) (h n) t (none n) (some n) (below row.parallelism) None is).0 refl)
        ∙ rest (sym (ap (λ x. or_else x before) is) ∙ e)

chosen : (s : TaskId) (b c : Bool) → b ≡ c → (if b then Some s else None) ≡ (if c then Some s else None)
chosen s b c e = ap (λ x. if x then Some s else None) e

named_is : (s t : TaskId) (b : Bool) → (if b then Some s else None) ≡ Some t → (s ≡ t) × (b ≡ true)
named_is s t true e = (cc, refl)
named_is s t false e = cc

unnamed : (s : TaskId) (b : Bool) → (if b then Some s else None) ≡ None → b ≡ false
unnamed s true e = cc
unnamed s false e = refl

module _ (g : TaskGraph) (k : SettingsForm) (u : State) (t : TaskId) (next : next_task g k u ≡ Some t) where
  abbrev slot : ℕ
  slot = turn_slot k u (slice_get g.stages t.stage)

  class_fits : (a : TaskId) (n : ℕ) → refusal g k u (next_launch g u a n) ≡ None → passes (λ row. fits k n row.class) (slice_get g.stages a.stage) ≡ true
  class_fits a n none = (are_met (conditions g k u (next_launch g u a n)) none).1.1.1.1.1.1.0

  may : refusal g k u (next_launch g u t slot) ≡ None
  may = turn_allowed g k u t next

  pub slot_there : slot < length u.incs
  slot_there = ltb-true slot (length u.incs) (are_met (conditions g k u (next_launch g u t slot)) may).1.1.0

  pub least_there : launchable (machine g k u) slot ≡ Some t
  least_there = task_alike (may_take_turn g k u) (may_launch (machine g k u) slot) t none some 0 g.stages next
    where
      id : ℕ → ℕ → TaskId
      id stage i = record { stage = stage; index = i }

      same_slot : (a : TaskId) → refusal g k u (next_launch g u a slot) ≡ None → turn_slot k u (slice_get g.stages a.stage) ≡ slot
      same_slot a free = turn_alike k u slot (slice_get g.stages a.stage) (slice_get g.stages t.stage) (class_fits a slot free) (class_fits t slot may)

      none : (stage i : ℕ) → may_take_turn g k u stage i ≡ None → may_launch (machine g k u) slot stage i ≡ None
      none stage i e = go (is_none (refusal g k u (next_launch g u (record { stage = stage; index = i }) slot))) refl
        where
          go : (b : Bool) → is_none (refusal g k u (next_launch g u (record { stage = stage; index = i }) slot)) ≡ b → may_launch (machine g k u) slot stage i ≡ None
          go false is = chosen (record { stage = stage; index = i }) (is_none (refusal g k u (next_launch g u (record { stage = stage; index = i }) slot))) false is
          go true is =
              let free = none_is (refusal g k u (next_launch g u (record { stage = stage; index = i }) slot)) is in
              absurd (both_ways (is_none (refusal g k u (launch_of_turn g k u (record { stage = stage; index = i }))))
              (unnamed (record { stage = stage; index = i }) (is_none (refusal g k u (launch_of_turn g k u (record { stage = stage; index = i })))) e)
              (ap (λ n. is_none (refusal g k u (next_launch g u (record { stage = stage; index = i }) n))) (same_slot (record { stage = stage; index = i }) free) ∙ is))

      some : (stage i : ℕ) → may_take_turn g k u stage i ≡ Some t → may_launch (machine g k u) slot stage i ≡ Some t
      some stage i e =
          let n = named_is (record { stage = stage; index = i }) t (is_none (refusal g k u (launch_of_turn g k u (record { stage = stage; index = i })))) e in
          let free : is_none (refusal g k u (next_launch g u (record { stage = stage; index = i }) slot)) ≡ true =
          ap (λ a. is_none (refusal g k u (next_launch g u a slot))) n.0 ∙ ap is_none may in
          chosen (record { stage = stage; index = i }) (is_none (refusal g k u (next_launch g u (record { stage = stage; index = i }) slot))) true free ∙ ap Some n.0

---- turns

decisions_are : (p : PlanForm) (k : SettingsForm) (s : State) (ran : List Ran) (vs : List ℕ) (es : List Event) → LeastDecisions p k s ran vs es → Decisions vs es
decisions_are p k s ran [] es d = subst (Decisions []) (sym d) tt
decisions_are p k s ran (v ∷ vs) es d = subst (Decisions (v ∷ vs)) (sym d.2) (refl, decisions_are p k s ran vs d.1 d.4)

module _ (p : PlanForm) (k : SettingsForm) (script : List ScriptLine) (fine : IsFlat p.flat) (valid : Valid p.flat p.dag) (is : IsScript k script) where
  abbrev g : TaskGraph
  g = graph p

  launch_hold : (log : List Event) → Legal p k log → (decisions : List Event) (t : TaskId) → IsStart p k (state_of g k log) (ran_of p k log) decisions t
      → IsLaunchHold g k (state_of g k log) (started p k (state_of g k log) decisions t)
  launch_hold log legal decisions t h =
      let s = state_of g k log in
      let u = run_on g k s decisions in
      let vs = filter (may_decide g s) (below (length g.vertices)) in
      let left = decisions_left p k s (ran_of p k log) (some_tasks p k script fine valid is log legal) vs decisions s h.decided in
      record {
        unspent = h.unspent;
        decisions = decisions;
        decided = decisions_are p k s (ran_of p k log) vs decisions h.decided;
        slot = turn_slot k u (slice_get g.stages t.stage);
        known = let less = slot_there g k u t h.task in let same = ap length left.incs in omega (arith, less, same);
        is = ap (λ o. decisions ++ launch_event (machine g k u) (turn_slot k u (slice_get g.stages t.stage)) o) (sym (least_there g k u t h.task));
      }

  turn_holds : (log es : List Event) → Legal p k log → Holds g k script log → IsTurn p k script (state_of g k log) (ran_of p k log) es → Holds g k script (log ++ es)
  turn_holds log _ legal held (spends t least) = spend_holds log t held least
  turn_holds log _ legal held (commits decisions t h none) =
      let s = state_of g k log in
      let begun = started p k s decisions t in
      subst (Holds g k script) (ap (λ u. (log ++ begun) ++ commit_hold g k script u s.launches) (run_append g k log begun (start g k)) ∙ append_assoc log begun (commit_hold g k script (run_on g k s begun) s.launches))
      (commit_holds (log ++ begun) s.launches (launch_holds log begun held (launch_hold log legal decisions t h)))
  turn_holds log _ legal held (faults decisions t x kind rec h first) =
      let s = state_of g k log in
      let begun = started p k s decisions t in
      subst (Holds g k script) (append_assoc log begun (Fault s.launches x kind rec ∷ []))
      (fault_holds (log ++ begun) s.launches x kind rec (launch_holds log begun held (launch_hold log legal decisions t h)))

  pub run_holds : (log : List Event) → SoloRun p k script log → Holds g k script log
  run_holds _ begins = begin_hold
  run_holds _ (turns log es r turn) = turn_holds log es (run_legal p k script fine valid is log r) (run_holds log r) turn
