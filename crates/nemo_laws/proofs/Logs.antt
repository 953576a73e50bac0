-- Logs one after another.
use Rattle.std.proofs.Common.{◌≡◌, refl, ℕ, List, [], ◌∷◌, ◌++◌, true, None}
use Rattle.nemo_base.specs.Settings.{SettingsForm}
use Rattle.nemo_base.specs.declared.graph.TaskGraph.{TaskGraph}
use Rattle.nemo_base.specs.declared.id.TaskId.{TaskId}
use Rattle.nemo_core.specs.Run.{HasState, Reaches, run_on}
use Rattle.nemo_core.specs.State.{State, is_needed, start}
use Rattle.nemo_core.specs.Step.{after, refusal}
use Rattle.nemo_core.specs.declared.event.Event.{Event}
use Rattle.nemo_core.specs.declared.event.Event.TheVariants.{Launch}
use Rattle.nemo_core.proofs.Launchable.{launch_allowed}
use Rattle.nemo_plan.specs.Form.{PlanForm, graph}
use Rattle.nemo_laws.specs.Data.{Ran, ran_from, state_of, with_attempt}
use Rattle.nemo_laws.specs.Legal.{Legal, LegalFrom}

---- states

pub run_append : (g : TaskGraph) (k : SettingsForm) (xs ys : List Event) (s : State) → run_on g k s (xs ++ ys) ≡ run_on g k (run_on g k s xs) ys
run_append g k [] ys s = refl
run_append g k (x ∷ xs) ys s = run_append g k xs ys (after g k s x)

-- steps, one after another
abbrev pub Allowed : TaskGraph → SettingsForm → State → List Event → Type 0
Allowed g k s [] = Unit {0}
Allowed g k s (e ∷ es) = (refusal g k s e ≡ None) × Allowed g k (after g k s e) es

pub reaches_own : (g : TaskGraph) (k : SettingsForm) (es : List Event) (s : State) → Allowed g k s es → Reaches g k s es (run_on g k s es)
reaches_own g k [] s h = refl
reaches_own g k (e ∷ es) s h = (h.0, reaches_own g k es (after g k s e) h.1)

pub reached_is : (g : TaskGraph) (k : SettingsForm) (es : List Event) (s t : State) → Reaches g k s es t → run_on g k s es ≡ t
reached_is g k [] s t h = h
reached_is g k (e ∷ es) s t h = reached_is g k es (after g k s e) t h.1

pub reaches_allowed : (g : TaskGraph) (k : SettingsForm) (es : List Event) (s t : State) → Reaches g k s es t → Allowed g k s es
reaches_allowed g k [] s t h = tt
reaches_allowed g k (e ∷ es) s t h = (h.0, reaches_allowed g k es (after g k s e) t h.1)

pub allowed_append : (g : TaskGraph) (k : SettingsForm) (xs ys : List Event) (s : State) → Allowed g k s xs → Allowed g k (run_on g k s xs) ys → Allowed g k s (xs ++ ys)
allowed_append g k [] ys s first then = then
allowed_append g k (x ∷ xs) ys s first then = (first.0, allowed_append g k xs ys (after g k s x) first.1 then)

---- attempts

pub ran_append : (p : PlanForm) (k : SettingsForm) (xs ys : List Event) (s : State) (ran : List Ran) → ran_from p k s ran (xs ++ ys) ≡ ran_from p k (run_on (graph p) k s xs) (ran_from p k s ran xs) ys
ran_append p k [] ys s ran = refl
ran_append p k (x ∷ xs) ys s ran = ran_append p k xs ys (after (graph p) k s x) (with_attempt p s ran x)

---- legal logs

pub legal_append : (p : PlanForm) (k : SettingsForm) (xs ys : List Event) (s : State) (ran : List Ran) → LegalFrom p k s ran xs → LegalFrom p k (run_on (graph p) k s xs) (ran_from p k s ran xs) ys
    → LegalFrom p k s ran (xs ++ ys)
legal_append p k [] ys s ran first then = then
legal_append p k (x ∷ xs) ys s ran first then = (first.0, first.1, legal_append p k xs ys (after (graph p) k s x) (with_attempt p s ran x) first.2 then)

pub legal_later : (p : PlanForm) (k : SettingsForm) (xs ys : List Event) (s : State) (ran : List Ran) → LegalFrom p k s ran (xs ++ ys) → LegalFrom p k (run_on (graph p) k s xs) (ran_from p k s ran xs) ys
legal_later p k [] ys s ran h = h
legal_later p k (x ∷ xs) ys s ran h = legal_later p k xs ys (after (graph p) k s x) (with_attempt p s ran x) h.2

pub legal_allowed : (p : PlanForm) (k : SettingsForm) (es : List Event) (s : State) (ran : List Ran) → LegalFrom p k s ran es → Allowed (graph p) k s es
legal_allowed p k [] s ran h = tt
legal_allowed p k (e ∷ es) s ran h = (h.0, legal_allowed p k es (after (graph p) k s e) (with_attempt p s ran e) h.2)

pub legal_state : (p : PlanForm) (k : SettingsForm) (log : List Event) → Legal p k log → HasState (graph p) k log (state_of (graph p) k log)
legal_state p k log h = reaches_own (graph p) k log (start (graph p) k) (legal_allowed p k log (start (graph p) k) [] h)

pub launch_needed : (p : PlanForm) (k : SettingsForm) (before later : List Event) (a : ℕ) (t : TaskId) (slot : ℕ) (reads : List ℕ)
    → Legal p k (before ++ Launch a t slot reads ∷ later) → is_needed (graph p) (state_of (graph p) k before) t ≡ true
launch_needed p k before later a t slot reads h =
    let own = legal_later p k before (Launch a t slot reads ∷ later) (start (graph p) k) [] h in
    (launch_allowed (graph p) k (state_of (graph p) k before) a t slot reads own.0).launch.needed
