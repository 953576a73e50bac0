-- One turn of the run on one thread: the core after the launch and after the commit of a task.
use Rattle.std.proofs.Common.{arith, ◌≡◌, ◌∙◌, ap, sym, ℕ, ◌+◌, ◌<◌, List, [], ◌∷◌, ◌++◌, append-nil, append_assoc, Some, None, add-one}
use Rattle.std.proofs.lemmas.Grind.{flat_map-append}
use Rattle.std.proofs.lemmas.List.Sums.{AllPass-from_list_all}
use Rattle.std.specs.List.{AllPass, flat_map}
use Rattle.std.specs.Prelude.{Option, IsSome, is_some}
use Rattle.nemo_base.specs.declared.id.TaskId.{TaskId}
use Rattle.nemo_base.specs.Settings.{AreInRange, SettingsForm}
use Rattle.nemo_transform.specs.Soundness.{is_sound}
use Rattle.nemo_ir.specs.Along.{below}
use Rattle.nemo_ir.specs.Along.{passes}
use Rattle.nemo_ir.proofs.FlatPlaces.{has_transform}
use Rattle.nemo_ir.proofs.Places.{list_all-each, same_item}
use Rattle.nemo_core.specs.Reading.{launch_of, launchable}
use Rattle.nemo_core.specs.Run.{refusal_in, stepped}
use Rattle.nemo_core.specs.State.{Machine}
use Rattle.nemo_core.specs.declared.event.Event.{Event}
use Rattle.nemo_core.specs.declared.event.Event.TheVariants.{Launch, Commit}
use Rattle.nemo_plan.specs.Form.{PlanForm}
use Rattle.nemo_plan.specs.Line.{line_graph}
use Rattle.nemo_replay.specs.StageRun.{IsOneStage, first_stage, is_served, slot_of, tasks_in, turn, turns}
use Rattle.nemo_replay.specs.StageStates.{busy, ready, ready_core}
use Rattle.nemo_replay.proofs.Commits.{commit_after, commit_allowed}
use Rattle.nemo_replay.proofs.Counted.{below_suc}
use Rattle.nemo_replay.proofs.Launches.{launch_after, launchable_next, machine_of}
use Rattle.nemo_replay.proofs.Logs.{turns_more}
use Rattle.nemo_replay.proofs.Slots.{slot_good}
use Rattle.nemo_replay.proofs.OneStage.{count, stage_plan}

-- the core while task i runs
abbrev busy_core : PlanForm → SettingsForm → ℕ → Machine
busy_core p k i = record { graph = line_graph (count p) (tasks_in p); settings = k; state = busy (count p) (tasks_in p) k i (slot_of k i); taken = i + i + 1 }

pub core_is : (p : PlanForm) (k : SettingsForm) (i : ℕ) → IsOneStage p → ready_core p k i ≡ machine_of (count p) (tasks_in p) k i (i + i)
core_is p k i solo = ap (λ g. record { graph = g; settings = k; state = ready (count p) (tasks_in p) k i; taken = i + i }) (stage_plan p solo).graph_is

-- the next task may be launched
pub next_launchable : (p : PlanForm) (k : SettingsForm) (i : ℕ) (core : Machine) (slot : ℕ) → IsOneStage p → AreInRange k → i < tasks_in p → core ≡ ready_core p k i → slot ≡ slot_of k i
    → launchable core slot ≡ Some (first_stage i)
next_launchable p k i core slot solo range lt is on =
    ap (λ s. launchable core s) on ∙ ap (λ c. launchable c (slot_of k i)) (is ∙ core_is p k i solo)
    ∙ launchable_next (count p) (tasks_in p) k i (slot_of k i) (i + i) (stage_plan p solo).some lt range (slot_good k i range)

pub is_some_task : (o : Option TaskId) (t : TaskId) → o ≡ Some t → IsSome o
is_some_task o t e = ap is_some e

launched_task : (p : PlanForm) (k : SettingsForm) (i : ℕ) (core : Machine) (slot : ℕ) (task : TaskId) → IsOneStage p → AreInRange k → i < tasks_in p → core ≡ ready_core p k i → slot ≡ slot_of k i
    → launchable core slot ≡ Some task → task ≡ first_stage i
launched_task p k i core slot task solo range lt is on got =
    same_item task (first_stage i) (sym got ∙ next_launchable p k i core slot solo range lt is on)

-- its launch
launch_is : (p : PlanForm) (k : SettingsForm) (i : ℕ) (core : Machine) (slot : ℕ) (task : TaskId) → IsOneStage p → core ≡ ready_core p k i → slot ≡ slot_of k i → task ≡ first_stage i
    → launch_of core task slot ≡ Launch i (first_stage i) (slot_of k i) []
launch_is p k i core slot task solo is on at =
    ap (λ t. launch_of core t slot) at ∙ ap (λ s. launch_of core (first_stage i) s) on
    ∙ ap (λ c. launch_of c (first_stage i) (slot_of k i)) (is ∙ core_is p k i solo)

launched_core : (p : PlanForm) (k : SettingsForm) (i : ℕ) (core then : Machine) (slot : ℕ) (task : TaskId) → IsOneStage p → core ≡ ready_core p k i → slot ≡ slot_of k i → task ≡ first_stage i
    → then ≡ stepped core (launch_of core task slot) → then ≡ busy_core p k i
launched_core p k i core then slot task solo is on at took =
    took
    ∙ ap (stepped core) (launch_is p k i core slot task solo is on at)
    ∙ ap (λ c. stepped c (Launch i (first_stage i) (slot_of k i) [])) (is ∙ core_is p k i solo)
    ∙ ap (λ s. record { graph = line_graph (count p) (tasks_in p); settings = k; state = s; taken = i + i + 1 }) (launch_after (count p) (tasks_in p) k i (slot_of k i))

-- the commit of a task that runs
may_commit : (p : PlanForm) (k : SettingsForm) (i : ℕ) (core : Machine) (a : ℕ) → i < tasks_in p → core ≡ busy_core p k i → a ≡ i → refusal_in core (Commit a) ≡ None
may_commit p k i core a lt is named =
    ap (λ c. refusal_in c (Commit a)) is ∙ ap (λ n. refusal_in (busy_core p k i) (Commit n)) named ∙ commit_allowed (count p) (tasks_in p) k i (slot_of k i) lt

committed_core : (p : PlanForm) (k : SettingsForm) (i : ℕ) (core then : Machine) (a : ℕ) → IsOneStage p → i < tasks_in p → core ≡ busy_core p k i → a ≡ i → then ≡ stepped core (Commit a) → then ≡ ready_core p k (i + 1)
committed_core p k i core then a solo lt is named took =
    let m = count p in
    let n = tasks_in p in
    let two : i + i + 1 + 1 ≡ (i + 1) + (i + 1) = omega arith in
    took
    ∙ ap (λ b. stepped core (Commit b)) named
    ∙ ap (λ c. stepped c (Commit i)) is
    ∙ ap (λ s. record { graph = line_graph m n; settings = k; state = s; taken = i + i + 1 + 1 }) (commit_after m n k i (slot_of k i) lt ∙ ap (ready m n k) (sym (add-one i)))
    ∙ ap (λ t. record { graph = line_graph m n; settings = k; state = ready m n k (i + 1); taken = t }) two
    ∙ ap (λ g. record { graph = g; settings = k; state = ready m n k (i + 1); taken = (i + 1) + (i + 1) }) (sym (stage_plan p solo).graph_is)

---- a turn, from the clauses of the calls

-- what the launch of a turn has done
pub record IsLaunched (p : PlanForm) (k : SettingsForm) (i : ℕ) (core : Machine) (log before : List Event) (task : TaskId) : Type 0 where
  pub at : task ≡ first_stage i
  pub is : core ≡ busy_core p k i
  pub logged : log ≡ before ++ Launch i (first_stage i) (slot_of k i) [] ∷ []

pub turn_launched : (p : PlanForm) (k : SettingsForm) (i : ℕ) (core then : Machine) (log before : List Event) (slot : ℕ) (task : TaskId) → IsOneStage p → AreInRange k → i < tasks_in p → core ≡ ready_core p k i → slot ≡ slot_of k i
    → launchable core slot ≡ Some task → then ≡ stepped core (launch_of core task slot) → log ≡ before ++ launch_of core task slot ∷ [] → IsLaunched p k i then log before task
turn_launched p k i core then log before slot task solo range lt is on got took logged =
    let at = launched_task p k i core slot task solo range lt is on got in
    record {
      at = at;
      is = launched_core p k i core then slot task solo is on at took;
      logged = logged ∙ ap (λ e. before ++ e ∷ []) (launch_is p k i core slot task solo is on at);
    }

pub turn_allowed : (p : PlanForm) (k : SettingsForm) (i : ℕ) (core : Machine) (log before : List Event) (task : TaskId) (a : ℕ) → i < tasks_in p → IsLaunched p k i core log before task → a ≡ i → refusal_in core (Commit a) ≡ None
turn_allowed p k i core log before task a lt l named = may_commit p k i core a lt l.is named

pub turn_core : (p : PlanForm) (k : SettingsForm) (i : ℕ) (core then : Machine) (log before : List Event) (task : TaskId) (a : ℕ) → IsOneStage p → i < tasks_in p → IsLaunched p k i core log before task → a ≡ i
    → then ≡ stepped core (Commit a) → then ≡ ready_core p k (i + 1)
turn_core p k i core then log before task a solo lt l named took = committed_core p k i core then a solo lt l.is named took

pub turn_log : (p : PlanForm) (k : SettingsForm) (i : ℕ) (core : Machine) (log before later : List Event) (task : TaskId) (a : ℕ) → IsLaunched p k i core log before task → a ≡ i → later ≡ log ++ Commit a ∷ [] → later ≡ before ++ turn k i
turn_log p k i core log before later task a l named logged =
    logged ∙ ap (λ es. es ++ Commit a ∷ []) l.logged ∙ append_assoc before (Launch i (first_stage i) (slot_of k i) [] ∷ []) (Commit a ∷ [])
    ∙ ap (λ b. before ++ (Launch i (first_stage i) (slot_of k i) [] ∷ Commit b ∷ [])) named

-- each vertex of the plan has a transform that is sound
pub all_served : (p : PlanForm) → IsOneStage p → AllPass (is_served p.flat) p.flat.vertices
all_served p solo =
    AllPass-from_list_all (is_served p.flat) p.flat.vertices
    (list_all-each (is_served p.flat) p.flat.vertices (λ i x e. let t = has_transform p.flat solo.flat i x e in ap (passes is_sound) t.is ∙ t.sound))

---- turn after turn

pub log_more : (k : SettingsForm) (i : ℕ) (log later : List Event) → log ≡ turns k i → later ≡ log ++ turn k i → later ≡ turns k (i + 1)
log_more k i log later is more = more ∙ ap (λ es. es ++ turn k i) is ∙ sym (turns_more k i) ∙ ap (turns k) (sym (add-one i))

pub rows_more : {X : Type 0} (f : ℕ → List X) (i : ℕ) (rows part : List X) → rows ≡ flat_map f (below i) → part ≡ f i → rows ++ part ≡ flat_map f (below (i + 1))
rows_more f i rows part is own =
    ap (λ xs. xs ++ part) is ∙ ap (λ xs. flat_map f (below i) ++ xs) own
    ∙ sym (ap (λ n. flat_map f (below n)) (add-one i) ∙ ap (flat_map f) (below_suc i) ∙ flat_map-append f (below i) (i ∷ []) ∙ ap (λ xs. flat_map f (below i) ++ xs) (append-nil (f i)))
