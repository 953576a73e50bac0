-- A hold is made of events that are allowed.
use Rattle.std.proofs.Common.{arith, ◌≡◌, ◌∙◌, ap, sym, subst, refl, ℕ, ◌+◌, ◌<◌, ◌==◌, List, [], ◌∷◌, ◌++◌, length, Bool, true, false, None, Some, Option}
use Rattle.std.specs.Prelude.{is_none, is_some, if◌then◌else◌, ◌&&◌}
use Rattle.std.proofs.lemmas.Bool.{cond_both, le-leb, lt-ltb}
use Rattle.std.proofs.lemmas.List.{length-replicate}
use Rattle.nemo_base.specs.Places.{first_at, or_else}
use Rattle.nemo_base.specs.Settings.{SettingsForm}
use Rattle.nemo_base.specs.Script.{IsScript, IsScriptFrom}
use Rattle.nemo_base.specs.Sound.{is_sound}
use Rattle.nemo_base.specs.declared.graph.StageRow.{StageRow}
use Rattle.nemo_base.specs.declared.graph.TaskGraph.{TaskGraph}
use Rattle.nemo_base.specs.declared.id.TaskId.{TaskId}
use Rattle.nemo_base.specs.declared.script.Action.{Action}
use Rattle.nemo_base.specs.declared.script.Action.TheVariants.{Evict as EvictLine, Repartition as RepartitionLine}
use Rattle.nemo_base.specs.declared.script.ScriptLine.{ScriptLine}
use Rattle.nemo_base.specs.declared.why.Why.{Why}
use Rattle.nemo_base.specs.declared.why.Why.TheVariants.{Over}
use Rattle.nemo_ir.specs.Along.{below}
use Rattle.nemo_base.specs.Script.{IsAction}
use Rattle.nemo_core.specs.Reading.{first_of, launchable, may_launch}
use Rattle.nemo_core.specs.Run.{HasState, Reaches, run_on}
use Rattle.nemo_core.specs.State.{State, start}
use Rattle.nemo_core.specs.Step.{after, conditions, first_failing, is_going, refusal, repartition_conditions}
use Rattle.nemo_core.specs.declared.event.Event.{Event}
use Rattle.nemo_core.specs.declared.event.Event.TheVariants.{Commit, Evict, Repartition, Ignored, Finish}
use Rattle.nemo_core.proofs.Allowed.{are_met, none_fails}
use Rattle.nemo_core.proofs.Keeping.{states}
use Rattle.nemo_core.proofs.KeptTables.{slots_length}
use Rattle.nemo_laws.specs.Data.{state_of}
use Rattle.nemo_laws.specs.Holds.{Decisions, IsLaunchHold, commit_hold, drops, event_of, finish_of, fired, launch_event, launch_on, machine, may_decide}
use Rattle.nemo_laws.proofs.Dropping.{drops_allowed, none_is}
use Rattle.nemo_laws.proofs.Every.{none_passes}
use Rattle.nemo_laws.proofs.Logs.{Allowed, allowed_append, reaches_own}

---- lines

-- the run goes on, on all slots of the settings
record IsOpen (k : SettingsForm) (s : State) : Type 0 where
  going : is_going s.outcome ≡ true
  slots : length s.incs ≡ k.reserved + k.transient

not_none : (o : Option Why) → is_none o ≡ false → is_some o ≡ true
not_none None h = cc
not_none (Some w) h = refl

over_if : (b : Bool) (o : Option Why) → b ≡ true → is_none (if b then o else Some Over) ≡ is_none o
over_if true o h = refl
over_if false o h = cc

event_allowed : (g : TaskGraph) (k : SettingsForm) (s : State) (a : Action) → IsAction k a → IsOpen k s → refusal g k s (event_of g k s a) ≡ None
event_allowed g k s (EvictLine slot) is o =
    let all : length s.incs ≡ k.reserved + k.transient = o.slots in
    let low : slot < k.reserved + k.transient = is.1 in
    none_fails (conditions g k s (Evict slot)) (o.going, (lt-ltb slot (length s.incs) (omega (arith, all, low)), (le-leb k.reserved slot is.0, tt)))
event_allowed g k s (RepartitionLine v cuts) is o =
    cond_both (is_none (refusal g k s (Repartition v cuts))) (Repartition v cuts) (Ignored v cuts) (λ e. refusal g k s e ≡ None)
    (λ h. none_is (refusal g k s (Repartition v cuts)) h)
    (λ h. none_fails (conditions g k s (Ignored v cuts)) (
      o.going,
      (
        not_none (first_failing (repartition_conditions g s v cuts))
            (sym (over_if (is_going s.outcome) (first_failing (repartition_conditions g s v cuts)) o.going) ∙ h),
        tt,
      ),
    ))

event_open : (g : TaskGraph) (k : SettingsForm) (s : State) (a : Action) → IsOpen k s → IsOpen k (after g k s (event_of g k s a))
event_open g k s (EvictLine slot) o = record { going = o.going; slots = slots_length g k s (Evict slot) ∙ o.slots }
event_open g k s (RepartitionLine v cuts) o = cond_both (is_none (refusal g k s (Repartition v cuts))) (Repartition v cuts) (Ignored v cuts) (λ e. IsOpen k (after g k s e))
    (λ h. record { going = o.going; slots = o.slots })
    (λ h. record { going = o.going; slots = o.slots })

record Fires (g : TaskGraph) (k : SettingsForm) (s : State) (es : List Event) : Type 0 where
  allowed : Allowed g k s es
  after : IsOpen k (run_on g k s es)

fires : (g : TaskGraph) (k : SettingsForm) (n at : ℕ) (lines : List ScriptLine) (s : State) → IsScriptFrom k at lines → IsOpen k s → Fires g k s (fired g k n lines s)
fires g k n at [] s is o = record { allowed = tt; after = o }
fires g k n at (line ∷ lines) s is o =
    let e = event_of g k s line.action in
    let first = event_allowed g k s line.action is.1 o in
    let taken = fires g k n line.at lines (after g k s e) is.2 (event_open g k s line.action o) in
    let left = fires g k n line.at lines s is.2 o in
    cond_both (line.at == n) (e ∷ fired g k n lines (after g k s e)) (fired g k n lines s) (Fires g k s) (λ h. record { allowed = (first, taken.allowed); after = taken.after }) (λ h. left)

pub begin_allowed : (g : TaskGraph) (k : SettingsForm) (script : List ScriptLine) → IsScript k script → HasState g k (fired g k 0 script (start g k)) (state_of g k (fired g k 0 script (start g k)))
begin_allowed g k script is =
    reaches_own g k (fired g k 0 script (start g k)) (start g k) (fires g k 0 0 script (start g k) is (record { going = refl; slots = length-replicate (k.reserved + k.transient) 0 })).allowed

---- a commit

finish_allowed : (g : TaskGraph) (k : SettingsForm) (s : State) → Allowed g k s (finish_of g k s)
finish_allowed g k s = cond_both (is_none (refusal g k s Finish)) (Finish ∷ []) [] (Allowed g k s) (λ h. (none_is (refusal g k s Finish) h, tt)) (λ h. tt)

pub commit_allowed : (g : TaskGraph) (k : SettingsForm) (script : List ScriptLine) (log : List Event) (s : State) (a : ℕ) → is_sound g ≡ true → IsScript k script → HasState g k log s
    → refusal g k s (Commit a) ≡ None → Allowed g k s (commit_hold g k script s a)
commit_allowed g k script log s a sound is has may =
    let t = after g k s (Commit a) in
    let o : IsOpen k t = record { going = (are_met (conditions g k s (Commit a)) may).0; slots = slots_length g k s (Commit a) ∙ (states g k log s has).tables.slots } in
    let f = fires g k t.commits 0 script t is o in
    let u = run_on g k t (fired g k t.commits script t) in (
      may,
      allowed_append g k (fired g k t.commits script t) (drops g k u ++ finish_of g k (run_on g k u (drops g k u))) t f.allowed
          (allowed_append g k (drops g k u) (finish_of g k (run_on g k u (drops g k u))) u (drops_allowed g k u sound) (finish_allowed g k (run_on g k u (drops g k u)))),
    )

pub commit_reaches : (g : TaskGraph) (k : SettingsForm) (script : List ScriptLine) (log : List Event) (s : State) (a : ℕ) → is_sound g ≡ true → IsScript k script → HasState g k log s
    → refusal g k s (Commit a) ≡ None → Reaches g k s (commit_hold g k script s a) (run_on g k s (commit_hold g k script s a))
commit_reaches g k script log s a sound is has may = reaches_own g k (commit_hold g k script s a) s (commit_allowed g k script log s a sound is has may)

---- a launch hold of a run that is over

none_first : {Y : Type 0} (f : ℕ → Option Y) (is : List ℕ) → ((i : ℕ) → f i ≡ None) → first_of f is ≡ None
none_first f [] h = refl
none_first f (i ∷ is) h = ap (λ o. or_else o (first_of f is)) (h i) ∙ none_first f is h

none_at : {Y : Type 0} (f : ℕ → ℕ → Option Y) (n : ℕ) (rows : List StageRow) → ((stage i : ℕ) → f stage i ≡ None) → first_at (λ stage row. first_of (f stage) (below row.parallelism)) n rows ≡ None
none_at f n [] h = refl
none_at f n (row ∷ rows) h = ap (λ o. or_else o (first_at (λ stage row. first_of (f stage) (below row.parallelism)) (n + 1) rows)) (none_first (f n) (below row.parallelism) (h n)) ∙ none_at f (n + 1) rows h

over_is : (b : Bool) (o : Option Why) (t : TaskId) → b ≡ false → (if is_none (if b then o else Some Over) then Some t else None) ≡ None
over_is false o t h = refl
over_is true o t h = cc

no_decisions : (es : List Event) → Decisions [] es → es ≡ []
no_decisions [] d = refl
no_decisions (e ∷ es) d = elim d [ ]

and_false : (a b : Bool) → a ≡ false → (a && b) ≡ false
and_false a b e = ap (λ x. x && b) e

pub empty_hold : (g : TaskGraph) (k : SettingsForm) (s : State) (es : List Event) → is_going s.outcome ≡ false → IsLaunchHold g k s es → es ≡ []
empty_hold g k s es over h =
    let none = none_passes (may_decide g s) (below (length g.vertices)) (λ v. and_false (is_going s.outcome) _ over) in
    let undecided : h.decisions ≡ [] = no_decisions h.decisions (subst (λ vs. Decisions vs h.decisions) none h.decided) in
    let m = machine g k s in
    let nothing : launchable m h.slot ≡ None = none_at (may_launch m h.slot) 0 g.stages (λ stage i. over_is (is_going s.outcome) _ (record { stage = stage; index = i }) over) in
    h.is ∙ ap (λ ds. ds ++ launch_on g k (run_on g k s ds) h.slot) undecided ∙ ap (launch_event m h.slot) nothing
