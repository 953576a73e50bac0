-- Nothing is given back in a run on one thread.
use Rattle.std.proofs.Common.{◌≡◌, ◌∙◌, ap, sym, subst, refl, ℕ, List, [], ◌∷◌, ◌++◌, false, filter, length}
use Rattle.std.specs.Prelude.{is_none, ◌||◌}
use Rattle.std.specs.List.{list_any}
use Rattle.std.proofs.lemmas.Bool.{cond_both}
use Rattle.nemo_base.specs.Settings.{SettingsForm}
use Rattle.nemo_base.specs.declared.graph.TaskGraph.{TaskGraph}
use Rattle.nemo_base.specs.declared.id.TaskId.{TaskId}
use Rattle.nemo_base.specs.declared.script.Action.{Action}
use Rattle.nemo_base.specs.declared.script.Action.TheVariants.{Evict as EvictLine, Repartition as RepartitionLine}
use Rattle.nemo_base.specs.declared.script.ScriptLine.{ScriptLine}
use Rattle.nemo_ir.specs.Along.{below}
use Rattle.nemo_core.specs.Run.{run_on}
use Rattle.nemo_core.specs.State.{State, start}
use Rattle.nemo_core.specs.Step.{after, refusal}
use Rattle.nemo_core.specs.declared.event.Event.{Event}
use Rattle.nemo_core.specs.declared.event.Event.TheVariants.{Commit, Repartition, Ignored, Fault}
use Rattle.nemo_plan.specs.Form.{PlanForm, graph}
use Rattle.nemo_laws.specs.Data.{Ran, state_of, ran_of}
use Rattle.nemo_laws.specs.Holds.{commit_hold, drops, event_of, finish_of, fired, may_decide}
use Rattle.nemo_laws.specs.Solo.{IsStart, IsTurn, LeastDecisions, SoloRun, begins, commits, faults, launch_of_turn, spends, started, turns}
use Rattle.nemo_laws.specs.SoloLaws.{is_give_back}
use Rattle.nemo_laws.proofs.Every.{Every, every_append}
use Rattle.nemo_laws.proofs.Parts.{every_drop, every_finish, every_fired}

abbrev IsKept : Event → Type 0
IsKept e = is_give_back e ≡ false

kept_line : (g : TaskGraph) (k : SettingsForm) (s : State) (a : Action) → IsKept (event_of g k s a)
kept_line g k s (EvictLine slot) = refl
kept_line g k s (RepartitionLine v cuts) = cond_both (is_none (refusal g k s (Repartition v cuts))) (Repartition v cuts) (Ignored v cuts) IsKept (λ h. refl) (λ h. refl)

kept_decisions : (p : PlanForm) (k : SettingsForm) (s : State) (ran : List Ran) (vs : List ℕ) (es : List Event) → LeastDecisions p k s ran vs es → Every IsKept es
kept_decisions p k s ran [] es d = subst (Every IsKept) (sym d) tt
kept_decisions p k s ran (v ∷ vs) es d = subst (Every IsKept) (sym d.2) (refl, kept_decisions p k s ran vs d.1 d.4)

kept_commit : (g : TaskGraph) (k : SettingsForm) (script : List ScriptLine) (s : State) (a : ℕ) → Every IsKept (commit_hold g k script s a)
kept_commit g k script s a =
    let t = after g k s (Commit a) in
    let lines = fired g k t.commits script t in
    let u = run_on g k t lines in (
      refl,
      every_append IsKept lines (drops g k u ++ finish_of g k (run_on g k u (drops g k u))) (every_fired IsKept g k t.commits script t (kept_line g k))
          (every_append IsKept (drops g k u) (finish_of g k (run_on g k u (drops g k u))) (every_drop IsKept g k u (λ b. refl)) (every_finish IsKept g k (run_on g k u (drops g k u)) refl)),
    )

kept_start : (p : PlanForm) (k : SettingsForm) (s : State) (ran : List Ran) (decisions : List Event) (t : TaskId) → IsStart p k s ran decisions t → Every IsKept (started p k s decisions t)
kept_start p k s ran decisions t h =
    every_append IsKept decisions (launch_of_turn (graph p) k (run_on (graph p) k s decisions) t ∷ [])
    (kept_decisions p k s ran (filter (may_decide (graph p) s) (below (length (graph p).vertices))) decisions h.decided) (refl, tt)

kept_turn : (p : PlanForm) (k : SettingsForm) (script : List ScriptLine) (s : State) (ran : List Ran) (es : List Event) → IsTurn p k script s ran es → Every IsKept es
kept_turn p k script s ran _ (spends t least) = (refl, tt)
kept_turn p k script s ran _ (commits decisions t h none) =
    every_append IsKept (started p k s decisions t) (commit_hold (graph p) k script (run_on (graph p) k s (started p k s decisions t)) s.launches) (kept_start p k s ran decisions t h)
    (kept_commit (graph p) k script (run_on (graph p) k s (started p k s decisions t)) s.launches)
kept_turn p k script s ran _ (faults decisions t x kind rec h first) = every_append IsKept (started p k s decisions t) (Fault s.launches x kind rec ∷ []) (kept_start p k s ran decisions t h) (refl, tt)

kept_run : (p : PlanForm) (k : SettingsForm) (script : List ScriptLine) (log : List Event) → SoloRun p k script log → Every IsKept log
kept_run p k script _ begins = every_fired IsKept (graph p) k 0 script (start (graph p) k) (kept_line (graph p) k)
kept_run p k script _ (turns log es r turn) = every_append IsKept log es (kept_run p k script log r) (kept_turn p k script (state_of (graph p) k log) (ran_of p k log) es turn)

none_given : (log : List Event) → Every IsKept log → list_any is_give_back log ≡ false
none_given [] h = refl
none_given (e ∷ es) h = ap (λ b. b || list_any is_give_back es) h.0 ∙ none_given es h.1

pub alone : (p : PlanForm) (k : SettingsForm) (script : List ScriptLine) (log : List Event) → SoloRun p k script log → list_any is_give_back log ≡ false
alone p k script log r = none_given log (kept_run p k script log r)
