-- What a log of holds has of the script.
use Rattle.std.proofs.Common.{arith, ◌≡◌, ◌∙◌, ap, sym, subst, refl, ℕ, zero, suc, ◌+◌, ◌==◌, List, [], ◌∷◌, ◌++◌, map, Bool, true, false, filter, None, Some}
use Rattle.std.specs.Prelude.{is_none, if◌then◌else◌}
use Rattle.std.specs.List.{cons_option, filter_map, flat_map}
use Rattle.std.proofs.lemmas.Bool.{cond_both}
use Rattle.std.proofs.lemmas.List.{append-nil}
use Rattle.std.proofs.lemmas.List.Elements.{filter_map-append}
use Rattle.std.proofs.lemmas.Grind.{flat_map-append}
use Rattle.nemo_base.specs.Settings.{SettingsForm}
use Rattle.nemo_base.specs.declared.graph.TaskGraph.{TaskGraph}
use Rattle.nemo_base.specs.declared.script.Action.{Action}
use Rattle.nemo_base.specs.declared.script.Action.TheVariants.{Evict as EvictLine, Repartition as RepartitionLine}
use Rattle.nemo_base.specs.declared.script.ScriptLine.{ScriptLine}
use Rattle.nemo_ir.specs.Along.{below, counted}
use Rattle.nemo_core.specs.Kept.{total}
use Rattle.nemo_core.specs.Run.{run_on}
use Rattle.nemo_core.specs.State.{State, start}
use Rattle.nemo_core.specs.Step.{after, refusal}
use Rattle.nemo_core.specs.declared.event.Event.{Event}
use Rattle.nemo_core.specs.declared.event.Event.TheVariants.{Launch, Commit, Repeat, GiveBack, Evict, Repartition, Ignored, Decide, Fault, Spent, Starved, Drop, Finish}
use Rattle.nemo_laws.specs.Data.{state_of}
use Rattle.nemo_laws.specs.HoldLaws.{commits_in, due_at, scripted}
use Rattle.nemo_laws.specs.Holds.{Holds, IsLaunchHold, begins, commit_hold, commits, drops, event_of, faults, finish_of, fired, gives_back, launch_on, launches, machine, spends, starves}
use Rattle.nemo_core.specs.Reading.{launchable}
use Rattle.nemo_laws.proofs.Every.{Every, every_append, no_total, total_append}
use Rattle.nemo_laws.proofs.Logs.{run_append}
use Rattle.nemo_laws.proofs.Parts.{every_decision, every_drop, every_finish, every_fired, every_launch}

---- commits

abbrev pub adds : Event → ℕ
adds (Commit a) = 1
adds (Launch a t slot reads) = 0
adds (Repeat a) = 0
adds (GiveBack a) = 0
adds (Evict slot) = 0
adds (Repartition v cuts) = 0
adds (Ignored v cuts) = 0
adds (Decide v cuts) = 0
adds (Fault a v kind rec) = 0
adds (Spent t) = 0
adds Starved = 0
adds (Drop b) = 0
adds Finish = 0

one_commits : (g : TaskGraph) (k : SettingsForm) (s : State) (e : Event) → (after g k s e).commits ≡ s.commits + adds e
one_commits g k s (Commit a) = refl
one_commits g k s (Launch a t slot reads) = omega arith
one_commits g k s (Repeat a) = omega arith
one_commits g k s (GiveBack a) = omega arith
one_commits g k s (Evict slot) = omega arith
one_commits g k s (Repartition v cuts) = omega arith
one_commits g k s (Ignored v cuts) = omega arith
one_commits g k s (Decide v cuts) = omega arith
one_commits g k s (Fault a v kind rec) = omega arith
one_commits g k s (Spent t) = omega arith
one_commits g k s Starved = omega arith
one_commits g k s (Drop b) = omega arith
one_commits g k s Finish = omega arith

pub all_commits : (g : TaskGraph) (k : SettingsForm) (es : List Event) (s : State) → (run_on g k s es).commits ≡ s.commits + total adds es
all_commits g k [] s = omega arith
all_commits g k (e ∷ es) s =
    let here : (after g k s e).commits ≡ s.commits + adds e = one_commits g k s e in
    let later : (run_on g k (after g k s e) es).commits ≡ (after g k s e).commits + total adds es = all_commits g k es (after g k s e) in
    omega (arith, here, later)

---- the events of lines

event_scripted : (g : TaskGraph) (k : SettingsForm) (s : State) (a : Action) → scripted (event_of g k s a) ≡ Some a
event_scripted g k s (EvictLine slot) = refl
event_scripted g k s (RepartitionLine v cuts) = cond_both (is_none (refusal g k s (Repartition v cuts))) (Repartition v cuts) (Ignored v cuts) (λ e. scripted e ≡ Some (RepartitionLine v cuts)) (λ h. refl) (λ h. refl)

event_adds : (g : TaskGraph) (k : SettingsForm) (s : State) (a : Action) → adds (event_of g k s a) ≡ 0
event_adds g k s (EvictLine slot) = refl
event_adds g k s (RepartitionLine v cuts) = cond_both (is_none (refusal g k s (Repartition v cuts))) (Repartition v cuts) (Ignored v cuts) (λ e. adds e ≡ 0) (λ h. refl) (λ h. refl)

pub fired_actions : (g : TaskGraph) (k : SettingsForm) (n : ℕ) (lines : List ScriptLine) (s : State) → filter_map scripted (fired g k n lines s) ≡ due_at lines n
fired_actions g k n [] s = refl
fired_actions g k n (line ∷ lines) s = go (line.at == n) (fired_actions g k n lines (after g k s (event_of g k s line.action))) (fired_actions g k n lines s)
  where
    go : (b : Bool) → filter_map scripted (fired g k n lines (after g k s (event_of g k s line.action))) ≡ due_at lines n → filter_map scripted (fired g k n lines s) ≡ due_at lines n
        → filter_map scripted (if b then event_of g k s line.action ∷ fired g k n lines (after g k s (event_of g k s line.action)) else fired g k n lines s)
        ≡ map (λ l. l.action) (if b then line ∷ filter (λ l. l.at == n) lines else filter (λ l. l.at == n) lines)
    go true taken left = ap (λ o. cons_option o (filter_map scripted (fired g k n lines (after g k s (event_of g k s line.action))))) (event_scripted g k s line.action) ∙ ap (λ later. line.action ∷ later) taken
    go false taken left = left

pub fired_adds : (g : TaskGraph) (k : SettingsForm) (n : ℕ) (lines : List ScriptLine) (s : State) → total adds (fired g k n lines s) ≡ 0
fired_adds g k n lines s = no_total adds (fired g k n lines s) (every_fired (λ e. adds e ≡ 0) g k n lines s (event_adds g k))

---- holds

-- neither a commit nor of the script
record IsApart (e : Event) : Type 0 where
  adds : adds e ≡ 0
  script : scripted e ≡ None

launch_apart : (g : TaskGraph) (k : SettingsForm) (s : State) (es : List Event) → IsLaunchHold g k s es → Every IsApart es
launch_apart g k s es h = subst (Every IsApart) (sym h.is)
    (every_append IsApart h.decisions (launch_on g k (run_on g k s h.decisions) h.slot) (every_decision IsApart _ h.decisions (λ v cuts. record { adds = refl; script = refl }) h.decided)
    (every_launch IsApart (machine g k (run_on g k s h.decisions)) h.slot (launchable (machine g k (run_on g k s h.decisions)) h.slot) (λ a t slot reads. record { adds = refl; script = refl })))

abbrev IsRounds : TaskGraph → SettingsForm → List ScriptLine → List Event → Type 0
IsRounds g k script log = filter_map scripted log ≡ flat_map (due_at script) (below (suc (commits_in g k log)))

commits_more : (g : TaskGraph) (k : SettingsForm) (log es : List Event) → commits_in g k (log ++ es) ≡ commits_in g k log + total adds es
commits_more g k log es = ap (λ s. s.commits) (run_append g k log es (start g k)) ∙ all_commits g k es (state_of g k log)

apart_adds : (es : List Event) → Every IsApart es → total adds es ≡ 0
apart_adds [] h = refl
apart_adds (e ∷ es) h = let here : adds e ≡ 0 = h.0.adds in let later : total adds es ≡ 0 = apart_adds es h.1 in omega (arith, here, later)

apart_script : (es : List Event) → Every IsApart es → filter_map scripted es ≡ []
apart_script [] h = refl
apart_script (e ∷ es) h = ap (λ o. cons_option o (filter_map scripted es)) h.0.script ∙ apart_script es h.1

apart_more : (g : TaskGraph) (k : SettingsForm) (script : List ScriptLine) (log es : List Event) → IsRounds g k script log → Every IsApart es → IsRounds g k script (log ++ es)
apart_more g k script log es so apart =
    let no_more : total adds es ≡ 0 = apart_adds es apart in
    let more : commits_in g k (log ++ es) ≡ commits_in g k log + total adds es = commits_more g k log es in
    let same : commits_in g k log ≡ commits_in g k (log ++ es) = omega (arith, more, no_more) in
    filter_map-append scripted log es ∙ ap (λ later. filter_map scripted log ++ later) (apart_script es apart) ∙ append-nil (filter_map scripted log) ∙ so ∙ ap (λ n. flat_map (due_at script) (below (suc n))) same

pub counted_more : (i n : ℕ) → counted i (suc n) ≡ counted i n ++ (i + n) ∷ []
counted_more i zero = let e : i ≡ i + 0 = omega arith in ap (λ m. m ∷ []) e
counted_more i (suc n) = let e : suc i + n ≡ i + suc n = omega arith in ap (λ l. i ∷ l) (counted_more (suc i) n ∙ ap (λ m. counted (suc i) n ++ m ∷ []) e)

commit_adds : (g : TaskGraph) (k : SettingsForm) (script : List ScriptLine) (s : State) (a : ℕ) → (total adds (commit_hold g k script s a) ≡ 1) × (filter_map scripted (commit_hold g k script s a) ≡ due_at script (s.commits + 1))
commit_adds g k script s a = (omega (arith, none, first, rest), script_is)
  where
    t : State
    t = after g k s (Commit a)

    lines : List Event
    lines = fired g k t.commits script t

    u : State
    u = run_on g k t lines

    others : List Event
    others = drops g k u ++ finish_of g k (run_on g k u (drops g k u))

    apart : Every IsApart others
    apart = every_append IsApart (drops g k u) (finish_of g k (run_on g k u (drops g k u))) (every_drop IsApart g k u (λ b. record { adds = refl; script = refl }))
        (every_finish IsApart g k (run_on g k u (drops g k u)) (record { adds = refl; script = refl }))

    none : total adds others ≡ 0
    none = apart_adds others apart

    first : total adds lines ≡ 0
    first = fired_adds g k t.commits script t

    rest : total adds (lines ++ others) ≡ total adds lines + total adds others
    rest = total_append adds lines others

    script_is : filter_map scripted (lines ++ others) ≡ due_at script (s.commits + 1)
    script_is = filter_map-append scripted lines others ∙ ap (λ later. filter_map scripted lines ++ later) (apart_script others apart) ∙ append-nil (filter_map scripted lines) ∙ fired_actions g k t.commits script t

commit_more : (g : TaskGraph) (k : SettingsForm) (script : List ScriptLine) (log : List Event) (a : ℕ) → IsRounds g k script log → IsRounds g k script (log ++ commit_hold g k script (state_of g k log) a)
commit_more g k script log a so =
    let es = commit_hold g k script (state_of g k log) a in
    let c = commit_adds g k script (state_of g k log) a in
    let one : total adds es ≡ 1 = c.0 in
    let more : commits_in g k (log ++ es) ≡ commits_in g k log + total adds es = commits_more g k log es in
    let last : 0 + suc (commits_in g k log) ≡ commits_in g k log + 1 = omega arith in
    let same : suc (suc (commits_in g k log)) ≡ suc (commits_in g k (log ++ es)) = omega (arith, more, one) in
    filter_map-append scripted log es ∙ ap (λ later. filter_map scripted log ++ later) (c.1 ∙ sym (append-nil (due_at script (commits_in g k log + 1)))) ∙ ap (λ before. before ++ (due_at script (commits_in g k log + 1) ++ [])) so
    ∙ sym (flat_map-append (due_at script) (below (suc (commits_in g k log))) ((commits_in g k log + 1) ∷ []))
    ∙ ap (λ n. flat_map (due_at script) (below (suc (commits_in g k log)) ++ n ∷ [])) (sym last)
    ∙ ap (flat_map (due_at script)) (sym (counted_more 0 (suc (commits_in g k log))))
    ∙ ap (λ n. flat_map (due_at script) (below n)) same

pub rounds : (g : TaskGraph) (k : SettingsForm) (script : List ScriptLine) (log : List Event) → Holds g k script log → IsRounds g k script log
rounds g k script _ begins =
    let more : commits_in g k (fired g k 0 script (start g k)) ≡ 0 + total adds (fired g k 0 script (start g k)) = all_commits g k (fired g k 0 script (start g k)) (start g k) in
    let first : total adds (fired g k 0 script (start g k)) ≡ 0 = fired_adds g k 0 script (start g k) in
    let none : 1 ≡ suc (commits_in g k (fired g k 0 script (start g k))) = omega (arith, more, first) in
    fired_actions g k 0 script (start g k) ∙ sym (append-nil (due_at script 0)) ∙ ap (λ n. flat_map (due_at script) (below n)) none
rounds g k script _ (spends log t h least) = apart_more g k script log (Spent t ∷ []) (rounds g k script log h) (record { adds = refl; script = refl }, tt)
rounds g k script _ (launches log es h hold) = apart_more g k script log es (rounds g k script log h) (launch_apart g k (state_of g k log) es hold)
rounds g k script _ (commits log a h) = commit_more g k script log a (rounds g k script log h)
rounds g k script _ (gives_back log a h lost) = apart_more g k script log (GiveBack a ∷ []) (rounds g k script log h) (record { adds = refl; script = refl }, tt)
rounds g k script _ (faults log a v kind rec h) = apart_more g k script log (Fault a v kind rec ∷ []) (rounds g k script log h) (record { adds = refl; script = refl }, tt)
rounds g k script _ (starves log h) = apart_more g k script log (Starved ∷ []) (rounds g k script log h) (record { adds = refl; script = refl }, tt)
