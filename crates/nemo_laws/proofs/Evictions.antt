-- No task loses more often than lines evict.
use Rattle.std.proofs.Common.{arith, ◌≡◌, ◌∙◌, ap, sym, refl, ℕ, zero, suc, ◌+◌, ◌<◌, ◌≤◌, ◌==◌, List, [], ◌∷◌, ◌++◌, map, length, Bool, true, false, cond, filter, Some, ⊎_elim, nat_lt}
use Rattle.std.specs.List.{cons_option, filter_map, flat_map}
use Rattle.std.proofs.lemmas.Bool.{cases_Bool, eqb-false, eqb-true, lt-ltb, le-ltb, ltb-true, ltb-false}
use Rattle.nemo_base.specs.Settings.{SettingsForm}
use Rattle.nemo_base.specs.Places.{passes}
use Rattle.nemo_base.specs.declared.graph.TaskGraph.{TaskGraph}
use Rattle.nemo_base.specs.declared.id.TaskId.{TaskId}
use Rattle.nemo_base.specs.declared.script.Action.{Action}
use Rattle.nemo_base.specs.declared.script.Action.TheVariants.{Evict as EvictLine, Repartition as RepartitionLine}
use Rattle.nemo_base.specs.declared.script.ScriptLine.{ScriptLine}
use Rattle.nemo_ir.specs.Along.{below}
use Rattle.nemo_core.specs.Kept.{total}
use Rattle.nemo_core.specs.Run.{loses, losses_from}
use Rattle.nemo_core.specs.State.{State, start, task_at}
use Rattle.nemo_core.specs.Step.{after, is_touched}
use Rattle.nemo_core.specs.declared.event.Event.{Event}
use Rattle.nemo_core.specs.declared.event.Event.TheVariants.{Launch, Commit, Repeat, GiveBack, Evict, Repartition, Ignored, Decide, Fault, Spent, Starved, Drop, Finish}
use Rattle.nemo_core.specs.declared.row.TaskRow.{TaskRow}
use Rattle.nemo_plan.specs.Form.{PlanForm, graph}
use Rattle.nemo_laws.specs.Data.{state_of}
use Rattle.nemo_laws.specs.HoldLaws.{commits_in, due_at, is_evict_line, scripted}
use Rattle.nemo_laws.specs.Holds.{Holds}
use Rattle.nemo_laws.specs.Legal.{Legal}
use Rattle.nemo_laws.proofs.Every.{total_append}
use Rattle.nemo_laws.proofs.Logs.{legal_state}
use Rattle.nemo_laws.proofs.LossesKept.{losses_kept}
use Rattle.nemo_laws.proofs.Scripted.{counted_more, rounds}
use Rattle.std.proofs.lemmas.Grind.{flat_map-append}

abbrev evicts : Action → ℕ
evicts (EvictLine slot) = 1
evicts (RepartitionLine v cuts) = 0

at_most_one : (b : Bool) → cond b 1 0 ≤ 1
at_most_one true = omega arith
at_most_one false = omega arith

one_loss : (g : TaskGraph) (s : State) (t : TaskId) (e : Event) (later : List Action) → loses g s t e + total evicts later ≤ total evicts (cons_option (scripted e) later)
one_loss g s t (Evict slot) later = let few : cond (passes (is_touched g s slot t.stage t.index) (task_at s t)) 1 0 ≤ 1 = at_most_one (passes (is_touched g s slot t.stage t.index) (task_at s t)) in omega (arith, few)
one_loss g s t (Launch a u slot reads) later = omega arith
one_loss g s t (Commit a) later = omega arith
one_loss g s t (Repeat a) later = omega arith
one_loss g s t (GiveBack a) later = omega arith
one_loss g s t (Repartition v cuts) later = omega arith
one_loss g s t (Ignored v cuts) later = omega arith
one_loss g s t (Decide v cuts) later = omega arith
one_loss g s t (Fault a v kind rec) later = omega arith
one_loss g s t (Spent u) later = omega arith
one_loss g s t Starved later = omega arith
one_loss g s t (Drop b) later = omega arith
one_loss g s t Finish later = omega arith

few_losses : (g : TaskGraph) (k : SettingsForm) (s : State) (t : TaskId) (es : List Event) → losses_from g k s t es ≤ total evicts (filter_map scripted es)
few_losses g k s t [] = omega arith
few_losses g k s t (e ∷ es) =
    let later : losses_from g k (after g k s e) t es ≤ total evicts (filter_map scripted es) = few_losses g k (after g k s e) t es in
    let here : loses g s t e + total evicts (filter_map scripted es) ≤ total evicts (cons_option (scripted e) (filter_map scripted es)) = one_loss g s t e (filter_map scripted es) in
    omega (arith, later, here)

-- the evictions of the lines that are due before n commits
abbrev early : ℕ → List ScriptLine → ℕ
early n lines = total (λ line. cond (nat_lt line.at n) (evicts line.action) 0) lines

early_test : (at n e : ℕ) (acts : List Action) (a : Action) → e ≡ evicts a → cond (nat_lt at (suc n)) e 0 + total evicts acts ≡ cond (nat_lt at n) e 0 + total evicts (cond (at == n) (a ∷ acts) acts)
early_test at n e acts a is = ⊎_elim
    (λ here. let s : at ≡ n = eqb-true at n here in
    ap (λ b. cond b e 0 + total evicts acts) (lt-ltb at (suc n) (omega (arith, s)))
    ∙ ap (λ m. m + total evicts acts) is ∙ no_more (total evicts (a ∷ acts))
    ∙ ap (λ b. cond b e 0 + total evicts (a ∷ acts)) (sym (le-ltb at n (omega (arith, s))))
    ∙ ap (λ b. cond (nat_lt at n) e 0 + total evicts (cond b (a ∷ acts) acts)) (sym here))
    (λ other. let s : at ≡ n → ⊥ = eqb-false at n other in
    ap (λ b. cond b e 0 + total evicts acts) (⊎_elim
    (λ less. let l : at < suc n = ltb-true at (suc n) less in less ∙ sym (lt-ltb at n (omega (arith, l, s))))
    (λ more. let l : suc n ≤ at = ltb-false at (suc n) more in more ∙ sym (le-ltb at n (omega (arith, l)))) (cases_Bool (nat_lt at (suc n))))
    ∙ ap (λ b. cond (nat_lt at n) e 0 + total evicts (cond b (a ∷ acts) acts)) (sym other))
    (cases_Bool (at == n))
  where
    no_more : (m : ℕ) → m ≡ 0 + m
    no_more m = omega arith

mapped : (b : Bool) (line : ScriptLine) (lines : List ScriptLine) → map (λ l. l.action) (cond b (line ∷ lines) lines) ≡ cond b (line.action ∷ map (λ l. l.action) lines) (map (λ l. l.action) lines)
mapped true line lines = refl
mapped false line lines = refl

early_more : (n : ℕ) (lines : List ScriptLine) → early (suc n) lines ≡ early n lines + total evicts (due_at lines n)
early_more n [] = omega arith
early_more n (line ∷ lines) =
    let later : early (suc n) lines ≡ early n lines + total evicts (due_at lines n) = early_more n lines in
    let here : cond (nat_lt line.at (suc n)) (evicts line.action) 0 + total evicts (due_at lines n)
    ≡ cond (nat_lt line.at n) (evicts line.action) 0 + total evicts (map (λ l. l.action) (cond (line.at == n) (line ∷ filter (λ l. l.at == n) lines) (filter (λ l. l.at == n) lines))) =
    early_test line.at n (evicts line.action) (due_at lines n) line.action refl ∙ ap (λ acts. cond (nat_lt line.at n) (evicts line.action) 0 + total evicts acts) (sym (mapped (line.at == n) line (filter (λ l. l.at == n) lines))) in
    omega (arith, later, here)

early_none : (lines : List ScriptLine) → early 0 lines ≡ 0
early_none [] = refl
early_none (line ∷ lines) =
    let later : early 0 lines ≡ 0 = early_none lines in
    let here : cond (nat_lt line.at 0) (evicts line.action) 0 ≡ 0 = ap (λ b. cond b (evicts line.action) 0) (le-ltb line.at 0 (omega arith)) in
    omega (arith, later, here)

all_due : (script : List ScriptLine) (n : ℕ) → total evicts (flat_map (due_at script) (below n)) ≡ early n script
all_due script zero = sym (early_none script)
all_due script (suc n) =
    let so : total evicts (flat_map (due_at script) (below n)) ≡ early n script = all_due script n in
    let more : early (suc n) script ≡ early n script + total evicts (due_at script n) = early_more n script in
    let parts : total evicts (flat_map (due_at script) (below (suc n))) ≡ total evicts (flat_map (due_at script) (below n)) + total evicts (due_at script (0 + n) ++ []) =
    ap (λ l. total evicts (flat_map (due_at script) l)) (counted_more 0 n) ∙ ap (total evicts) (flat_map-append (due_at script) (below n) ((0 + n) ∷ [])) ∙ total_append evicts (flat_map (due_at script) (below n)) (due_at script (0 + n) ++ []) in
    let last : total evicts (due_at script (0 + n) ++ []) ≡ total evicts (due_at script (0 + n)) + total evicts [] = total_append evicts (due_at script (0 + n)) [] in
    let none : 0 + n ≡ n = omega arith in
    let own : total evicts (due_at script (0 + n)) ≡ total evicts (due_at script n) = ap (λ m. total evicts (due_at script m)) none in
    omega (arith, so, more, parts, last, own)

zero_both : (b : Bool) → cond b 0 0 ≡ zero
zero_both true = refl
zero_both false = refl

evict_counts : (line : ScriptLine) (a : Action) (b : Bool) (lines : List ScriptLine) → is_evict_line line ≡ is_evict_line (record { at = 0; action = a }) → cond b (evicts a) 0 + length lines ≤ length (cond (is_evict_line line) (line ∷ lines) lines)
evict_counts line (EvictLine slot) b lines is =
    let few : cond b 1 0 ≤ 1 = at_most_one b in
    let long : suc (length lines) ≡ length (cond (is_evict_line line) (line ∷ lines) lines) = ap (λ x. length (cond x (line ∷ lines) lines)) (sym is) in
    omega (arith, few, long)
evict_counts line (RepartitionLine v cuts) b lines is =
    let none : cond b 0 0 ≡ zero = zero_both b in
    let long : length lines ≡ length (cond (is_evict_line line) (line ∷ lines) lines) = ap (λ x. length (cond x (line ∷ lines) lines)) (sym is) in
    omega (arith, none, long)

early_few : (n : ℕ) (lines : List ScriptLine) → early n lines ≤ length (filter is_evict_line lines)
early_few n [] = omega arith
early_few n (line ∷ lines) =
    let later : early n lines ≤ length (filter is_evict_line lines) = early_few n lines in
    let here : cond (nat_lt line.at n) (evicts line.action) 0 + length (filter is_evict_line lines) ≤ length (cond (is_evict_line line) (line ∷ filter is_evict_line lines) (filter is_evict_line lines)) =
    evict_counts line line.action (nat_lt line.at n) (filter is_evict_line lines) refl in
    omega (arith, later, here)

pub losses_few : (p : PlanForm) (k : SettingsForm) (script : List ScriptLine) (log : List Event) (t : TaskId) (row : TaskRow) → length (filter is_evict_line script) < k.loss_bound
    → Legal p k log → Holds (graph p) k script log → task_at (state_of (graph p) k log) t ≡ Some row → row.losses < k.loss_bound
losses_few p k script log t row few legal h there =
    let own : row.losses ≡ losses_from (graph p) k (start (graph p) k) t log = losses_kept (graph p) k log (state_of (graph p) k log) t row (legal_state p k log legal) there in
    let along : losses_from (graph p) k (start (graph p) k) t log ≤ total evicts (filter_map scripted log) = few_losses (graph p) k (start (graph p) k) t log in
    let due : total evicts (filter_map scripted log) ≡ early (suc (commits_in (graph p) k log)) script = ap (total evicts) (rounds (graph p) k script log h) ∙ all_due script (suc (commits_in (graph p) k log)) in
    let most : early (suc (commits_in (graph p) k log)) script ≤ length (filter is_evict_line script) = early_few (suc (commits_in (graph p) k log)) script in
    omega (arith, own, along, due, most, few)
