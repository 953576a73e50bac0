-- The lines that are due by a number of commits, and how many of them evict.
use Rattle.std.proofs.Common.{arith, ◌≡◌, ◌∙◌, ap, sym, refl, ℕ, zero, suc, ◌+◌, ◌<◌, ◌≤◌, ◌==◌, List, [], ◌∷◌, ◌++◌, map, true, false, cond, filter, ⊎_elim, ◌⊎◌, inl, inr}
use Rattle.std.specs.Prelude.{nat_le}
use Rattle.std.specs.List.{filter_map, flat_map}
use Rattle.std.proofs.lemmas.Bool.{cases_Bool, eqb-false, eqb-true, le-leb, leb-false, leb-true, lt-leb}
use Rattle.std.proofs.lemmas.List.{append-nil, map-append}
use Rattle.std.proofs.lemmas.Grind.{flat_map-append}
use Rattle.nemo_base.specs.Settings.{SettingsForm}
use Rattle.nemo_base.specs.Script.{IsScript, IsScriptFrom}
use Rattle.nemo_base.specs.declared.graph.TaskGraph.{TaskGraph}
use Rattle.nemo_base.specs.declared.script.ScriptLine.{ScriptLine}
use Rattle.nemo_ir.specs.Along.{below}
use Rattle.nemo_core.specs.declared.event.Event.{Event}
use Rattle.nemo_laws.specs.HoldLaws.{commits_in, due_at, scripted}
use Rattle.nemo_laws.specs.Holds.{Holds}
use Rattle.nemo_laws.proofs.Scripted.{counted_more, rounds}

---- lines in order

abbrev by_now : ℕ → List ScriptLine → List ScriptLine
by_now n script = filter (λ line. nat_le line.at n) script

abbrev just_now : ℕ → List ScriptLine → List ScriptLine
just_now n script = filter (λ line. line.at == n) script

none_by : (k : SettingsForm) (at n : ℕ) (lines : List ScriptLine) → IsScriptFrom k at lines → n < at → by_now n lines ≡ []
none_by k at n [] is less = refl
none_by k at n (line ∷ lines) is less =
    let low : at ≤ line.at = is.0 in
    ap (λ b. cond b (line ∷ by_now n lines) (by_now n lines)) (lt-leb line.at n (omega (arith, low, less))) ∙ none_by k line.at n lines is.2 (omega (arith, low, less))

-- the three tests of one line: due by the last number, due just now, due by now
by_next : (n at : ℕ) (line : ScriptLine) (more last now : List ScriptLine) → line.at ≡ at → (n < at → last ≡ []) → more ≡ last ++ now
    → cond (nat_le at (suc n)) (line ∷ more) more ≡ cond (nat_le at n) (line ∷ last) last ++ cond (at == suc n) (line ∷ now) now
by_next n at line more last now is none e = ⊎_elim early late (cases_Bool (nat_le at n))
  where
    early : nat_le at n ≡ true → cond (nat_le at (suc n)) (line ∷ more) more ≡ cond (nat_le at n) (line ∷ last) last ++ cond (at == suc n) (line ∷ now) now
    early low =
        let l : at ≤ n = leb-true at n low in
        let other : (at == suc n) ≡ false = ⊎_elim (λ yes_it. let s : at ≡ suc n = eqb-true at (suc n) yes_it in absurd (omega (arith, s, l))) (λ h. h) (cases_Bool (at == suc n)) in
        ap (λ b. cond b (line ∷ more) more) (le-leb at (suc n) (omega (arith, l))) ∙ ap (λ xs. line ∷ xs) e
        ∙ ap (λ b. cond b (line ∷ last) last ++ now) (sym low) ∙ ap (λ b. cond (nat_le at n) (line ∷ last) last ++ cond b (line ∷ now) now) (sym other)

    late : nat_le at n ≡ false → cond (nat_le at (suc n)) (line ∷ more) more ≡ cond (nat_le at n) (line ∷ last) last ++ cond (at == suc n) (line ∷ now) now
    late high =
        let h : n < at = ⊎_elim (λ l. l) (λ l. let t : nat_le at n ≡ true = le-leb at n l in absurd (differs (high_is t))) (split n at) in
        let empty : last ≡ [] = none h in
        let all : more ≡ now = e ∙ ap (λ l. l ++ now) empty in
        ap (λ b. cond b (line ∷ more) more) (same h) ∙ ap (λ m. cond (at == suc n) (line ∷ m) m) all ∙ ap (λ l. l ++ cond (at == suc n) (line ∷ now) now) (sym empty)
        ∙ ap (λ b. cond b (line ∷ last) last ++ cond (at == suc n) (line ∷ now) now) (sym high)
      where
        differs : true ≡ false → ⊥
        differs d = cc

        high_is : nat_le at n ≡ true → true ≡ false
        high_is t = sym t ∙ high

        split : (a b : ℕ) → (a < b) ⊎ (b ≤ a)
        split a b = ⊎_elim (λ h. inr (leb-true b a h)) (λ h. inl (leb-false b a h)) (cases_Bool (nat_le b a))

        same : n < at → nat_le at (suc n) ≡ (at == suc n)
        same less = ⊎_elim (λ is_it. let s : at ≡ suc n = eqb-true at (suc n) is_it in le-leb at (suc n) (omega (arith, s)) ∙ sym is_it)
            (λ not_it. let s : at ≡ suc n → ⊥ = eqb-false at (suc n) not_it in lt-leb at (suc n) (omega (arith, s, less)) ∙ sym not_it) (cases_Bool (at == suc n))

by_more : (k : SettingsForm) (at n : ℕ) (lines : List ScriptLine) → IsScriptFrom k at lines → by_now (suc n) lines ≡ by_now n lines ++ just_now (suc n) lines
by_more k at n [] is = refl
by_more k at n (line ∷ lines) is = by_next n line.at line (by_now (suc n) lines) (by_now n lines) (just_now (suc n) lines) refl (λ less. none_by k line.at n lines is.2 less) (by_more k line.at n lines is.2)

by_first : (lines : List ScriptLine) → just_now 0 lines ≡ by_now 0 lines
by_first [] = refl
by_first (line ∷ lines) = ap (λ b. cond b (line ∷ just_now 0 lines) (just_now 0 lines)) (zero_test line.at) ∙ ap (λ xs. cond (nat_le line.at 0) (line ∷ xs) xs) (by_first lines)
  where
    zero_test : (m : ℕ) → (m == 0) ≡ nat_le m 0
    zero_test m = ⊎_elim (λ t. let s : m ≡ 0 = eqb-true m 0 t in t ∙ sym (le-leb m 0 (omega (arith, s)))) (λ f. let s : m ≡ 0 → ⊥ = eqb-false m 0 f in f ∙ sym (lt-leb m 0 (omega (arith, s)))) (cases_Bool (m == 0))

in_order : (k : SettingsForm) (script : List ScriptLine) (n : ℕ) → IsScript k script → flat_map (due_at script) (below (suc n)) ≡ map (λ line. line.action) (by_now n script)
in_order k script zero is = append-nil (due_at script 0) ∙ ap (map (λ line. line.action)) (by_first script)
in_order k script (suc n) is =
    let last : 0 + suc n ≡ suc n = omega arith in
    ap (flat_map (due_at script)) (counted_more 0 (suc n)) ∙ flat_map-append (due_at script) (below (suc n)) ((0 + suc n) ∷ [])
    ∙ ap (λ m. flat_map (due_at script) (below (suc n)) ++ (due_at script m ++ [])) last
    ∙ ap (λ xs. flat_map (due_at script) (below (suc n)) ++ xs) (append-nil (due_at script (suc n)))
    ∙ ap (λ xs. xs ++ due_at script (suc n)) (in_order k script n is)
    ∙ sym (map-append (λ line. line.action) (by_now n script) (just_now (suc n) script))
    ∙ ap (map (λ line. line.action)) (sym (by_more k 0 n script is))

pub lines : (g : TaskGraph) (k : SettingsForm) (script : List ScriptLine) (log : List Event) → IsScript k script → Holds g k script log
    → filter_map scripted log ≡ map (λ line. line.action) (filter (λ line. nat_le line.at (commits_in g k log)) script)
lines g k script log is h = rounds g k script log h ∙ in_order k script (commits_in g k log) is
