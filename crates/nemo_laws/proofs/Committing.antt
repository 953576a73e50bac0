-- A commit: the blocks that it makes are parts, and the stage that it seals reads sealed stages alone.
use Rattle.std.proofs.Common.{◌≡◌, ◌∙◌, ap, sym, subst, refl, ℕ, zero, suc, ◌<◌, Bool, true, false, List, [], ◌∷◌, ◌++◌, length, map, slice_get, slice_index_or, Some, None, inl, inr}
use Rattle.std.specs.List.{list_any}
use Rattle.std.proofs.lemmas.Bool.{eqb-true, or_cases, or_left, or_right}
use Rattle.std.proofs.lemmas.Option.{get_or_from_slice_get, slice_get_within}
use Rattle.nemo_base.specs.Places.{item_at, map_at, passes, row_at}
use Rattle.nemo_base.specs.declared.graph.Home.{Home}
use Rattle.nemo_base.specs.declared.graph.Home.TheVariants.{Master, Pushed, Local}
use Rattle.nemo_base.specs.declared.graph.TaskGraph.{TaskGraph}
use Rattle.nemo_base.specs.declared.graph.VertexRow.{VertexRow}
use Rattle.nemo_base.specs.declared.id.TaskId.{TaskId}
use Rattle.nemo_base.specs.Settings.{SettingsForm}
use Rattle.nemo_base.proofs.Finding.{any_found, find, passing, same_item}
use Rattle.nemo_base.proofs.SoundGraphs.{vertex_sound}
use Rattle.nemo_value.specs.Members.{In}
use Rattle.nemo_transform.specs.Brought.{all_faults}
use Rattle.nemo_ir.specs.Part.{part}
use Rattle.nemo_ir.specs.Valid.{Valid}
use Rattle.nemo_ir.specs.Value.{ByNumber}
use Rattle.nemo_ir.proofs.Places.{got}
use Rattle.nemo_core.specs.Kept.{IsKept}
use Rattle.nemo_core.specs.State.{State, is_number, runs}
use Rattle.nemo_core.specs.Step.{after, all_decided, home_of, is_sealed, refusal, sealed_by}
use Rattle.nemo_core.specs.declared.event.Event.TheVariants.{Commit}
use Rattle.nemo_core.specs.declared.event.HeldBy.{HeldBy}
use Rattle.nemo_core.specs.declared.row.Attempt.{Attempt}
use Rattle.nemo_core.specs.declared.row.TaskRow.{TaskRow}
use Rattle.nemo_core.proofs.Blocks.{IsMade}
use Rattle.nemo_core.proofs.Changed.{at_back, get_map_at, on}
use Rattle.nemo_plan.specs.Form.{PlanForm}
use Rattle.nemo_plan.specs.Wiring.{IsWired}
use Rattle.nemo_plan.proofs.Memberships.{below_in}
use Rattle.nemo_laws.specs.Data.{Ran, cuts_at, given_by, gives_of}
use Rattle.nemo_laws.specs.Legal.{Faultless, all_vertices}
use Rattle.nemo_laws.specs.Recomputation.{IsRightOn, RunsRightly}
use Rattle.nemo_laws.proofs.Ancestry.{of_stage, vertex_there}
use Rattle.nemo_laws.proofs.Stepping.{IsSound, stepped}

---- faults

none_before : {X : Type 0} (xs ys : List X) → xs ++ ys ≡ [] → (xs ≡ []) × (ys ≡ [])
none_before [] ys h = (refl, h)
none_before (x ∷ xs) ys h = cc

pub none_of : (give : ℕ → ByNumber) (vs : List ℕ) (v : ℕ) → all_faults (map give vs) ≡ [] → In v vs → (give v).faults ≡ []
none_of give [] v h m = absurd m
none_of give (w ∷ ws) v h (inl e) = ap (λ x. (give x).faults) e ∙ (none_before (give w).faults (all_faults (map give ws)) h).0
none_of give (w ∷ ws) v h (inr m) = none_of give ws v (none_before (give w).faults (all_faults (map give ws)) h).1 m

---- seals

true_there : (xs : List Bool) (i : ℕ) → slice_index_or xs i false ≡ true → slice_get xs i ≡ Some true
true_there [] i h = cc
true_there (x ∷ xs) zero h = ap Some h
true_there (x ∷ xs) (suc i) h = true_there xs i h

-- a stage was sealed, or this attempt of a task of it seals it
data SealedBy (s : State) (attempt stage : ℕ) : Type 0 where
  before : is_sealed s stage ≡ true → SealedBy s attempt stage
  now : (i : ℕ) (row : TaskRow) (a : Attempt) → item_at s.tasks stage i ≡ Some row → row.running ≡ Some a → a.number ≡ attempt → SealedBy s attempt stage

module _ (g : TaskGraph) (k : SettingsForm) (s : State) (attempt : ℕ) where
  sealed_how : (stage : ℕ) → is_sealed (after g k s (Commit attempt)) stage ≡ true → SealedBy s attempt stage
  sealed_how stage h =
      let w = at_back (sealed_by s.tasks attempt) s.sealed stage true (true_there (map_at (sealed_by s.tasks attempt) 0 s.sealed) stage h) in
      elim (or_cases w.item (list_any (runs attempt) (row_at s.tasks stage)) (sym w.is)) [
        | inl yet ↦ before (get_or_from_slice_get s.sealed stage w.item false w.there ∙ yet)
        | inr new ↦
            let f = find (runs attempt) (row_at s.tasks stage) new in
            let a = passing (is_number attempt) f.item.running f.ok in
            now f.place f.item a.item f.there a.there (eqb-true a.item.number attempt a.ok)
      ]

  sealed_again : (stage : ℕ) → stage < length s.sealed → (is_sealed s stage ≡ true → is_sealed (after g k s (Commit attempt)) stage ≡ true)
      × (list_any (runs attempt) (row_at s.tasks stage) ≡ true → is_sealed (after g k s (Commit attempt)) stage ≡ true)
  sealed_again stage less =
      let b = got s.sealed stage less in
      let is = get_or_from_slice_get (map_at (sealed_by s.tasks attempt) 0 s.sealed) stage (sealed_by s.tasks attempt stage b.0) false
      (get_map_at (sealed_by s.tasks attempt) s.sealed stage ∙ ap (on (sealed_by s.tasks attempt stage)) b.1) in (
        λ h. is ∙ or_left b.0 (list_any (runs attempt) (row_at s.tasks stage)) (sym (get_or_from_slice_get s.sealed stage b.0 false b.1) ∙ h),
        λ h. is ∙ or_right b.0 (list_any (runs attempt) (row_at s.tasks stage)) h,
      )

home_attempt : (k : SettingsForm) (incs : List ℕ) (attempt i : ℕ) (home : Home) (a : Attempt) → (home_of k incs attempt i home a).attempt ≡ attempt
home_attempt k incs attempt i Master a = refl
home_attempt k incs attempt i Pushed a = refl
home_attempt k incs attempt i Local a = refl

abbrev task : ℕ → ℕ → TaskId
task stage i = record { stage = stage; index = i }

module _ (p : PlanForm) (valid : Valid p.flat p.dag) (g : TaskGraph) (wired : IsWired p g) (k : SettingsForm) (taken : ℕ) (s : State) (ran : List Ran) (kept : IsKept g k taken s) (right : IsRightOn p g ran s) where
  -- what is true of a sealed stage, and of one where an attempt runs, is true of each that is sealed now
  of_sealed : (attempt : ℕ) (P : ℕ → Type 0) → ((stage : ℕ) → is_sealed s stage ≡ true → P stage) → ((t : TaskId) (a : ℕ) → RunsRightly p g ran s t a → P t.stage)
      → (stage : ℕ) → is_sealed (after g k s (Commit attempt)) stage ≡ true → P stage
  of_sealed attempt P old new stage h = elim (sealed_how g k s attempt stage h) [
    | before yet ↦ old stage yet
    | now i row a there running number ↦ new (task stage i) a.number (right.running (task stage i) row a there running)
  ]

  made_right : (attempt v i : ℕ) (h : HeldBy) → Faultless p (given_by ran attempt) → IsMade g k s attempt v i h → IsSound p g ran (after g k s (Commit attempt)) v i h
  made_right attempt v i h honest m =
      let r = right.running (task m.row.stage i) m.task m.own m.there m.running in
      let number : m.own.number ≡ attempt = eqb-true m.own.number attempt m.number in
      let by : h.attempt ≡ attempt = ap (λ x. x.attempt) m.is ∙ home_attempt k s.incs attempt i m.row.home m.own in
      let own : h.attempt ≡ m.own.number = by ∙ sym number in
      let gave : given_by ran h.attempt v ≡ part p.flat p.dag (cuts_at s) v i
      = ap (λ n. given_by ran n v) own ∙ ap (λ o. gives_of o v) r.number ∙ r.gives v (of_stage p g wired m.row.stage v m.row m.named refl) in
      let u = vertex_there p g wired v m.row m.named in
      let inside = below_in (length p.dag.vertices) v (slice_get_within p.dag.vertices v u.0 u.1) in
      let none = none_of (given_by ran attempt) (all_vertices p) v honest inside in
      record {
        part = record {
          launched = subst (λ n. n < length ran) (sym own) (slice_get_within ran m.own.number r.launch r.number);
          is = gave;
          faultless = ap (λ x. x.faults) (sym gave ∙ ap (λ n. given_by ran n v) by) ∙ none;
        };
        sealed = λ row there. sealed (same_item row m.row (sym there ∙ m.named));
      }
    where
      sealed : {row : VertexRow} → row ≡ m.row → is_sealed (after g k s (Commit attempt)) row.stage ≡ true
      sealed same =
          let stage = vertex_sound g v m.row wired.sound m.named in
          let less : m.row.stage < length g.stages = slice_get_within g.stages m.row.stage stage.stage stage.made_by in
          let inside : m.row.stage < length s.sealed = subst (λ n. m.row.stage < n) (sym kept.tables.sealed) less in
          let run = any_found (runs attempt) (row_at s.tasks m.row.stage) i m.task m.there (ap (passes (is_number attempt)) m.running ∙ m.number) in
          ap (λ r. is_sealed (after g k s (Commit attempt)) r.stage) same ∙ (sealed_again g k s attempt m.row.stage inside).1 run

  pub commit_step : (attempt : ℕ) → refusal g k s (Commit attempt) ≡ None → Faultless p (given_by ran attempt) → IsRightOn p g ran (after g k s (Commit attempt))
  commit_step attempt none honest =
      stepped p valid g wired k taken s ran kept right (Commit attempt) ran none (record {
        carries = record { attempts = λ a r h. h; seals = still; cuts = λ stage h v row there own u leads. refl };
        count = right.count;
        makes = λ a v i h is m. made_right attempt v i h honest (subst (λ n. IsMade g k s n v i h) (let same : a ≡ attempt = cc in same) m);
        reads = of_sealed attempt (λ stage. _) right.reads (λ t a r. r.sealed);
        settled = of_sealed attempt (λ stage. all_decided g s stage ≡ true) right.settled (λ t a r. ap (λ x. all_decided g s x.stage) (sym r.task) ∙ right.decided a r.launch r.number);
        goes = λ u row old a there runs before was v at own is_own w leads. refl;
        starts = λ u now a runs start. (let clash = start.is in cc);
        decided = right.decided;
      })
    where
      still : (stage : ℕ) → is_sealed s stage ≡ true → is_sealed (after g k s (Commit attempt)) stage ≡ true
      still stage h = (sealed_again g k s attempt stage (slice_get_within s.sealed stage true (true_there s.sealed stage h))).0 h
