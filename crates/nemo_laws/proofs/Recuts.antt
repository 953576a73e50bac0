-- A change of the cuts of one vertex leaves what doesn't stand on them.
use Rattle.std.proofs.Common.{◌≡◌, ◌∙◌, ap, sym, refl, ℕ, ◌==◌, not, Bool, true, false, cond, List, [], slice_get, slice_index_or, if◌then◌else◌, Option, Some, None, inl, inr}
use Rattle.std.proofs.lemmas.Bool.{both_ways, cases_Bool, eq-eqb, eqb-true, not-true}
use Rattle.nemo_base.specs.Places.{map_at, passes, row_at}
use Rattle.nemo_base.specs.declared.graph.TaskGraph.{TaskGraph}
use Rattle.nemo_base.specs.declared.graph.VertexRow.{VertexRow}
use Rattle.nemo_base.specs.declared.id.TaskId.{TaskId}
use Rattle.nemo_base.specs.Settings.{SettingsForm}
use Rattle.nemo_base.proofs.Finding.{passes_at, passing, same_item}
use Rattle.nemo_ir.specs.Valid.{Valid}
use Rattle.nemo_core.specs.Kept.{IsKept}
use Rattle.nemo_core.specs.State.{State, task_at}
use Rattle.nemo_core.specs.Step.{after, all_decided, conditions, decided, idle, is_sealed, is_skewed, is_stage_of, recut, refusal}
use Rattle.nemo_core.specs.declared.event.Event.{Event}
use Rattle.nemo_core.specs.declared.event.Event.TheVariants.{Commit, Decide, Launch, Repartition}
use Rattle.nemo_core.specs.declared.row.Attempt.{Attempt}
use Rattle.nemo_core.specs.declared.row.CutsRow.{CutsRow}
use Rattle.nemo_core.specs.declared.row.TaskRow.{TaskRow}
use Rattle.nemo_core.proofs.Allowed.{are_met}
use Rattle.nemo_core.proofs.Changed.{get_map_at, item_row, map_back, on}
use Rattle.nemo_core.proofs.TaskRows.{idle_if}
use Rattle.nemo_plan.specs.Form.{PlanForm}
use Rattle.nemo_plan.specs.Wiring.{IsWired}
use Rattle.nemo_laws.specs.Data.{Ran, cuts_at, cuts_in}
use Rattle.nemo_laws.specs.Recomputation.{AreReadsSealed, IsRightOn}
use Rattle.nemo_laws.proofs.Ancestry.{AreClosed, Stands, ancestor}
use Rattle.nemo_laws.proofs.CarriedParts.{AgreeOn}
use Rattle.nemo_laws.proofs.Deciding.{DecidedStays, decided_still, not_of_decided}
use Rattle.nemo_laws.proofs.Stepping.{stepped}

-- the cuts of one vertex are others, and no row of another vertex changes
pub record IsRecut (s t : State) (w : ℕ) : Type 0 where
  pub make : ℕ → CutsRow → CutsRow
  pub is : t.cuts ≡ map_at make 0 s.cuts
  pub other : (v : ℕ) (row : CutsRow) → (v == w) ≡ false → make v row ≡ row
  pub decided : (v : ℕ) (row : CutsRow) → row.decided ≡ true → (make v row).decided ≡ true

same_else : (make : ℕ → CutsRow → CutsRow) (v : ℕ) → ((row : CutsRow) → make v row ≡ row) → (o : Option CutsRow) → cuts_in o ≡ cuts_in (on (make v) o)
same_else make v same (Some row) = sym (ap (λ r. r.cuts) (same row))
same_else make v same None = refl

still_decided : (make : CutsRow → CutsRow) → ((row : CutsRow) → row.decided ≡ true → (make row).decided ≡ true) → (o : Option CutsRow) → passes (λ row. row.decided) o ≡ true → passes (λ row. row.decided) (on make o) ≡ true
still_decided make keeps (Some row) h = keeps row h
still_decided make keeps None h = cc

module _ (s t : State) (w : ℕ) (c : IsRecut s t w) where
  cuts_else : (v : ℕ) → (v == w) ≡ false → cuts_at s v ≡ cuts_at t v
  cuts_else v differs =
      same_else c.make v (λ row. c.other v row differs) (slice_get s.cuts v)
      ∙ ap cuts_in (sym (get_map_at c.make s.cuts v) ∙ sym (ap (λ rows. slice_get rows v) c.is))

  pub recut_decided : DecidedStays s t
  recut_decided v h =
      ap (passes (λ row. row.decided)) (ap (λ rows. slice_get rows v) c.is ∙ get_map_at c.make s.cuts v)
      ∙ still_decided (c.make v) (λ row. c.decided v row) (slice_get s.cuts v) h

  -- no vertex of the stage stands on a vertex that is neither of it nor of a sealed stage
  module _ (p : PlanForm) (g : TaskGraph) (wired : IsWired p g) (closed : AreClosed g s) (row : VertexRow) (there : slice_get g.vertices w ≡ Some row) (unsealed : is_sealed s row.stage ≡ true → ⊥) where
    pub recut_agrees : (stage : ℕ) → (row.stage ≡ stage → ⊥) → AreReadsSealed g s stage → AgreeOn p g s t stage
    recut_agrees stage differs reads v own at is u leads = elim (cases_Bool (u == w)) [
      | inl same ↦ absurd (go (ancestor p g wired s closed stage u v reads own at is leads) (eqb-true u w same))
      | inr other ↦ cuts_else u other
    ]
      where
        go : (stands : Stands g s stage u) → u ≡ w → ⊥
        go stands same =
            let is_row : stands.row.stage ≡ row.stage = ap (λ r. r.stage) (same_item stands.row row (sym stands.there ∙ ap (slice_get g.vertices) same ∙ there)) in
            elim stands.either [ inl own ↦ differs (sym is_row ∙ own) | inr sealed ↦ unsealed (ap (is_sealed s) (sym is_row) ∙ sealed) ]

    pub recut_sealed : (stage : ℕ) → is_sealed s stage ≡ true → AgreeOn p g s t stage
    recut_sealed stage sealed = recut_agrees stage (λ same. unsealed (ap (is_sealed s) same ∙ sealed)) (closed stage sealed)

recut_is : (w : ℕ) (cuts : List ℕ) (v : ℕ) (row : CutsRow) → (v == w) ≡ false → recut w cuts v row ≡ row
recut_is w cuts v row differs = ap (λ b. if b then (record { cuts = cuts; decided = row.decided }) else row) differs

recut_keeps : (w : ℕ) (cuts : List ℕ) (v : ℕ) (row : CutsRow) → row.decided ≡ true → (recut w cuts v row).decided ≡ true
recut_keeps w cuts v row h = go (v == w)
  where
    go : (b : Bool) → (cond b (record { cuts = cuts; decided = row.decided }) row).decided ≡ true
    go true = h
    go false = h

decided_is : (w : ℕ) (cuts : List ℕ) (v : ℕ) (row : CutsRow) → (v == w) ≡ false → decided w cuts v row ≡ row
decided_is w cuts v row differs = ap (λ b. if b then (record { cuts = cuts; decided = true }) else row) differs

decided_keeps : (w : ℕ) (cuts : List ℕ) (v : ℕ) (row : CutsRow) → row.decided ≡ true → (decided w cuts v row).decided ≡ true
decided_keeps w cuts v row h = go (v == w)
  where
    go : (b : Bool) → (cond b (record { cuts = cuts; decided = true }) row).decided ≡ true
    go true = refl
    go false = h

-- a task that runs on wasn't ended
idle_none : (b : Bool) → idle_if b [] ≡ []
idle_none true = refl
idle_none false = refl

none_runs : (b : Bool) (rows : List TaskRow) (i : ℕ) (row : TaskRow) (a : Attempt) → slice_get (idle_if b rows) i ≡ Some row → row.running ≡ Some a → b ≡ true → ⊥
none_runs true rows i row a there running h =
    let w = map_back idle rows i row there in
    let clash : None ≡ Some a = sym (ap (λ r. r.running) w.is) ∙ running in cc
none_runs false rows i row a there running h = cc

runs_else : (g : TaskGraph) (k : SettingsForm) (s : State) (w : ℕ) (cuts : List ℕ) (t : TaskId) (row : TaskRow) (a : Attempt) → task_at (after g k s (Repartition w cuts)) t ≡ Some row → row.running ≡ Some a
    → is_stage_of g w t.stage ≡ true → ⊥
runs_else g k s w cuts t row a there running =
    none_runs (is_stage_of g w t.stage) (row_at s.tasks t.stage) t.index row a
    (sym (item_row (λ n rows. idle_if (is_stage_of g w n) rows) s.tasks t.stage t.index (λ n. idle_none (is_stage_of g w n))) ∙ there) running

module _ (p : PlanForm) (valid : Valid p.flat p.dag) (g : TaskGraph) (wired : IsWired p g) (k : SettingsForm) (taken : ℕ) (s : State) (ran : List Ran) (kept : IsKept g k taken s) (right : IsRightOn p g ran s) where
  -- an event that changes the cuts of a vertex of an unsealed stage, in which no attempt runs on
  recut_step : (e : Event) (w : ℕ) (row : VertexRow) → refusal g k s e ≡ None → IsRecut s (after g k s e) w → slice_get g.vertices w ≡ Some row → (is_sealed s row.stage ≡ true → ⊥)
      → (after g k s e).sealed ≡ s.sealed → (after g k s e).launches ≡ s.launches → ((a : ℕ) → e ≡ Commit a → ⊥) → ((a : ℕ) (t : TaskId) (slot : ℕ) (reads : List ℕ) → e ≡ Launch a t slot reads → ⊥)
      → ((t : TaskId) (now old : TaskRow) (a : Attempt) → task_at (after g k s e) t ≡ Some now → now.running ≡ Some a → task_at s t ≡ Some old → old.running ≡ Some a → row.stage ≡ t.stage → ⊥)
      → IsRightOn p g ran (after g k s e)
  recut_step e w row none c there unsealed seals launches no_commit no_launch ends =
      stepped p valid g wired k taken s ran kept right e ran none (record {
        carries = record { attempts = λ a r h. h; seals = λ stage h. same stage ∙ h; cuts = recut_sealed s (after g k s e) w c p g wired right.reads row there unsealed };
        count = right.count ∙ sym launches;
        makes = λ attempt v i h is m. absurd (no_commit attempt is);
        reads = λ stage h. right.reads stage (sym (same stage) ∙ h);
        settled = λ stage h. decided_still g s (after g k s e) (recut_decided s (after g k s e) w c) stage (right.settled stage (sym (same stage) ∙ h));
        goes = λ t now old a now_there now_runs was_there was.
            recut_agrees s (after g k s e) w c p g wired right.reads row there unsealed t.stage (ends t now old a now_there now_runs was_there was) (right.running t old a was_there was).sealed;
        starts = λ t new a is start. absurd (no_launch start.attempt start.task start.slot start.reads start.is);
        decided = λ a r h. decided_still g s (after g k s e) (recut_decided s (after g k s e) w c) r.task.stage (right.decided a r h);
      })
    where
      same : (stage : ℕ) → is_sealed (after g k s e) stage ≡ is_sealed s stage
      same stage = ap (λ l. slice_index_or l stage false) seals

  pub repartitioned : (w : ℕ) (cuts : List ℕ) → refusal g k s (Repartition w cuts) ≡ None → IsRightOn p g ran (after g k s (Repartition w cuts))
  repartitioned w cuts none =
      let met = are_met (conditions g k s (Repartition w cuts)) none in
      let v = passing (λ row. not (is_sealed s row.stage)) (slice_get g.vertices w) met.1.1.1.1.0 in
      recut_step (Repartition w cuts) w v.item none (record { make = recut w cuts; is = refl; other = recut_is w cuts; decided = recut_keeps w cuts }) v.there
      (both_ways (is_sealed s v.item.stage) (not-true (is_sealed s v.item.stage) v.ok)) refl refl (λ a is. cc) (λ a t slot reads is. cc)
      (λ t now old a there runs was_there was own. runs_else g k s w cuts t now a there runs (passes_at (λ row. row.stage == t.stage) (slice_get g.vertices w) v.item v.there (eq-eqb v.item.stage t.stage own)))

  pub decided_on : (w : ℕ) (cuts : List ℕ) → refusal g k s (Decide w cuts) ≡ None → IsRightOn p g ran (after g k s (Decide w cuts))
  decided_on w cuts none =
      let met = are_met (conditions g k s (Decide w cuts)) none in
      let v = passing is_skewed (slice_get g.vertices w) met.1.1.0 in
      let undecided = not_of_decided g s w v.item v.there v.ok met.1.1.1.0 in
      recut_step (Decide w cuts) w v.item none (record { make = decided w cuts; is = refl; other = decided_is w cuts; decided = decided_keeps w cuts }) v.there
      (λ sealed. undecided (right.settled v.item.stage sealed)) refl refl (λ a is. cc) (λ a t slot reads is. cc)
      (λ t now old a there runs was_there was own.
      let r = right.running t old a was_there was in
      let all = right.decided a.number r.launch r.number in
      undecided (ap (all_decided g s) (own ∙ ap (λ x. x.stage) (sym r.task)) ∙ all))
