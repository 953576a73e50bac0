-- What is computed again is what was lost: at the start, through each event, and along every legal log.
use Rattle.std.proofs.Common.{◌≡◌, ◌∙◌, ap, sym, refl, ℕ, zero, suc, ◌+◌, true, false, List, [], ◌∷◌, ◌++◌, length, map, replicate, slice_get, slice_index_or, not, Some, None}
use Rattle.std.proofs.lemmas.List.{length-append}
use Rattle.nemo_base.specs.Places.{any_at}
use Rattle.nemo_base.specs.declared.graph.TaskGraph.{TaskGraph}
use Rattle.nemo_base.specs.declared.id.TaskId.{TaskId}
use Rattle.nemo_base.specs.Settings.{SettingsForm}
use Rattle.nemo_ir.specs.Flat.{IsFlat}
use Rattle.nemo_ir.specs.Valid.{Valid}
use Rattle.nemo_core.specs.Kept.{IsKept}
use Rattle.nemo_core.specs.Run.{run_on}
use Rattle.nemo_core.specs.State.{State, blocks_read, holder, start}
use Rattle.nemo_core.specs.Step.{after, all_decided, is_open, is_sealed, refusal}
use Rattle.nemo_core.specs.declared.event.Event.{Event}
use Rattle.nemo_core.specs.declared.event.Event.TheVariants.{Launch, Commit, Repeat, GiveBack, Evict, Repartition, Ignored, Decide, Fault, Spent, Starved, Drop, Finish}
use Rattle.nemo_core.proofs.KeptBlocks.{none_held}
use Rattle.nemo_core.proofs.KeptTasks.{fresh_is}
use Rattle.nemo_core.proofs.Keeping.{kept_start, kept_step, states}
use Rattle.nemo_core.proofs.Launchable.{launch_only}
use Rattle.nemo_plan.specs.Form.{PlanForm, graph}
use Rattle.nemo_plan.specs.Wiring.{IsWired}
use Rattle.nemo_plan.proofs.Wires.{graph_wired}
use Rattle.nemo_laws.specs.Data.{Ran, cuts_at, cuts_in, launched_as, ran_from, with_attempt}
use Rattle.nemo_laws.specs.Legal.{IsHonest, LegalFrom}
use Rattle.nemo_laws.specs.Recomputation.{IsRight, IsRightOn, RecomputationLaw}
use Rattle.nemo_laws.proofs.CarriedParts.{Extends}
use Rattle.nemo_laws.proofs.Committing.{commit_step}
use Rattle.nemo_laws.proofs.Launching.{last_attempt, launch_step, more_attempts}
use Rattle.nemo_laws.proofs.Recuts.{decided_on, repartitioned}
use Rattle.nemo_laws.proofs.Stepping.{assigned, stepped}

---- the start

none_sealed : (n stage : ℕ) → slice_index_or (replicate n false) stage false ≡ true → ⊥
none_sealed zero stage h = cc
none_sealed (suc n) zero h = cc
none_sealed (suc n) (suc stage) h = none_sealed n stage h

right_start : (p : PlanForm) (g : TaskGraph) → IsWired p g → (k : SettingsForm) → IsRightOn p g [] (start g k)
right_start p g wired k =
    let kept = kept_start g k in
    record {
      count = refl;
      assignment = assigned p g wired k (start g k) kept.tables (kept.cuts wired.sound);
      held = λ v i h held. absurd (none_held g k v i h held);
      sealed = λ v i h row held there. absurd (none_held g k v i h held);
      reads = λ stage h. absurd (none_sealed (length g.stages) stage h);
      settled = λ stage h. absurd (none_sealed (length g.stages) stage h);
      running = λ t row a there runs. let clash : None ≡ Some a = sym (ap (λ r. r.running) (fresh_is g.stages t.stage t.index row there)) ∙ runs in cc;
      decided = λ a r h. cc;
    }

---- one event

module _ (p : PlanForm) (fine : IsFlat p.flat) (valid : Valid p.flat p.dag) (g : TaskGraph) (wired : IsWired p g) (k : SettingsForm) (taken : ℕ) (s : State) (ran : List Ran) (kept : IsKept g k taken s) (right : IsRightOn p g ran s) where
  -- an event that changes no cuts, and neither launches nor commits
  quiet : (e : Event) → refusal g k s e ≡ None → (after g k s e).sealed ≡ s.sealed → (after g k s e).cuts ≡ s.cuts → (after g k s e).launches ≡ s.launches → ((a : ℕ) → e ≡ Commit a → ⊥)
      → ((a : ℕ) (t : TaskId) (slot : ℕ) (reads : List ℕ) → e ≡ Launch a t slot reads → ⊥) → IsRightOn p g ran (after g k s e)
  quiet e none seals cuts launches no_commit no_launch =
      stepped p valid g wired k taken s ran kept right e ran none (record {
        carries = record { attempts = λ a r h. h; seals = λ stage h. same stage ∙ h; cuts = λ stage h v row there own u leads. agree u };
        count = right.count ∙ sym launches;
        makes = λ attempt v i h is m. absurd (no_commit attempt is);
        reads = λ stage h. right.reads stage (sym (same stage) ∙ h);
        settled = λ stage h. still stage (right.settled stage (sym (same stage) ∙ h));
        goes = λ t row old a there runs before was v at own is_own u leads. agree u;
        starts = λ t now a runs start. absurd (no_launch start.attempt start.task start.slot start.reads start.is);
        decided = λ a r h. still r.task.stage (right.decided a r h);
      })
    where
      same : (stage : ℕ) → is_sealed (after g k s e) stage ≡ is_sealed s stage
      same stage = ap (λ l. slice_index_or l stage false) seals

      agree : (u : ℕ) → cuts_at s u ≡ cuts_at (after g k s e) u
      agree u = ap (λ l. cuts_in (slice_get l u)) (sym cuts)

      still : (stage : ℕ) → all_decided g s stage ≡ true → all_decided g (after g k s e) stage ≡ true
      still stage h = ap (λ l. not (any_at (is_open l stage) 0 g.vertices)) cuts ∙ h

  right_step : (e : Event) → refusal g k s e ≡ None → IsHonest p k s ran e → IsRightOn p g (with_attempt p s ran e) (after g k s e)
  right_step (Launch attempt t slot reads) none honest =
      launch_step p fine valid g wired k taken s ran kept right attempt t slot reads (launched_as p ran s t slot) none
      (record { task = refl; reads = ap (λ x. blocks_read x s t) (sym wired.is); cuts = refl; gives = refl })
  right_step (Commit attempt) none honest = commit_step p valid g wired k taken s ran kept right attempt none honest
  right_step (Repeat attempt) none honest = quiet (Repeat attempt) none refl refl refl (λ a is. cc) (λ a t slot reads is. cc)
  right_step (GiveBack attempt) none honest = quiet (GiveBack attempt) none refl refl refl (λ a is. cc) (λ a t slot reads is. cc)
  right_step (Evict slot) none honest = quiet (Evict slot) none refl refl refl (λ a is. cc) (λ a t place reads is. cc)
  right_step (Repartition v cuts) none honest = repartitioned p valid g wired k taken s ran kept right v cuts none
  right_step (Ignored v cuts) none honest = quiet (Ignored v cuts) none refl refl refl (λ a is. cc) (λ a t slot reads is. cc)
  right_step (Decide v cuts) none honest = decided_on p valid g wired k taken s ran kept right v cuts none
  right_step (Fault attempt v kind rec) none honest = quiet (Fault attempt v kind rec) none refl refl refl (λ a is. cc) (λ a t slot reads is. cc)
  right_step (Spent task) none honest = quiet (Spent task) none refl refl refl (λ a is. cc) (λ a t slot reads is. cc)
  right_step Starved none honest = quiet Starved none refl refl refl (λ a is. cc) (λ a t slot reads is. cc)
  right_step (Drop block) none honest = quiet (Drop block) none refl refl refl (λ a is. cc) (λ a t slot reads is. cc)
  right_step Finish none honest = quiet Finish none refl refl refl (λ a is. cc) (λ a t slot reads is. cc)

---- a log

right_along : (p : PlanForm) (k : SettingsForm) → IsFlat p.flat → Valid p.flat p.dag → (log : List Event) (taken : ℕ) (s : State) (ran : List Ran) → IsKept (graph p) k taken s → IsRight p ran s → LegalFrom p k s ran log
    → IsRight p (ran_from p k s ran log) (run_on (graph p) k s log)
right_along p k fine valid [] taken s ran kept right legal = right
right_along p k fine valid (e ∷ es) taken s ran kept right legal =
    right_along p k fine valid es (taken + 1) (after (graph p) k s e) (with_attempt p s ran e) (kept_step (graph p) k taken s e legal.0 kept)
    (right_step p fine valid (graph p) (graph_wired p fine valid) k taken s ran kept right e legal.0 legal.1) legal.2

---- names

counted : (p : PlanForm) (g : TaskGraph) (k : SettingsForm) (s : State) (ran : List Ran) (e : Event) → length ran ≡ s.launches → length (with_attempt p s ran e) ≡ (after g k s e).launches
counted p g k s ran (Launch attempt t slot reads) same = length-append ran (launched_as p ran s t slot ∷ []) ∙ ap (λ n. n + 1) same
counted p g k s ran (Commit attempt) same = same
counted p g k s ran (Repeat attempt) same = same
counted p g k s ran (GiveBack attempt) same = same
counted p g k s ran (Evict slot) same = same
counted p g k s ran (Repartition v cuts) same = same
counted p g k s ran (Ignored v cuts) same = same
counted p g k s ran (Decide v cuts) same = same
counted p g k s ran (Fault attempt v kind rec) same = same
counted p g k s ran (Spent task) same = same
counted p g k s ran Starved same = same
counted p g k s ran (Drop block) same = same
counted p g k s ran Finish same = same

-- an attempt stays where it stands
still_there : (p : PlanForm) (s : State) (ran : List Ran) (e : Event) → Extends ran (with_attempt p s ran e)
still_there p s ran (Launch attempt t slot reads) a r h = more_attempts ran (launched_as p ran s t slot) a r h
still_there p s ran (Commit attempt) a r h = h
still_there p s ran (Repeat attempt) a r h = h
still_there p s ran (GiveBack attempt) a r h = h
still_there p s ran (Evict slot) a r h = h
still_there p s ran (Repartition v cuts) a r h = h
still_there p s ran (Ignored v cuts) a r h = h
still_there p s ran (Decide v cuts) a r h = h
still_there p s ran (Fault attempt v kind rec) a r h = h
still_there p s ran (Spent task) a r h = h
still_there p s ran Starved a r h = h
still_there p s ran (Drop block) a r h = h
still_there p s ran Finish a r h = h

pub stays_there : (p : PlanForm) (k : SettingsForm) (s : State) (ran : List Ran) (log : List Event) → Extends ran (ran_from p k s ran log)
stays_there p k s ran [] a r h = h
stays_there p k s ran (e ∷ es) a r h = stays_there p k (after (graph p) k s e) (with_attempt p s ran e) es a r (still_there p s ran e a r h)

named_along : (p : PlanForm) (k : SettingsForm) (s : State) (ran : List Ran) (before later : List Event) (a : ℕ) (t : TaskId) (slot : ℕ) (reads : List ℕ) → length ran ≡ s.launches
    → LegalFrom p k s ran (before ++ Launch a t slot reads ∷ later)
    → (a ≡ length (ran_from p k s ran before)) × (reads ≡ map holder (blocks_read (graph p) (run_on (graph p) k s before) t))
    × (slice_get (ran_from p k s ran (before ++ Launch a t slot reads ∷ later)) a ≡ Some (launched_as p (ran_from p k s ran before) (run_on (graph p) k s before) t slot))
named_along p k s ran [] later a t slot reads same legal =
    let names = (launch_only (graph p) k s a t slot reads legal.0).0 in
    let new = launched_as p ran s t slot in
    let number = names.number ∙ sym same in (
      number,
      names.names,
      stays_there p k (after (graph p) k s (Launch a t slot reads)) (ran ++ new ∷ []) later a new (ap (slice_get (ran ++ new ∷ [])) number ∙ last_attempt ran new),
    )
named_along p k s ran (e ∷ es) later a t slot reads same legal =
    named_along p k (after (graph p) k s e) (with_attempt p s ran e) es later a t slot reads (counted p (graph p) k s ran e same) legal.2

---- the law

pub recomputation : RecomputationLaw
recomputation = record {
  start = λ p k fine valid. right_start p (graph p) (graph_wired p fine valid) k;
  step = λ p k log s ran e fine valid has right none honest.
      right_step p fine valid (graph p) (graph_wired p fine valid) k (length log) s ran (states (graph p) k log s has) right e none honest;
  legal = λ p k log fine valid legal.
      right_along p k fine valid log 0 (start (graph p) k) [] (kept_start (graph p) k) (right_start p (graph p) (graph_wired p fine valid) k) legal;
  names = λ p k before later a t slot reads legal. named_along p k (start (graph p) k) [] before later a t slot reads refl legal;
}
