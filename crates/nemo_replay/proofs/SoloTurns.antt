-- The log of a run of a one-stage plan is that of a run on one thread.
use Rattle.std.proofs.Common.{arith, ◌≡◌, ◌∙◌, ap, sym, subst, refl, ℕ, zero, suc, ◌-◌, ◌<◌, ◌≤◌, ◌==◌, nat_le, List, [], ◌∷◌, ◌++◌, append-nil, append_assoc, length, map, slice_get, false, not, if◌then◌else◌, Some, None, is_none, is_some, inl, inr, filter, ◌&&◌}
use Rattle.std.specs.List.{list_all}
use Rattle.std.proofs.lemmas.Bool.{cases_Bool, cases_lt, lt-leb}
use Rattle.std.proofs.lemmas.Option.{slice_get_past}
use Rattle.nemo_base.specs.declared.graph.TaskGraph.{TaskGraph}
use Rattle.nemo_base.specs.declared.id.BlockId.{BlockId}
use Rattle.nemo_base.specs.Places.{or_else, passes}
use Rattle.nemo_base.specs.Settings.{AreInRange, SettingsForm}
use Rattle.nemo_ir.specs.Along.{below}
use Rattle.nemo_core.specs.Run.{run_on}
use Rattle.nemo_core.specs.State.{State}
use Rattle.nemo_core.specs.Step.{after, conditions, is_decided, is_skewed, refusal, vertex_held}
use Rattle.nemo_core.specs.declared.event.Event.{Event}
use Rattle.nemo_core.specs.declared.event.Event.TheVariants.{Commit, Drop, Finish, Spent}
use Rattle.nemo_plan.specs.Form.{PlanForm, graph}
use Rattle.nemo_plan.specs.Line.{line_graph, line_vertex, vertex_of}
use Rattle.nemo_laws.specs.Data.{Ran, ran_of, state_of, task_gives}
use Rattle.nemo_laws.specs.Holds.{blocks_in, commit_hold, drops, finish_of, least_spent, may_be_spent, may_decide, may_drop}
use Rattle.nemo_laws.specs.Legal.{Faultless}
use Rattle.nemo_laws.specs.Solo as solo
use Rattle.nemo_laws.specs.Solo.{IsStart, IsTurn, LeastDecisions, SoloRun, launch_of_turn, may_take_turn, next_task}
use Rattle.nemo_laws.proofs.Every.{none_passes}
use Rattle.nemo_replay.specs.StageRun.{first_stage, slot_of, turn, turns}
use Rattle.nemo_replay.specs.StageStates.{blocks_after, blocks_if, busy, ready}
use Rattle.nemo_replay.proofs.Commits.{commit_after, finish_allowed, finish_early}
use Rattle.nemo_replay.proofs.Counted.{filter_none, first_none, first_some, map_get_or, map_length}
use Rattle.nemo_replay.proofs.Launches.{done_refused, launch_after, launch_allowed, task_ready, vertex_at}
use Rattle.nemo_replay.proofs.Logs.{turns_more, turns_state}
use Rattle.nemo_replay.proofs.Refusals.{fails_at}
use Rattle.nemo_replay.proofs.Slots.{slot_good}

---- nothing is spent, and nothing to be decided

task_unspent : (m n : ℕ) (k : SettingsForm) (i j : ℕ) → j < n → AreInRange k → is_none (refusal (line_graph m n) k (ready m n k i) (Spent (first_stage j))) ≡ false
task_unspent m n k i j lt range =
    let bound : 0 < k.loss_bound = omega (arith, range.loss_bound.0) in
    fails_at (conditions (line_graph m n) k (ready m n k i) (Spent (first_stage j))) 4
    (ap not (ap (passes (λ row. nat_le k.loss_bound row.losses)) (task_ready m n k i j lt) ∙ lt-leb k.loss_bound 0 bound))

none_spent : (m n : ℕ) (k : SettingsForm) (i : ℕ) → AreInRange k → least_spent (line_graph m n) k (ready m n k i) ≡ None
none_spent m n k i range =
    ap (λ o. or_else o None) (first_none (may_be_spent (line_graph m n) k (ready m n k i) 0) n
    (λ j lt. ap (λ b. if b then Some (first_stage j) else None) (task_unspent m n k i j lt range)))

none_decided : (m n : ℕ) (k : SettingsForm) (i : ℕ) → filter (may_decide (line_graph m n) (ready m n k i)) (below (length (line_graph m n).vertices)) ≡ []
none_decided m n k i =
    let s : State = ready m n k i in
    filter_none (may_decide (line_graph m n) s) (length (line_graph m n).vertices)
    (λ v lt. let size : length (line_graph m n).vertices ≡ m = map_length (line_vertex m n) m in
    let within : v < m = omega arith in
    ap (passes (λ row. is_skewed row && not (is_decided s.cuts v) && list_all (vertex_held s) row.triggers)) (vertex_at m n v within))

---- the next task

next_is : (m n : ℕ) (k : SettingsForm) (i : ℕ) → 1 ≤ m → i < n → AreInRange k → next_task (line_graph m n) k (ready m n k i) ≡ Some (first_stage i)
next_is m n k i some lt range =
    ap (λ o. or_else o None) (first_some (may_take_turn (line_graph m n) k (ready m n k i) 0) n i (first_stage i) lt
    (λ j before. ap (λ b. if b then Some (first_stage j) else None) (done_refused m n k i j (slot_of k i) some (omega arith) before))
    (ap (λ o. if is_none o then Some (first_stage i) else None) (launch_allowed m n k i (slot_of k i) some lt range (slot_good k i range))))

---- nothing is dropped

-- the last vertex is never dropped, and no other has a block
undroppable : (m n : ℕ) (k : SettingsForm) (i : ℕ) (b : BlockId) → may_drop (line_graph m n) k (ready m n k i) b ≡ false
undroppable m n k i b = elim (cases_lt b.vertex m) [
  | inl within ↦ elim (cases_Bool (suc b.vertex == m)) [
    | inl last ↦ kept (ap (passes (λ row. row.discard)) (vertex_at m n b.vertex within) ∙ ap (λ l. (vertex_of l n).discard) last)
    | inr other ↦ fails_at (conditions g k s (Drop b)) 1
        (ap (λ row. not (is_some (slice_get row b.task))) (map_get_or (blocks_after m n i) [] m b.vertex within ∙ ap (λ l. blocks_if l n i) other))
  ]
  | inr past ↦
      let size : length g.vertices ≡ m = map_length (line_vertex m n) m in
      kept (ap (passes (λ row. row.discard)) (slice_get_past g.vertices b.vertex (omega arith)))
]
  where
    g : TaskGraph
    g = line_graph m n

    s : State
    s = ready m n k i

    kept : passes (λ row. row.discard) (slice_get g.vertices b.vertex) ≡ false → may_drop g k s b ≡ false
    kept e = fails_at (conditions g k s (Drop b)) 3 (ap not e)

none_dropped : (m n : ℕ) (k : SettingsForm) (i : ℕ) → drops (line_graph m n) k (ready m n k i) ≡ []
none_dropped m n k i = ap (map Drop) (none_passes (may_drop (line_graph m n) k (ready m n k i)) (blocks_in (ready m n k i)) (undroppable m n k i))

---- the commit

abbrev finish_at : ℕ → ℕ → SettingsForm → ℕ → List Event
finish_at m n k i = finish_of (line_graph m n) k (ready m n k i)

finish_last : (m n : ℕ) (k : SettingsForm) → finish_at m n k n ≡ Finish ∷ []
finish_last m n k = ap (λ o. if is_none o then Finish ∷ [] else []) (finish_allowed m n k)

finish_never : (m n : ℕ) (k : SettingsForm) (i : ℕ) → 1 ≤ m → i < n → finish_at m n k i ≡ []
finish_never m n k i some lt = ap (λ o. if is_none o then Finish ∷ [] else []) (finish_early m n k i some lt)

commit_held : (m n : ℕ) (k : SettingsForm) (i : ℕ) → i < n → commit_hold (line_graph m n) k [] (busy m n k i (slot_of k i)) i ≡ Commit i ∷ finish_at m n k (suc i)
commit_held m n k i lt =
    let g = line_graph m n in
    ap (λ t. Commit i ∷ (drops g k t ++ finish_of g k (run_on g k t (drops g k t)))) (commit_after m n k i (slot_of k i) lt)
    ∙ ap (λ ds. Commit i ∷ (ds ++ finish_of g k (run_on g k (ready m n k (suc i)) ds))) (none_dropped m n k (suc i))

---- turn after turn

-- what a turn adds in this state
abbrev added : TaskGraph → SettingsForm → State → ℕ → List Event
added g k s i = let launch = launch_of_turn g k s (first_stage i) in launch ∷ commit_hold g k [] (after g k s launch) s.launches

module _ (p : PlanForm) (m n : ℕ) (k : SettingsForm) (e : graph p ≡ line_graph m n) (some : 1 ≤ m) (range : AreInRange k) where
  starts : (i : ℕ) → i < n → (ran : List Ran) → IsStart p k (ready m n k i) ran [] (first_stage i)
  starts i lt ran =
      let s : State = ready m n k i in
      record {
        unspent = ap (λ g. least_spent g k s) e ∙ none_spent m n k i range;
        decided = subst (λ vs. LeastDecisions p k s ran vs []) (sym (ap (λ g. filter (may_decide g s) (below (length g.vertices))) e ∙ none_decided m n k i)) refl;
        task = ap (λ g. next_task g k s) e ∙ next_is m n k i some lt range;
      }

  adds : (i : ℕ) → i < n → added (graph p) k (ready m n k i) i ≡ turn k i ++ finish_at m n k (suc i)
  adds i lt =
      let g = line_graph m n in
      let launch = launch_of_turn g k (ready m n k i) (first_stage i) in
      ap (λ g. added g k (ready m n k i) i) e
      ∙ ap (λ s. launch ∷ commit_hold g k [] s i) (launch_after m n k i (slot_of k i))
      ∙ ap (λ es. launch ∷ es) (commit_held m n k i lt)

  turn_is : (i : ℕ) → i < n → (ran : List Ran) → Faultless p (task_gives p ran (ready m n k i) (first_stage i)) → IsTurn p k [] (ready m n k i) ran (turn k i ++ finish_at m n k (suc i))
  turn_is i lt ran clean = subst (IsTurn p k [] (ready m n k i) ran) (adds i lt) (solo.commits [] (first_stage i) (starts i lt ran) clean)

  -- no task has a fault, whatever the attempts before it gave
  abbrev pub AllFaultless : Type 0
  AllFaultless = (i : ℕ) → i < n → (ran : List Ran) → Faultless p (task_gives p ran (ready m n k i) (first_stage i))

  module _ (clean : AllFaultless) where
    -- a turn more, and Finish behind the last
    turn_more : (i : ℕ) → i < n → SoloRun p k [] (turns k i) → SoloRun p k [] (turns k (suc i) ++ finish_at m n k (suc i))
    turn_more i lt before =
        let finish : List Event = finish_at m n k (suc i) in
        let ran : List Ran = ran_of p k (turns k i) in
        let state : state_of (graph p) k (turns k i) ≡ ready m n k i = ap (λ g. state_of g k (turns k i)) e ∙ turns_state m n k i some (omega arith) in
        subst (SoloRun p k [])
        (sym (append_assoc (turns k i) (turn k i) finish) ∙ ap (λ es. es ++ finish) (sym (turns_more k i)))
        (solo.turns (turns k i) (turn k i ++ finish) before (subst (λ s. IsTurn p k [] s ran (turn k i ++ finish)) (sym state) (turn_is i lt ran (clean i lt ran))))

    turns_run : (i : ℕ) → i < n → SoloRun p k [] (turns k i)
    turns_run zero lt = solo.begins
    turns_run (suc i) lt =
        subst (SoloRun p k []) (ap (λ es. turns k (suc i) ++ es) (finish_never m n k (suc i) some lt) ∙ append-nil (turns k (suc i))) (turn_more i (omega arith) (turns_run i (omega arith)))

    last_turn : (i : ℕ) → suc i ≡ n → SoloRun p k [] (turns k n ++ Finish ∷ [])
    last_turn i is =
        subst (λ j. SoloRun p k [] (turns k j ++ Finish ∷ [])) is
        (subst (λ es. SoloRun p k [] (turns k (suc i) ++ es)) (ap (finish_at m n k) is ∙ finish_last m n k) (turn_more i (omega arith) (turns_run i (omega arith))))

    pub solo_run : 1 ≤ n → SoloRun p k [] (turns k n ++ Finish ∷ [])
    solo_run tasks = last_turn (n - 1) (omega arith)
