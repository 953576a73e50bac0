-- The commit of the running task is allowed, and once all have committed the run may finish.
use Rattle.std.proofs.Common.{arith, ◌≡◌, ◌∙◌, ap, sym, refl, ℕ, suc, ◌-◌, ◌<◌, ◌≤◌, ◌==◌, nat_lt, List, [], ◌∷◌, map, slice_get, Bool, true, false, not, ◌&&◌, ◌||◌, if◌then◌else◌, Option, Some, None, add-one, is_some, eq-eqb, ⊎_elim}
use Rattle.std.specs.List.{list_any}
use Rattle.std.proofs.lemmas.Bool.{lt-ltb, cases_lt, cases_Bool, eqb-true, eqb-false}
use Rattle.nemo_base.specs.Places.{passes}
use Rattle.nemo_base.specs.declared.graph.Home.TheVariants.{Master}
use Rattle.nemo_base.specs.Settings.{SettingsForm}
use Rattle.nemo_base.specs.declared.why.Why.TheVariants.{Missing}
use Rattle.nemo_ir.specs.Along.{below}
use Rattle.nemo_ir.proofs.Places.{list_any-at, or_true}
use Rattle.nemo_base.specs.Needed.{is_master}
use Rattle.nemo_base.specs.Places.{any_at}
use Rattle.nemo_core.specs.State.{all_held, fresh_task, runs}
use Rattle.nemo_core.specs.Step.{after, conditions, ended, filled, filled_row, lacks_sink, made, refusal, running_of}
use Rattle.nemo_core.specs.declared.event.Event.TheVariants.{Commit, Finish}
use Rattle.nemo_core.specs.declared.event.HeldBy.{HeldBy}
use Rattle.nemo_plan.specs.Line.{line_graph, vertex_of}
use Rattle.nemo_value.proofs.JoinedLists.{map_map}
use Rattle.nemo_replay.specs.StageStates.{block_after, blocks_after, blocks_if, busy, busy_task, from_attempt, ready, task_while}
use Rattle.nemo_replay.proofs.Counted.{all_each, all_fails, any_at_none, any_at_some, map_at_below, map_get, map_same}
use Rattle.nemo_replay.proofs.Launches.{gone_from, held_before, sink_last, vertex_at}
use Rattle.nemo_replay.proofs.Refusals.{all_met, fails_here}

---- the running task

runs_own : (i slot : ℕ) → runs i (busy_task i slot) ≡ true
runs_own i slot = eq-eqb i i refl

own_busy : (i slot : ℕ) → task_while i slot i ≡ busy_task i slot
own_busy i slot = ap (λ b. if b then busy_task i slot else fresh_task) (eq-eqb i i refl)

any_runs : (n i slot : ℕ) → i < n → list_any (runs i) (map (task_while i slot) (below n)) ≡ true
any_runs n i slot lt = list_any-at (runs i) (map (task_while i slot) (below n)) i (task_while i slot i) (map_get (task_while i slot) n i lt) (ap (runs i) (own_busy i slot) ∙ runs_own i slot)

pub commit_allowed : (m n : ℕ) (k : SettingsForm) (i slot : ℕ) → i < n → refusal (line_graph m n) k (busy m n k i slot) (Commit i) ≡ None
commit_allowed m n k i slot lt =
    all_met (conditions (line_graph m n) k (busy m n k i slot) (Commit i))
    (refl, (lt-ltb i (suc i) (omega arith), (ap (λ b. b || false) (any_runs n i slot lt), tt)))

---- its effect

ends_if : (i slot : ℕ) (b : Bool) → ended i (if b then busy_task i slot else fresh_task) ≡ fresh_task
ends_if i slot true = ap (λ b. if b then fresh_task else busy_task i slot) (eq-eqb i i refl)
ends_if i slot false = refl

tasks_ended : (n i slot : ℕ) → map (ended i) (map (task_while i slot) (below n)) ≡ map (λ j. fresh_task) (below n)
tasks_ended n i slot =
    map_map (ended i) (task_while i slot) (below n)
    ∙ map_same (λ j. ended i (task_while i slot j)) (λ j. fresh_task) n (λ j lt. ends_if i slot (j == i))

stage_sealed : (n i slot : ℕ) → i < n → (nat_lt 0 i || list_any (runs i) (map (task_while i slot) (below n))) ≡ nat_lt 0 (suc i)
stage_sealed n i slot lt = ap (λ b. nat_lt 0 i || b) (any_runs n i slot lt) ∙ or_true (nat_lt 0 i) ∙ sym (lt-ltb 0 (suc i) (omega arith))

-- block j after the commit of task i
block_filled : (n : ℕ) (k : SettingsForm) (incs : List ℕ) (i slot j : ℕ) → j < n → filled k incs i Master (map (task_while i slot) (below n)) j (block_after i j) ≡ block_after (suc i) j
block_filled n k incs i slot j lt = ⊎_elim
    (λ before. ap (filled k incs i Master (map (task_while i slot) (below n)) j) (held_before i j before) ∙ sym (held_before (suc i) j (omega arith)))
    (λ from. ap (filled k incs i Master (map (task_while i slot) (below n)) j) (gone_from i j from) ∙ ap (λ o. made k incs i j Master (running_of o)) (map_get (task_while i slot) n j lt) ∙ ⊎_elim (own j) (other j from) (cases_Bool (j == i)))
    (cases_lt j i)
  where
    own : (j : ℕ) → (j == i) ≡ true → made k incs i j Master (running_of (Some (task_while i slot j))) ≡ block_after (suc i) j
    own j e =
        let same : j ≡ i = eqb-true j i e in
        ap (λ b. made k incs i j Master (running_of (Some (if b then busy_task i slot else fresh_task)))) e
        ∙ ap (λ b. if b then Some (from_attempt i) else None) (eq-eqb i i refl)
        ∙ ap (λ x. Some (from_attempt x)) (sym same)
        ∙ sym (held_before (suc i) j (omega arith))

    other : (j : ℕ) → i ≤ j → (j == i) ≡ false → made k incs i j Master (running_of (Some (task_while i slot j))) ≡ block_after (suc i) j
    other j from e =
        let ne : j ≡ i → ⊥ = eqb-false j i e in
        ap (λ b. made k incs i j Master (running_of (Some (if b then busy_task i slot else fresh_task)))) e
        ∙ sym (gone_from (suc i) j (omega (arith, ne)))

row_filled_if : (b : Bool) (n : ℕ) (k : SettingsForm) (incs : List ℕ) (i slot : ℕ) → filled_row k incs (map (task_while i slot) (below n) ∷ []) i (Some (vertex_of b n)) (blocks_if b n i) ≡ blocks_if b n (suc i)
row_filled_if true n k incs i slot =
    map_at_below (filled k incs i Master (map (task_while i slot) (below n))) (block_after i) n
    ∙ map_same (λ j. filled k incs i Master (map (task_while i slot) (below n)) j (block_after i j)) (block_after (suc i)) n (λ j lt. block_filled n k incs i slot j lt)
row_filled_if false n k incs i slot = refl

row_filled : (m n v : ℕ) (k : SettingsForm) (incs : List ℕ) (i slot : ℕ) → v < m
    → filled_row k incs (map (task_while i slot) (below n) ∷ []) i (slice_get (line_graph m n).vertices v) (blocks_after m n i v) ≡ blocks_after m n (suc i) v
row_filled m n v k incs i slot lt =
    ap (λ o. filled_row k incs (map (task_while i slot) (below n) ∷ []) i o (blocks_after m n i v)) (vertex_at m n v lt)
    ∙ row_filled_if (suc v == m) n k incs i slot

pub commit_after : (m n : ℕ) (k : SettingsForm) (i slot : ℕ) → i < n → after (line_graph m n) k (busy m n k i slot) (Commit i) ≡ ready m n k (suc i)
commit_after m n k i slot lt =
    let s = busy m n k i slot in
    let t = after (line_graph m n) k s (Commit i) in
    let fill : ℕ → List (Option HeldBy) → List (Option HeldBy) = λ v blocks. filled_row k s.incs s.tasks i (slice_get (line_graph m n).vertices v) blocks in
    let blocks : t.blocks ≡ map (blocks_after m n (suc i)) (below m) =
    map_at_below fill (blocks_after m n i) m
    ∙ map_same (λ v. fill v (blocks_after m n i v)) (blocks_after m n (suc i)) m (λ v l. row_filled m n v k s.incs i slot l) in
    ap (λ x. record t { commits = x }) (add-one i)
    ∙ ap (λ xs. record t { commits = suc i; tasks = xs ∷ [] }) (tasks_ended n i slot)
    ∙ ap (λ b. record t { commits = suc i; tasks = map (λ j. fresh_task) (below n) ∷ []; sealed = b ∷ [] }) (stage_sealed n i slot lt)
    ∙ ap (λ xs. record (ready m n k (suc i)) { blocks = xs }) blocks

---- the end

-- a vertex lacks no block of a sink once all have committed
lacks_none_if : (b : Bool) (n : ℕ) → (is_master (vertex_of b n).home && not (all_held (blocks_if b n n))) ≡ false
lacks_none_if true n = ap not (all_each is_some (block_after n) n (λ j lt. ap is_some (held_before n j lt)))
lacks_none_if false n = refl

pub finish_allowed : (m n : ℕ) (k : SettingsForm) → refusal (line_graph m n) k (ready m n k n) Finish ≡ None
finish_allowed m n k =
    let none = any_at_none (lacks_sink (line_graph m n)) (blocks_after m n n) m (λ v lt. ap (λ o. passes (λ row. is_master row.home) o && not (all_held (blocks_after m n n v))) (vertex_at m n v lt) ∙ lacks_none_if (suc v == m) n) in
    all_met (conditions (line_graph m n) k (ready m n k n) Finish) (refl, (ap not none, tt))

pub finish_early : (m n : ℕ) (k : SettingsForm) (i : ℕ) → 1 ≤ m → i < n → refusal (line_graph m n) k (ready m n k i) Finish ≡ Some Missing
finish_early m n k i some lt =
    let within : m - 1 < m = omega arith in
    let last : suc (m - 1) ≡ m = omega arith in
    let lacks : lacks_sink (line_graph m n) (m - 1) (blocks_after m n i (m - 1)) ≡ true =
    ap (λ b. b && not (all_held (blocks_after m n i (m - 1)))) (sink_last m n some)
    ∙ ap (λ b. not (all_held (blocks_if b n i))) (eq-eqb (suc (m - 1)) m last)
    ∙ ap not (all_fails is_some (map (block_after i) (below n)) i (block_after i i) (map_get (block_after i) n i lt) (ap is_some (gone_from i i (omega arith)))) in
    fails_here (not (any_at (lacks_sink (line_graph m n)) 0 (ready m n k i).blocks)) Missing [] (ap not (any_at_some (lacks_sink (line_graph m n)) (blocks_after m n i) m (m - 1) within lacks))
