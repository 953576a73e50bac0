-- The launch of the next task is allowed, and no other.
use Rattle.std.proofs.Common.{arith, ◌≡◌, ◌∙◌, ap, refl, ℕ, suc, ◌+◌, ◌-◌, ◌<◌, ◌≤◌, nat_lt, List, [], ◌∷◌, length, map, replicate, slice_get, Bool, true, false, not, ◌&&◌, ◌||◌, if◌then◌else◌, Some, None, add-one, is_none, is_some, eq-eqb}
use Rattle.std.proofs.lemmas.Bool.{lt-ltb, le-ltb}
use Rattle.std.proofs.Math.ListN.{length-replicate}
use Rattle.nemo_base.specs.Places.{passes}
use Rattle.nemo_base.specs.declared.annotation.Class.TheVariants.{Transient}
use Rattle.nemo_base.specs.Settings.{AreInRange, SettingsForm}
use Rattle.nemo_ir.specs.Along.{below}
use Rattle.nemo_base.specs.Needed.{is_sink, is_master, is_read_by, needed_in}
use Rattle.nemo_base.specs.Places.{any_at, or_else, row_at}
use Rattle.nemo_core.specs.Reading.{launchable, may_launch}
use Rattle.nemo_core.specs.State.{Machine, fresh_task, task_at, held_in, flat, is_gone, is_needed}
use Rattle.nemo_core.specs.Step.{after, conditions, fits, is_idle, is_open, launched, refusal}
use Rattle.nemo_core.specs.declared.event.Event.TheVariants.{Launch}
use Rattle.nemo_plan.specs.Line.{line_graph, line_vertex, vertex_of}
use Rattle.nemo_replay.specs.StageRun.{first_stage}
use Rattle.nemo_replay.specs.StageStates.{block_after, blocks_after, blocks_if, busy, from_attempt, ready}
use Rattle.nemo_replay.proofs.Counted.{any_at_none, first_some, map_at_below, map_get, map_get_or}
use Rattle.nemo_replay.proofs.Refusals.{all_met, fails_at}

-- a slot that is there, and that the tasks fit on
pub record IsSlot (k : SettingsForm) (slot : ℕ) : Type 0 where
  pub within : slot < k.reserved + k.transient
  pub fitting : fits k slot Transient ≡ true

---- the last vertex

pub vertex_at : (m n v : ℕ) → v < m → slice_get (line_graph m n).vertices v ≡ Some (line_vertex m n v)
vertex_at m n v lt = map_get (line_vertex m n) m v lt

pub sink_last : (m n : ℕ) → 1 ≤ m → is_sink (line_graph m n) (m - 1) ≡ true
sink_last m n some =
    let lt : m - 1 < m = omega arith in
    let last : suc (m - 1) ≡ m = omega arith in
    ap (passes (λ row. is_master row.home)) (vertex_at m n (m - 1) lt)
    ∙ ap (λ b. is_master (vertex_of b n).home) (eq-eqb (suc (m - 1)) m last)

row_last : (m n i : ℕ) → 1 ≤ m → row_at (map (blocks_after m n i) (below m)) (m - 1) ≡ map (block_after i) (below n)
row_last m n i some =
    let lt : m - 1 < m = omega arith in
    let last : suc (m - 1) ≡ m = omega arith in
    map_get_or (blocks_after m n i) [] m (m - 1) lt ∙ ap (λ b. blocks_if b n i) (eq-eqb (suc (m - 1)) m last)

-- block j of the sink once i tasks have committed
pub held_last : (m n i j : ℕ) → 1 ≤ m → j < n → held_in (map (blocks_after m n i) (below m)) (m - 1) j ≡ block_after i j
held_last m n i j some lt = ap (λ row. flat (slice_get row j)) (row_last m n i some) ∙ ap flat (map_get (block_after i) n j lt)

pub gone_from : (i j : ℕ) → i ≤ j → block_after i j ≡ None
gone_from i j le = ap (λ b. if b then Some (from_attempt j) else None) (le-ltb j i le)

pub held_before : (i j : ℕ) → j < i → block_after i j ≡ Some (from_attempt j)
held_before i j lt = ap (λ b. if b then Some (from_attempt j) else None) (lt-ltb j i lt)

---- the conditions

needed_if : (a b c : Bool) → a ≡ true → b ≡ true → ((a && (b || c)) || false) ≡ true
needed_if a b c p q = ap (λ x. (x && (b || c)) || false) p ∙ ap (λ x. (x || c) || false) q

-- task j is needed where its block is gone
needed_from : (m n : ℕ) (k : SettingsForm) (i j : ℕ) → 1 ≤ m → j < n → i ≤ j → is_needed (line_graph m n) (ready m n k i) (first_stage j) ≡ true
needed_from m n k i j some lt le =
    let gone : is_gone (ready m n k i) (m - 1) j ≡ true = ap (λ o. not (is_some o)) (held_last m n i j some lt ∙ gone_from i j le) in
    needed_if (is_gone (ready m n k i) (m - 1) j) (is_sink (line_graph m n) (m - 1)) (is_read_by (line_graph m n) (needed_in (line_graph m n) (is_gone (ready m n k i)) 0) (m - 1) j) gone (sink_last m n some)

unneeded : (m n : ℕ) (k : SettingsForm) (i j : ℕ) → 1 ≤ m → j < n → j < i → is_needed (line_graph m n) (ready m n k i) (first_stage j) ≡ false
unneeded m n k i j some lt before =
    let gone : is_gone (ready m n k i) (m - 1) j ≡ false = ap (λ o. not (is_some o)) (held_last m n i j some lt ∙ held_before i j before) in
    ap (λ a. (a && (is_sink (line_graph m n) (m - 1) || is_read_by (line_graph m n) (needed_in (line_graph m n) (is_gone (ready m n k i)) 0) (m - 1) j)) || false) gone

pub task_ready : (m n : ℕ) (k : SettingsForm) (i j : ℕ) → j < n → task_at (ready m n k i) (first_stage j) ≡ Some fresh_task
task_ready m n k i j lt = map_get (λ x. fresh_task) n j lt

skewless : (m n : ℕ) (k : SettingsForm) (i : ℕ) → any_at (is_open (ready m n k i).cuts 0) 0 (line_graph m n).vertices ≡ false
skewless m n k i = any_at_none (is_open (ready m n k i).cuts 0) (line_vertex m n) m (λ v lt. refl)

pub launch_allowed : (m n : ℕ) (k : SettingsForm) (i slot : ℕ) → 1 ≤ m → i < n → AreInRange k → IsSlot k slot → refusal (line_graph m n) k (ready m n k i) (Launch i (first_stage i) slot []) ≡ None
launch_allowed m n k i slot some lt range fit =
    let task = task_ready m n k i i lt in
    let incs : List ℕ = replicate (k.reserved + k.transient) 0 in
    let count : length incs ≡ k.reserved + k.transient = length-replicate (k.reserved + k.transient) 0 in
    let slots : slot < length incs = omega (arith, count, fit.within) in
    let bound : 0 < k.loss_bound = omega (arith, range.loss_bound.0) in
    let known = ap is_some task in
    let slot_known = lt-ltb slot (length incs) slots in
    let needed = needed_from m n k i i some lt (omega arith) in
    let idle = ap (passes is_idle) task in
    let left = ap (passes (λ row. nat_lt row.losses k.loss_bound)) task ∙ lt-ltb 0 k.loss_bound bound in
    let decided = ap not (skewless m n k i) in
    let named = ap (λ b. b && true) (eq-eqb i i refl) in
    all_met (conditions (line_graph m n) k (ready m n k i) (Launch i (first_stage i) slot []))
    (refl, (known, (slot_known, (needed, (idle, (refl, (fit.fitting, (left, (decided, (named, tt))))))))))

pub launch_after : (m n : ℕ) (k : SettingsForm) (i slot : ℕ) → after (line_graph m n) k (ready m n k i) (Launch i (first_stage i) slot []) ≡ busy m n k i slot
launch_after m n k i slot =
    ap (λ x. record (after (line_graph m n) k (ready m n k i) (Launch i (first_stage i) slot [])) { launches = x }) (add-one i)
    ∙ ap (λ xs. record (busy m n k i slot) { tasks = xs ∷ [] }) (map_at_below (launched i (first_stage i) slot 0) (λ j. fresh_task) n)

---- which task is launched

abbrev pub machine_of : ℕ → ℕ → SettingsForm → ℕ → ℕ → Machine
machine_of m n k i taken = record { graph = line_graph m n; settings = k; state = ready m n k i; taken = taken }

pub done_refused : (m n : ℕ) (k : SettingsForm) (i j slot : ℕ) → 1 ≤ m → j < n → j < i → is_none (refusal (line_graph m n) k (ready m n k i) (Launch i (first_stage j) slot [])) ≡ false
done_refused m n k i j slot some lt before =
    fails_at (conditions (line_graph m n) k (ready m n k i) (Launch i (first_stage j) slot [])) 3 (ap not (unneeded m n k i j some lt before))

pub launchable_next : (m n : ℕ) (k : SettingsForm) (i slot taken : ℕ) → 1 ≤ m → i < n → AreInRange k → IsSlot k slot → launchable (machine_of m n k i taken) slot ≡ Some (first_stage i)
launchable_next m n k i slot taken some lt range fit =
    ap (λ o. or_else o None) (first_some (may_launch (machine_of m n k i taken) slot 0) n i (first_stage i) lt
    (λ j before. ap (λ b. if b then Some (first_stage j) else None) (done_refused m n k i j slot some (omega arith) before))
    (ap (λ o. if is_none o then Some (first_stage i) else None) (launch_allowed m n k i slot some lt range fit)))
