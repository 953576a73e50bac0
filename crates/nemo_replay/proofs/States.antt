-- The states of the run of a one-stage line on one thread, between its events.
use Rattle.std.proofs.Common.{arith, ◌≡◌, ◌∙◌, ap, sym, refl, ℕ, suc, ◌-◌, ◌≤◌, ◌==◌, nat_lt, [], ◌∷◌, map, replicate, false, ◌||◌, if◌then◌else◌, Option, Some, None, ⊎_elim, eq-eqb, ne_eqb}
use Rattle.std.proofs.lemmas.Bool.{le-ltb, cases_Bool, eqb-true, eqb-false}
use Rattle.nemo_base.specs.Places.{map_at}
use Rattle.nemo_base.specs.Places.{is_in}
use Rattle.nemo_base.specs.Settings.{SettingsForm}
use Rattle.nemo_ir.specs.Along.{below}
use Rattle.nemo_core.specs.State.{start, fresh_task, fresh_blocks}
use Rattle.nemo_core.specs.declared.event.HeldBy.{HeldBy}
use Rattle.nemo_plan.specs.Line.{line_graph, line_vertex}
use Rattle.nemo_replay.specs.StageStates.{from_attempt, block_after, blocks_after, ready}
use Rattle.nemo_replay.proofs.Counted.{map_same, map_at_below, replicate_map}

---- the start

none_before : (j : ℕ) → block_after 0 j ≡ None
none_before j = ap (λ b. if b then Some (from_attempt j) else None) (le-ltb j 0 (omega arith))

-- nobody holds the block
abbrev pub gone : Option HeldBy
gone = None

fresh_none : (n : ℕ) → replicate n gone ≡ map (block_after 0) (below n)
fresh_none n = replicate_map gone n ∙ map_same (λ j. gone) (block_after 0) n (λ j lt. sym (none_before j))

is_last : (m v : ℕ) → 1 ≤ m → is_in v ((m - 1) ∷ []) ≡ (suc v == m)
is_last m v some = ⊎_elim
    (λ same. let e : suc v ≡ m = eqb-true (suc v) m same in let f : m - 1 ≡ v = omega arith in ap (λ b. b || false) (eq-eqb (m - 1) v f) ∙ sym same)
    (λ other. let ne : m - 1 ≡ v → ⊥ = λ f. eqb-false (suc v) m other (omega arith) in ap (λ b. b || false) (ne_eqb (m - 1) v ne) ∙ sym other)
    (cases_Bool (suc v == m))

start_blocks : (m n v : ℕ) → 1 ≤ m → fresh_blocks (line_graph m n) v (line_vertex m n v) ≡ blocks_after m n 0 v
start_blocks m n v some =
    ap (λ b. if b then replicate n gone else []) (is_last m v some)
    ∙ ap (λ xs. if suc v == m then xs else []) (fresh_none n)

pub start_ready : (m n : ℕ) (k : SettingsForm) → 1 ≤ m → start (line_graph m n) k ≡ ready m n k 0
start_ready m n k some =
    let blocks : map_at (fresh_blocks (line_graph m n)) 0 (line_graph m n).vertices ≡ map (blocks_after m n 0) (below m) =
    map_at_below (fresh_blocks (line_graph m n)) (line_vertex m n) m
    ∙ map_same (λ v. fresh_blocks (line_graph m n) v (line_vertex m n v)) (blocks_after m n 0) m (λ v lt. start_blocks m n v some) in
    let sealed : false ≡ nat_lt 0 0 = refl in
    ap (λ xs. record (start (line_graph m n) k) { tasks = xs ∷ [] }) (replicate_map fresh_task n)
    ∙ ap (λ xs. record (ready m n k 0) { blocks = xs }) blocks
