-- A change at one place is the map over all places that leaves the others as they are.
use Rattle.std.proofs.Common.{arith, ◌≡◌, ◌∙◌, ap, sym, refl, ℕ, zero, suc, ◌+◌, ◌<◌, List, [], ◌∷◌, map, length, slice_get, Bool, true, false, cond, Option, Some, None, eq-eqb}
use Rattle.std.proofs.lemmas.Bool.{eqb-true}
use Rattle.std.proofs.lemmas.Option.{slice_get-get_or, slice_get_within}
use Rattle.std.specs.List.{list_any}
use Rattle.std.specs.Prelude.{◌&&◌, ◌||◌, ◌==◌, get_or, is_some, slice_set}
use Rattle.nemo_base.specs.Places.{item_at, map_at, map_rows, passes, row_at}
use Rattle.nemo_base.specs.declared.graph.Home.{Home}
use Rattle.nemo_base.specs.declared.graph.VertexRow.{VertexRow}
use Rattle.nemo_base.specs.declared.id.TaskId.{TaskId}
use Rattle.nemo_base.specs.declared.settings.Settings.{Settings}
use Rattle.nemo_core.specs.Cell.{filled_at, put, put_in, with_item}
use Rattle.nemo_core.specs.State.{is_number, runs}
use Rattle.nemo_core.specs.Step.{ended, filled, filled_row, home_of, idle, launched, made, running_of, sealed_by}
use Rattle.nemo_core.specs.Within.{RunsOnly}
use Rattle.nemo_core.specs.declared.event.HeldBy.{HeldBy}
use Rattle.nemo_core.specs.declared.row.Attempt.{Attempt}
use Rattle.nemo_core.specs.declared.row.TaskRow.{TaskRow}

---- lists

next : (k i : ℕ) → (k + 1) + i ≡ k + suc i
next k i = omega arith

none : (k : ℕ) → k + 0 ≡ k
none k = omega arith

from_none : (k : ℕ) → 0 + k ≡ k
from_none k = omega arith

same_at : {X : Type 0} (f : ℕ → X → X) (k : ℕ) (xs : List X) → ((j : ℕ) (y : X) → slice_get xs j ≡ Some y → f (k + j) y ≡ y) → map_at f k xs ≡ xs
same_at f k [] fix = refl
same_at f k (x ∷ xs) fix =
    ap (λ y. y ∷ map_at f (k + 1) xs) (ap (λ n. f n x) (sym (none k)) ∙ fix 0 x refl)
    ∙ ap (λ ys. x ∷ ys) (same_at f (k + 1) xs (λ j y is. ap (λ n. f n y) (next k j) ∙ fix (suc j) y is))

set_at : {X : Type 0} (f : ℕ → X → X) (k : ℕ) (xs : List X) (i : ℕ) (x : X) → slice_get xs i ≡ Some x → ((j : ℕ) (y : X) → (j ≡ i → ⊥) → slice_get xs j ≡ Some y → f (k + j) y ≡ y) → slice_set xs i (f (k + i) x) ≡ map_at f k xs
set_at f k [] i x is fix = cc
set_at f k (y ∷ ys) zero x is fix =
    let same : y ≡ x = cc in
    ap (λ z. f (k + 0) z ∷ ys) (sym same)
    ∙ ap (λ n. f n y ∷ ys) (none k)
    ∙ ap (λ zs. f k y ∷ zs) (sym (same_at f (k + 1) ys (λ j z at. ap (λ n. f n z) (next k j) ∙ fix (suc j) z (λ e. omega (arith, e)) at)))
set_at f k (y ∷ ys) (suc i) x is fix =
    ap (λ n. y ∷ slice_set ys i (f n x)) (sym (next k i))
    ∙ ap (λ zs. y ∷ zs) (set_at f (k + 1) ys i x is (λ j z other at. ap (λ n. f n z) (next k j) ∙ fix (suc j) z (λ e. other (omega (arith, e))) at))
    ∙ ap (λ z. z ∷ map_at f (k + 1) ys) (sym (ap (λ n. f n y) (sym (none k)) ∙ fix 0 y (λ e. omega (arith, e)) refl))

each_same : {X Y : Type 0} (f g : ℕ → X → Y) (k : ℕ) (xs : List X) → ((j : ℕ) (y : X) → f j y ≡ g j y) → map_at f k xs ≡ map_at g k xs
each_same f g k [] same = refl
each_same f g k (x ∷ xs) same = ap (λ y. y ∷ map_at f (k + 1) xs) (same k x) ∙ ap (λ ys. g k x ∷ ys) (each_same f g (k + 1) xs same)

---- rows

pub row_there : {X : Type 0} (rows : List (List X)) (a b : ℕ) (x : X) → item_at rows a b ≡ Some x → slice_get rows a ≡ Some (row_at rows a)
row_there [] a b x is = cc
row_there (r ∷ rows) zero b x is = refl
row_there (r ∷ rows) (suc a) b x is = row_there rows a b x is

pub row_is : {X : Type 0} (rows : List (List X)) (a : ℕ) (r : List X) → slice_get rows a ≡ Some r → row_at rows a ≡ r
row_is [] a r is = cc
row_is (q ∷ rows) zero r is = cc
row_is (q ∷ rows) (suc a) r is = row_is rows a r is

some_item : {X : Type 0} (o : Option X) → is_some o ≡ true → (x : X) × (o ≡ Some x)
some_item (Some x) h = (x, refl)
some_item None h = cc

-- a place that has an item
pub within : {X : Type 0} (rows : List (List X)) (a b : ℕ) → is_some (item_at rows a b) ≡ true → (a < length rows) × (b < length (row_at rows a))
within rows a b h =
    let x = some_item (item_at rows a b) h in
    (slice_get_within rows a (row_at rows a) (row_there rows a b x.0 x.1), slice_get_within (row_at rows a) b x.0 x.1)

cell : {X : Type 0} (f : ℕ → ℕ → X → X) (rows : List (List X)) (a b : ℕ) (x : X) → item_at rows a b ≡ Some x
    → ((s i : ℕ) (y : X) → ((s ≡ a) × (i ≡ b) → ⊥) → item_at rows s i ≡ Some y → f s i y ≡ y) → with_item rows a b (f a b x) ≡ map_rows f rows
cell f rows a b x is fix =
    let row = row_at rows a in
    let inner : slice_set row b (f a (0 + b) x) ≡ map_at (f a) 0 row =
    set_at (f a) 0 row b x is (λ j y other at. ap (λ n. f a n y) (from_none j) ∙ fix a j y (λ e. other e.1) at) in
    let outer : slice_set rows a (map_at (f (0 + a)) 0 row) ≡ map_at (λ s. map_at (f s) 0) 0 rows =
    set_at (λ s. map_at (f s) 0) 0 rows a row (row_there rows a b x is) (λ s r other at.
    ap (λ n. map_at (f n) 0 r) (from_none s)
    ∙ same_at (f s) 0 r (λ j y there. ap (λ n. f s n y) (from_none j) ∙ fix s j y (λ e. other e.0) (ap (λ l. slice_get l j) (row_is rows s r at) ∙ there))) in
    ap (λ n. slice_set rows a (slice_set row b (f a n x))) (sym (from_none b))
    ∙ ap (λ r. slice_set rows a r) inner
    ∙ ap (λ n. slice_set rows a (map_at (f n) 0 row)) (sym (from_none a))
    ∙ outer

map_is : {X Y : Type 0} (f : X → Y) (k : ℕ) (xs : List X) → map f xs ≡ map_at (λ i. f) k xs
map_is f k [] = refl
map_is f k (x ∷ xs) = ap (λ ys. f x ∷ ys) (map_is f (k + 1) xs)

maps_are : {X Y : Type 0} (f : X → Y) (k : ℕ) (rows : List (List X)) → map (map f) rows ≡ map_at (λ a. map_at (λ i. f) 0) k rows
maps_are f k [] = refl
maps_are f k (r ∷ rows) = ap (λ x. x ∷ map (map f) rows) (map_is f 0 r) ∙ ap (λ xs. map_at (λ i. f) 0 r ∷ xs) (maps_are f (k + 1) rows)

---- a launch

apart : (s i a b : ℕ) → ((s ≡ a) × (i ≡ b) → ⊥) → ((s == a) && (i == b)) ≡ false
apart s i a b other = go (s == a) (i == b) refl refl
  where
    go : (p q : Bool) → (s == a) ≡ p → (i == b) ≡ q → (p && q) ≡ false
    go true true e f = absurd (other (eqb-true s a e, eqb-true i b f))
    go true false e f = refl
    go false q e f = refl

pub launched_cell : (tasks : List (List TaskRow)) (attempt : ℕ) (t : TaskId) (slot : ℕ) (row : TaskRow) → item_at tasks t.stage t.index ≡ Some row
    → with_item tasks t.stage t.index (record { running = Some (record { number = attempt; slot = slot }); losses = row.losses }) ≡ map_rows (launched attempt t slot) tasks
launched_cell tasks attempt t slot row is =
    let now : TaskRow = record { running = Some (record { number = attempt; slot = slot }); losses = row.losses } in
    let here : launched attempt t slot t.stage t.index row ≡ now =
    (λ j. cond (eq-eqb t.stage t.stage refl j && eq-eqb t.index t.index refl j) now row) in
    ap (λ r. with_item tasks t.stage t.index r) (sym here)
    ∙ cell (launched attempt t slot) tasks t.stage t.index row is (λ s i y other at. ap (λ b. cond b (record { running = Some (record { number = attempt; slot = slot }); losses = y.losses }) y) (apart s i t.stage t.index other))

---- the end of an attempt

pub ended_cell : (tasks : List (List TaskRow)) (attempt s i : ℕ) (row : TaskRow) → RunsOnly tasks attempt s i → item_at tasks s i ≡ Some row → with_item tasks s i (idle row) ≡ map (map (ended attempt)) tasks
ended_cell tasks attempt s i row r is =
    let here : runs attempt row ≡ true = ap (passes (runs attempt)) (sym is) ∙ r.runs in
    ap (λ x. with_item tasks s i x) (sym (ap (λ b. cond b (idle row) row) here))
    ∙ cell (λ t j. ended attempt) tasks s i row is (λ t j y other at. fixed t j y other at (runs attempt y) refl)
    ∙ sym (maps_are (ended attempt) 0 tasks)
  where
    fixed : (t j : ℕ) (y : TaskRow) → ((t ≡ s) × (j ≡ i) → ⊥) → item_at tasks t j ≡ Some y → (b : Bool) → runs attempt y ≡ b → ended attempt y ≡ y
    fixed t j y other at true h = absurd (other (r.only t j (ap (passes (runs attempt)) at ∙ h)))
    fixed t j y other at false h = ap (λ b. cond b (idle y) y) h

---- a seal

any_where : {X : Type 0} (test : X → Bool) (xs : List X) → list_any test xs ≡ true → (i : ℕ) × (passes test (slice_get xs i) ≡ true)
any_where test [] h = cc
any_where test (x ∷ xs) h = go (any_where test xs) (test x) refl
  where
    go : (list_any test xs ≡ true → (i : ℕ) × (passes test (slice_get xs i) ≡ true)) → (b : Bool) → test x ≡ b → (i : ℕ) × (passes test (slice_get (x ∷ xs) i) ≡ true)
    go rest true e = (0, e)
    go rest false e = let later = rest (ap (λ b. b || list_any test xs) (sym e) ∙ h) in (suc later.0, later.1)

or_true : (b : Bool) → (b || true) ≡ true
or_true true = refl
or_true false = refl

or_false : (b : Bool) → (b || false) ≡ b
or_false true = refl
or_false false = refl

any_here : {X : Type 0} (test : X → Bool) (xs : List X) (i : ℕ) → passes test (slice_get xs i) ≡ true → list_any test xs ≡ true
any_here test [] i h = cc
any_here test (x ∷ xs) zero h = ap (λ b. b || list_any test xs) h
any_here test (x ∷ xs) (suc i) h = ap (λ b. test x || b) (any_here test xs i h) ∙ or_true (test x)

not_true : (b : Bool) → (b ≡ true → ⊥) → b ≡ false
not_true true never = absurd (never refl)
not_true false never = refl

pub sealed_cell : (tasks : List (List TaskRow)) (attempt s i : ℕ) (sealed : List Bool) → RunsOnly tasks attempt s i → s < length sealed → slice_set sealed s true ≡ map_at (sealed_by tasks attempt) 0 sealed
sealed_cell tasks attempt s i sealed r lt =
    let before = get_or sealed s false in
    let here : sealed_by tasks attempt (0 + s) before ≡ true =
    ap (λ n. before || list_any (runs attempt) (row_at tasks n)) (from_none s) ∙ ap (λ b. before || b) (any_here (runs attempt) (row_at tasks s) i r.runs) ∙ or_true before in
    ap (λ b. slice_set sealed s b) (sym here)
    ∙ set_at (sealed_by tasks attempt) 0 sealed s before (slice_get-get_or sealed s false lt) (λ j b other at.
    ap (λ n. b || list_any (runs attempt) (row_at tasks n)) (from_none j)
    ∙ ap (λ x. b || x) (not_true (list_any (runs attempt) (row_at tasks j)) (λ h. let w = any_where (runs attempt) (row_at tasks j) h in other (r.only j w.0 w.1).0))
    ∙ or_false b)

---- the blocks of a commit

-- never block is made where the task doesn't run the attempt
not_made : (k : Settings) (incs : List ℕ) (attempt j : ℕ) (home : Home) (o : Option TaskRow) → (passes (runs attempt) o ≡ true → ⊥) → made k incs attempt j home (running_of o) ≡ None
not_made k incs attempt j home None never = refl
not_made k incs attempt j home (Some row) never = go row.running never
  where
    go : (r : Option Attempt) → (passes (is_number attempt) r ≡ true → ⊥) → made k incs attempt j home r ≡ None
    go None never = refl
    go (Some b) never = ap (λ c. cond c (Some (home_of k incs attempt j home b)) None) (not_true (is_number attempt b) never)

stays : (k : Settings) (incs : List ℕ) (attempt j : ℕ) (home : Home) (rows : List TaskRow) (y : Option HeldBy) → (y ≡ None → passes (runs attempt) (slice_get rows j) ≡ true → ⊥) → filled k incs attempt home rows j y ≡ y
stays k incs attempt j home rows (Some held) never = refl
stays k incs attempt j home rows None never = not_made k incs attempt j home (slice_get rows j) (never refl)

-- in the stage of the task, the one block is put
put_cell : (k : Settings) (incs : List ℕ) (home : Home) (rows : List TaskRow) (i : ℕ) (a : Attempt) (blocks : List (Option HeldBy)) → running_of (slice_get rows i) ≡ Some a
    → ((j : ℕ) → passes (runs a.number) (slice_get rows j) ≡ true → j ≡ i) → put (home_of k incs a.number i home a) i blocks ≡ map_at (filled k incs a.number home rows) 0 blocks
put_cell k incs home rows i a blocks runs_it only = go (slice_get blocks i) refl
  where
    f : ℕ → Option HeldBy → Option HeldBy
    f = filled k incs a.number home rows

    held : HeldBy
    held = home_of k incs a.number i home a

    here : filled k incs a.number home rows i None ≡ Some held
    here = ap (made k incs a.number i home) runs_it ∙ ap (λ c. cond c (Some held) None) (eq-eqb a.number a.number refl)

    all_stay : ((j : ℕ) → slice_get blocks j ≡ Some None → j ≡ i → ⊥) → blocks ≡ map_at (filled k incs a.number home rows) 0 blocks
    all_stay never =
        sym (same_at (filled k incs a.number home rows) 0 blocks (λ j y at.
        ap (λ n. filled k incs a.number home rows n y) (from_none j) ∙ stays k incs a.number j home rows y (λ e h. never j (at ∙ ap (λ x. Some x) e) (only j h))))

    go : (o : Option (Option HeldBy)) → slice_get blocks i ≡ o → put_in held i blocks o ≡ map_at (filled k incs a.number home rows) 0 blocks
    go (Some None) is =
        ap (λ x. slice_set blocks i x) (sym (ap (λ n. filled k incs a.number home rows n None) (from_none i) ∙ here))
        ∙ set_at (filled k incs a.number home rows) 0 blocks i None is (λ j y other at.
        ap (λ n. filled k incs a.number home rows n y) (from_none j) ∙ stays k incs a.number j home rows y (λ e h. other (only j h)))
    go (Some (Some before)) is = all_stay (λ j at e. let both : Some None ≡ Some (Some before) = sym at ∙ ap (slice_get blocks) e ∙ is in cc)
    go None is = all_stay (λ j at e. let both : Some None ≡ None = sym at ∙ ap (slice_get blocks) e ∙ is in cc)

filled_same : (k : Settings) (incs : List ℕ) (tasks : List (List TaskRow)) (s i : ℕ) (a : Attempt) (o : Option VertexRow) (blocks : List (Option HeldBy)) → RunsOnly tasks a.number s i → running_of (item_at tasks s i) ≡ Some a
    → filled_at k incs a s i o blocks ≡ filled_row k incs tasks a.number o blocks
filled_same k incs tasks s i a None blocks r is = refl
filled_same k incs tasks s i a (Some row) blocks r is = go (row.stage == s) refl
  where
    go : (b : Bool) → (row.stage == s) ≡ b → cond b (put (home_of k incs a.number i row.home a) i blocks) blocks ≡ map_at (filled k incs a.number row.home (row_at tasks row.stage)) 0 blocks
    go true e =
        let same : row.stage ≡ s = eqb-true row.stage s e in
        put_cell k incs row.home (row_at tasks s) i a blocks is (λ j h. (r.only s j h).1)
        ∙ ap (λ n. map_at (filled k incs a.number row.home (row_at tasks n)) 0 blocks) (sym same)
    go false e =
        sym (same_at (filled k incs a.number row.home (row_at tasks row.stage)) 0 blocks (λ j y at.
        ap (λ n. filled k incs a.number row.home (row_at tasks row.stage) n y) (from_none j)
        ∙ stays k incs a.number j row.home (row_at tasks row.stage) y (λ none h. let same : row.stage ≡ s = (r.only row.stage j h).0 in let true_too = sym (eq-eqb row.stage s same) ∙ e in cc)))

pub filled_cells : (k : Settings) (incs : List ℕ) (tasks : List (List TaskRow)) (s i : ℕ) (a : Attempt) (vertices : List VertexRow) (blocks : List (List (Option HeldBy))) → RunsOnly tasks a.number s i → running_of (item_at tasks s i) ≡ Some a
    → map_at (λ v row. filled_at k incs a s i (slice_get vertices v) row) 0 blocks ≡ map_at (λ v row. filled_row k incs tasks a.number (slice_get vertices v) row) 0 blocks
filled_cells k incs tasks s i a vertices blocks r is =
    each_same (λ v row. filled_at k incs a s i (slice_get vertices v) row) (λ v row. filled_row k incs tasks a.number (slice_get vertices v) row) 0 blocks
    (λ v row. filled_same k incs tasks s i a (slice_get vertices v) row r is)
