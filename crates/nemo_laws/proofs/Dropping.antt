-- The drops of a hold are allowed one after another.
use Rattle.std.proofs.Common.{arith, ◌≡◌, ◌∙◌, ap, sym, refl, ℕ, ◌+◌, ◌<◌, ◌≤◌, ◌⊎◌, inl, inr, ⊎_elim, ◌==◌, ◌&&◌, List, [], ◌∷◌, ◌++◌, map, Bool, true, false, filter, None, Some, Option}
use Rattle.std.specs.Prelude.{is_none, is_some, not, if◌then◌else◌}
use Rattle.std.specs.List.{flat_map}
use Rattle.std.proofs.lemmas.Bool.{and_parts, eqb-true, cases_Bool}
use Rattle.nemo_base.specs.Places.{item_at, map_at}
use Rattle.nemo_base.specs.Settings.{SettingsForm}
use Rattle.nemo_base.specs.Sound.{is_sound}
use Rattle.nemo_base.specs.declared.graph.TaskGraph.{TaskGraph}
use Rattle.nemo_base.specs.declared.id.BlockId.{BlockId}
use Rattle.nemo_core.specs.State.{State, held_at, is_wanted}
use Rattle.nemo_core.specs.Step.{after, conditions, refusal}
use Rattle.nemo_core.specs.declared.event.Event.TheVariants.{Drop}
use Rattle.nemo_core.specs.declared.event.HeldBy.{HeldBy}
use Rattle.nemo_core.specs.Run.{Reaches, run_on}
use Rattle.nemo_base.specs.declared.why.Why.{Why}
use Rattle.nemo_core.proofs.Allowed.{are_met, none_fails}
use Rattle.nemo_core.proofs.Blocks.{held_dropped}
use Rattle.nemo_core.proofs.Changed.{item_map_rows, on}
use Rattle.nemo_core.proofs.Staying.{drop_needs}
use Rattle.nemo_laws.specs.Holds.{block, blocks_in, drops, may_drop}
use Rattle.nemo_laws.proofs.Every.{Every, every_append, every_both, every_filter, every_more, passed}
use Rattle.nemo_laws.proofs.Logs.{Allowed, reaches_own}

---- one drop more

some_on : {X Y : Type 0} (f : X → Y) (o : Option X) → is_some (on f o) ≡ is_some o
some_on f (Some x) = refl
some_on f None = refl

abbrev IsSame : BlockId → BlockId → Bool
IsSame b c = (c.vertex == b.vertex) && (c.task == b.task)

-- the drop of one block leaves that of another
drop_stays : (g : TaskGraph) (k : SettingsForm) (s : State) (b c : BlockId) → is_sound g ≡ true → IsSame b c ≡ false → refusal g k s (Drop b) ≡ None → refusal g k s (Drop c) ≡ None
    → refusal g k (after g k s (Drop b)) (Drop c) ≡ None
drop_stays g k s b c sound other first second =
    let m = are_met (conditions g k s (Drop c)) second in
    let there : is_some (item_at (after g k s (Drop b)).blocks c.vertex c.task) ≡ true =
    ap is_some (item_map_rows (λ v i held. if (v == b.vertex) && (i == b.task) then None else held) s.blocks c.vertex c.task)
    ∙ some_on (λ held. if (c.vertex == b.vertex) && (c.task == b.task) then None else held) (item_at s.blocks c.vertex c.task) ∙ m.1.0 in
    let held : is_some (held_at (after g k s (Drop b)) c.vertex c.task) ≡ true =
    ap is_some (held_dropped g k s (Drop b) b.vertex b.task c.vertex c.task refl) ∙ ap (λ x. is_some (if x then None else held_at s c.vertex c.task)) other ∙ m.1.1.0 in
    let unwanted : not (is_wanted g (after g k s (Drop b)) c.vertex c.task) ≡ true = ap not (drop_needs g k s b sound first c.vertex c.task).1 ∙ m.1.1.1.1.0 in
    none_fails (conditions g k (after g k s (Drop b)) (Drop c)) (m.0, (there, (held, (m.1.1.1.0, (unwanted, tt)))))

---- blocks in order

abbrev IsPast : BlockId → BlockId → Type 0
IsPast b c = (b.vertex < c.vertex) ⊎ ((b.vertex ≡ c.vertex) × (b.task < c.task))

abbrev Rising : List BlockId → Type 0
Rising [] = Unit {0}
Rising (b ∷ bs) = Every (IsPast b) bs × Rising bs

past_other : (b c : BlockId) → IsPast b c → IsSame b c ≡ false
past_other b c past = ⊎_elim
    (λ same. let p = and_parts (c.vertex == b.vertex) (c.task == b.task) same in
    let v : c.vertex ≡ b.vertex = eqb-true c.vertex b.vertex p.0 in
    let i : c.task ≡ b.task = eqb-true c.task b.task p.1 in
    absurd (⊎_elim (λ less. omega (arith, v, less)) (λ less. let low : b.task < c.task = less.1 in omega (arith, i, low)) past))
    (λ no. no)
    (cases_Bool (IsSame b c))

rising_append : (xs ys : List BlockId) → Rising xs → Rising ys → Every (λ x. Every (IsPast x) ys) xs → Rising (xs ++ ys)
rising_append [] ys a b c = b
rising_append (x ∷ xs) ys a b c = (every_append (IsPast x) xs ys a.0 c.0, rising_append xs ys a.1 b c.1)

rising_filter : (test : BlockId → Bool) (xs : List BlockId) → Rising xs → Rising (filter test xs)
rising_filter test [] h = tt
rising_filter test (x ∷ xs) h = go (test x) (every_filter (IsPast x) test xs h.0, rising_filter test xs h.1)
  where
    go : (b : Bool) → Rising (x ∷ filter test xs) → Rising (if b then x ∷ filter test xs else filter test xs)
    go true r = r
    go false r = r.1

-- the blocks of one vertex, from a task on
abbrev IsFrom : ℕ → ℕ → BlockId → Type 0
IsFrom v i b = (b.vertex ≡ v) × (i ≤ b.task)

row_from : (v i : ℕ) (row : List (Option HeldBy)) → Every (IsFrom v i) (map_at (λ i held. block v i) i row)
row_from v i [] = tt
row_from v i (x ∷ row) = ((refl, omega arith), every_more (IsFrom v (i + 1)) (IsFrom v i) (map_at (λ i held. block v i) (i + 1) row) (λ b f. (f.0, let low : i + 1 ≤ b.task = f.1 in omega (arith, low))) (row_from v (i + 1) row))

row_rising : (v i : ℕ) (row : List (Option HeldBy)) → Rising (map_at (λ i held. block v i) i row)
row_rising v i [] = tt
row_rising v i (x ∷ row) = (
  every_more (IsFrom v (i + 1)) (IsPast (block v i)) (map_at (λ i held. block v i) (i + 1) row) (λ b f. inr (sym f.0, let low : i + 1 ≤ b.task = f.1 in omega (arith, low))) (row_from v (i + 1) row),
  row_rising v (i + 1) row,
)

abbrev all_from : ℕ → List (List (Option HeldBy)) → List BlockId
all_from v rows = flat_map (λ row. row) (map_at (λ v row. map_at (λ i held. block v i) 0 row) v rows)

rows_from : (v : ℕ) (rows : List (List (Option HeldBy))) → Every (λ b. v ≤ b.vertex) (all_from v rows)
rows_from v [] = tt
rows_from v (row ∷ rows) =
    every_append (λ b. v ≤ b.vertex) (map_at (λ i held. block v i) 0 row) (all_from (v + 1) rows)
    (every_more (IsFrom v 0) (λ b. v ≤ b.vertex) (map_at (λ i held. block v i) 0 row) (λ b f. let e : b.vertex ≡ v = f.0 in omega (arith, e)) (row_from v 0 row))
    (every_more (λ b. v + 1 ≤ b.vertex) (λ b. v ≤ b.vertex) (all_from (v + 1) rows) (λ b low. omega (arith, low)) (rows_from (v + 1) rows))

rows_rising : (v : ℕ) (rows : List (List (Option HeldBy))) → Rising (all_from v rows)
rows_rising v [] = tt
rows_rising v (row ∷ rows) =
    rising_append (map_at (λ i held. block v i) 0 row) (all_from (v + 1) rows) (row_rising v 0 row) (rows_rising (v + 1) rows)
    (every_more (IsFrom v 0) (λ x. Every (IsPast x) (all_from (v + 1) rows)) (map_at (λ i held. block v i) 0 row)
    (λ x f. every_more (λ b. v + 1 ≤ b.vertex) (IsPast x) (all_from (v + 1) rows) (λ b low. inl (let e : x.vertex ≡ v = f.0 in omega (arith, low, e))) (rows_from (v + 1) rows))
    (row_from v 0 row))

---- all drops

one_by_one : (g : TaskGraph) (k : SettingsForm) (bs : List BlockId) (s : State) → is_sound g ≡ true → Rising bs → Every (λ b. refusal g k s (Drop b) ≡ None) bs → Allowed g k s (map Drop bs)
one_by_one g k [] s sound rising may = tt
one_by_one g k (b ∷ bs) s sound rising may = (
  may.0,
  one_by_one g k bs (after g k s (Drop b)) sound rising.1
      (every_both (IsPast b) (λ c. refusal g k s (Drop c) ≡ None) (λ c. refusal g k (after g k s (Drop b)) (Drop c) ≡ None) bs
      (λ c past second. drop_stays g k s b c sound (past_other b c past) may.0 second) rising.0 may.1),
)

pub none_is : (o : Option Why) → is_none o ≡ true → o ≡ None
none_is None h = refl
none_is (Some w) h = cc

pub drops_allowed : (g : TaskGraph) (k : SettingsForm) (s : State) → is_sound g ≡ true → Allowed g k s (drops g k s)
drops_allowed g k s sound =
    one_by_one g k (filter (may_drop g k s) (blocks_in s)) s sound (rising_filter (may_drop g k s) (blocks_in s) (rows_rising 0 s.blocks))
    (every_more (λ b. may_drop g k s b ≡ true) (λ b. refusal g k s (Drop b) ≡ None) (filter (may_drop g k s) (blocks_in s)) (λ b h. none_is (refusal g k s (Drop b)) h) (passed (may_drop g k s) (blocks_in s)))

pub drops_reach : (g : TaskGraph) (k : SettingsForm) (s : State) → is_sound g ≡ true → Reaches g k s (drops g k s) (run_on g k s (drops g k s))
drops_reach g k s sound = reaches_own g k (drops g k s) s (drops_allowed g k s sound)
