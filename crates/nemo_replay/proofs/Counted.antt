-- Lists that are made from the numbers below n.
use Rattle.std.proofs.Common.{arith, ◌≡◌, ◌∙◌, ap, refl, ℕ, zero, suc, ◌+◌, ◌<◌, ◌≤◌, List, [], ◌∷◌, ◌++◌, length, map, replicate, slice_get, get_or, Bool, true, false, ◌&&◌, ◌||◌, Option, Some, None, add-one, cond, ◌-◌, ⊎_elim}
use Rattle.std.specs.List.{filter, list_all}
use Rattle.std.specs.Cmp.Derive.{both_true}
use Rattle.std.proofs.lemmas.Bool.{cases_order}
use Rattle.nemo_base.specs.Places.{map_at}
use Rattle.nemo_ir.specs.Along.{below, counted}
use Rattle.nemo_ir.proofs.Places.{or_true}
use Rattle.nemo_base.specs.Places.{any_at, or_else}
use Rattle.nemo_core.specs.Reading.{first_of}

---- numbers

-- what holds of each of n numbers from k on
abbrev pub Each : ℕ → ℕ → (ℕ → Type 0) → Type 0
Each k n P = (j : ℕ) → k ≤ j → j < k + n → P j

here : (k n : ℕ) (P : ℕ → Type 0) → Each k (suc n) P → P k
here k n P f = f k (omega arith) (omega arith)

next : (k n : ℕ) (P : ℕ → Type 0) → Each k (suc n) P → Each (suc k) n P
next k n P f = λ j low high. f j (omega arith) (omega arith)

from_zero : (n : ℕ) (P : ℕ → Type 0) → ((j : ℕ) → j < n → P j) → Each 0 n P
from_zero n P f = λ j low high. f j (omega arith)

pub counted_append : (k a b : ℕ) → counted k (a + b) ≡ counted k a ++ counted (k + a) b
counted_append k zero b =
    let e : 0 + b ≡ b = omega arith in
    let f : k ≡ k + 0 = omega arith in
    ap (counted k) e ∙ ap (λ x. counted x b) f
counted_append k (suc a) b =
    let e : suc a + b ≡ suc (a + b) = omega arith in
    let f : suc k + a ≡ k + suc a = omega arith in
    ap (counted k) e ∙ ap (λ js. k ∷ js) (counted_append (suc k) a b ∙ ap (λ x. counted (suc k) a ++ counted x b) f)

pub below_suc : (i : ℕ) → below (suc i) ≡ below i ++ i ∷ []
below_suc i =
    let e : suc i ≡ i + 1 = omega arith in
    let f : 0 + i ≡ i = omega arith in
    ap below e ∙ counted_append 0 i 1 ∙ ap (λ x. below i ++ x ∷ []) f

pub below_split : (i n : ℕ) → i < n → (rest : ℕ) × (suc i + rest ≡ n) × (below n ≡ below i ++ (i ∷ counted (suc i) rest))
below_split i n h =
    let rest : ℕ = n - suc i in
    let sum : suc i + rest ≡ n = omega arith in
    let e : n ≡ i + suc rest = omega arith in
    let f : 0 + i ≡ i = omega arith in
    (rest, sum, ap below e ∙ counted_append 0 i (suc rest) ∙ ap (λ x. below i ++ counted x (suc rest)) f)

---- what stands at a place

map_get_from : {X : Type 0} (h : ℕ → X) (k n i : ℕ) → i < n → slice_get (map h (counted k n)) i ≡ Some (h (k + i))
map_get_from h k zero i lt = absurd (omega arith)
map_get_from h k (suc n) zero lt = let e : k ≡ k + 0 = omega arith in ap (λ j. Some (h j)) e
map_get_from h k (suc n) (suc i) lt = let e : suc k + i ≡ k + suc i = omega arith in map_get_from h (suc k) n i (omega arith) ∙ ap (λ j. Some (h j)) e

pub map_get : {X : Type 0} (h : ℕ → X) (n i : ℕ) → i < n → slice_get (map h (below n)) i ≡ Some (h i)
map_get h n i lt = let e : 0 + i ≡ i = omega arith in map_get_from h 0 n i lt ∙ ap (λ j. Some (h j)) e

map_get_or_from : {X : Type 0} (h : ℕ → X) (d : X) (k n i : ℕ) → i < n → get_or (map h (counted k n)) i d ≡ h (k + i)
map_get_or_from h d k zero i lt = absurd (omega arith)
map_get_or_from h d k (suc n) zero lt = let e : k ≡ k + 0 = omega arith in ap h e
map_get_or_from h d k (suc n) (suc i) lt = let e : suc k + i ≡ k + suc i = omega arith in map_get_or_from h d (suc k) n i (omega arith) ∙ ap h e

pub map_get_or : {X : Type 0} (h : ℕ → X) (d : X) (n i : ℕ) → i < n → get_or (map h (below n)) i d ≡ h i
map_get_or h d n i lt = let e : 0 + i ≡ i = omega arith in map_get_or_from h d 0 n i lt ∙ ap h e

pub map_length : {X : Type 0} (h : ℕ → X) (n : ℕ) → length (map h (below n)) ≡ n
map_length h n = go 0 n
  where
    go : (k n : ℕ) → length (map h (counted k n)) ≡ n
    go k zero = refl
    go k (suc n) = ap suc (go (suc k) n)

---- maps

map_same_from : {X : Type 0} (f h : ℕ → X) (k n : ℕ) → Each k n (λ j. f j ≡ h j) → map f (counted k n) ≡ map h (counted k n)
map_same_from f h k zero e = refl
map_same_from f h k (suc n) e =
    ap (λ x. x ∷ map f (counted (suc k) n)) (here k n (λ j. f j ≡ h j) e)
    ∙ ap (λ xs. h k ∷ xs) (map_same_from f h (suc k) n (next k n (λ j. f j ≡ h j) e))

-- maps that agree at each number
pub map_same : {X : Type 0} (f h : ℕ → X) (n : ℕ) → ((j : ℕ) → j < n → f j ≡ h j) → map f (below n) ≡ map h (below n)
map_same f h n e = map_same_from f h 0 n (from_zero n (λ j. f j ≡ h j) e)

map_at_from : {X Y : Type 0} (f : ℕ → X → Y) (h : ℕ → X) (k n : ℕ) → map_at f k (map h (counted k n)) ≡ map (λ j. f j (h j)) (counted k n)
map_at_from f h k zero = refl
map_at_from f h k (suc n) =
    ap (λ j. f k (h k) ∷ map_at f j (map h (counted (suc k) n))) (add-one k)
    ∙ ap (λ xs. f k (h k) ∷ xs) (map_at_from f h (suc k) n)

pub map_at_below : {X Y : Type 0} (f : ℕ → X → Y) (h : ℕ → X) (n : ℕ) → map_at f 0 (map h (below n)) ≡ map (λ j. f j (h j)) (below n)
map_at_below f h n = map_at_from f h 0 n

pub replicate_map : {X : Type 0} (x : X) (n : ℕ) → replicate n x ≡ map (λ _. x) (below n)
replicate_map x n = go 0 n
  where
    go : (k n : ℕ) → replicate n x ≡ map (λ _. x) (counted k n)
    go k zero = refl
    go k (suc n) = ap (λ xs. x ∷ xs) (go (suc k) n)

---- tests

pub all_each : {X : Type 0} (p : X → Bool) (h : ℕ → X) (n : ℕ) → ((j : ℕ) → j < n → p (h j) ≡ true) → list_all p (map h (below n)) ≡ true
all_each p h n f = go 0 n (from_zero n (λ j. p (h j) ≡ true) f)
  where
    go : (k n : ℕ) → Each k n (λ j. p (h j) ≡ true) → list_all p (map h (counted k n)) ≡ true
    go k zero f = refl
    go k (suc n) f = both_true (here k n (λ j. p (h j) ≡ true) f) (go (suc k) n (next k n (λ j. p (h j) ≡ true) f))

and_false : (b : Bool) → (b && false) ≡ false
and_false true = refl
and_false false = refl

-- one place fails
pub all_fails : {X : Type 0} (p : X → Bool) (xs : List X) (i : ℕ) (x : X) → slice_get xs i ≡ Some x → p x ≡ false → list_all p xs ≡ false
all_fails p [] i x e h = cc
all_fails p (y ∷ ys) zero x e h = let same : y ≡ x = cc in ap (λ z. p z && list_all p ys) same ∙ ap (λ b. b && list_all p ys) h
all_fails p (y ∷ ys) (suc i) x e h = ap (λ b. p y && b) (all_fails p ys i x e h) ∙ and_false (p y)

pub any_at_none : {X : Type 0} (test : ℕ → X → Bool) (h : ℕ → X) (n : ℕ) → ((j : ℕ) → j < n → test j (h j) ≡ false) → any_at test 0 (map h (below n)) ≡ false
any_at_none test h n f = go 0 n (from_zero n (λ j. test j (h j) ≡ false) f)
  where
    go : (k n : ℕ) → Each k n (λ j. test j (h j) ≡ false) → any_at test k (map h (counted k n)) ≡ false
    go k zero f = refl
    go k (suc n) f =
        ap (λ b. b || any_at test (k + 1) (map h (counted (suc k) n))) (here k n (λ j. test j (h j) ≡ false) f)
        ∙ ap (λ j. any_at test j (map h (counted (suc k) n))) (add-one k)
        ∙ go (suc k) n (next k n (λ j. test j (h j) ≡ false) f)

any_at_some_from : {X : Type 0} (test : ℕ → X → Bool) (h : ℕ → X) (k n i : ℕ) → k ≤ i → i < k + n → test i (h i) ≡ true → any_at test k (map h (counted k n)) ≡ true
any_at_some_from test h k zero i low high e = absurd (omega arith)
any_at_some_from test h k (suc n) i low high e = ⊎_elim
    (λ same. ap (λ j. test j (h j) || any_at test (k + 1) (map h (counted (suc k) n))) same ∙ ap (λ b. b || any_at test (k + 1) (map h (counted (suc k) n))) e)
    (λ other. ap (λ j. test k (h k) || any_at test j (map h (counted (suc k) n))) (add-one k) ∙ ap (λ b. test k (h k) || b) (any_at_some_from test h (suc k) n i (⊎_elim (λ lt. lt) (λ gt. absurd (omega arith)) other) (omega arith) e) ∙ or_true (test k (h k)))
    (cases_order k i)

pub any_at_some : {X : Type 0} (test : ℕ → X → Bool) (h : ℕ → X) (n i : ℕ) → i < n → test i (h i) ≡ true → any_at test 0 (map h (below n)) ≡ true
any_at_some test h n i lt e = any_at_some_from test h 0 n i (omega arith) (omega arith) e

pub filter_none : (p : ℕ → Bool) (n : ℕ) → ((j : ℕ) → j < n → p j ≡ false) → filter p (below n) ≡ []
filter_none p n f = go 0 n (from_zero n (λ j. p j ≡ false) f)
  where
    go : (k n : ℕ) → Each k n (λ j. p j ≡ false) → filter p (counted k n) ≡ []
    go k zero f = refl
    go k (suc n) f = ap (λ b. cond b (k ∷ filter p (counted (suc k) n)) (filter p (counted (suc k) n))) (here k n (λ j. p j ≡ false) f) ∙ go (suc k) n (next k n (λ j. p j ≡ false) f)

---- the first answer

pub first_none : {Y : Type 0} (f : ℕ → Option Y) (n : ℕ) → ((j : ℕ) → j < n → f j ≡ None) → first_of f (below n) ≡ None
first_none f n e = go 0 n (from_zero n (λ j. f j ≡ None) e)
  where
    go : (k n : ℕ) → Each k n (λ j. f j ≡ None) → first_of f (counted k n) ≡ None
    go k zero e = refl
    go k (suc n) e = ap (λ o. or_else o (first_of f (counted (suc k) n))) (here k n (λ j. f j ≡ None) e) ∙ go (suc k) n (next k n (λ j. f j ≡ None) e)

first_some_from : {Y : Type 0} (f : ℕ → Option Y) (k n i : ℕ) (y : Y) → k ≤ i → i < k + n → ((j : ℕ) → j < i → f j ≡ None) → f i ≡ Some y → first_of f (counted k n) ≡ Some y
first_some_from f k zero i y low high none e = absurd (omega arith)
first_some_from f k (suc n) i y low high none e = ⊎_elim
    (λ same. ap (λ j. or_else (f j) (first_of f (counted (suc k) n))) same ∙ ap (λ o. or_else o (first_of f (counted (suc k) n))) e)
    (λ other. let lt : k < i = ⊎_elim (λ lt. lt) (λ gt. absurd (omega arith)) other in ap (λ o. or_else o (first_of f (counted (suc k) n))) (none k lt) ∙ first_some_from f (suc k) n i y lt (omega arith) none e)
    (cases_order k i)

pub first_some : {Y : Type 0} (f : ℕ → Option Y) (n i : ℕ) (y : Y) → i < n → ((j : ℕ) → j < i → f j ≡ None) → f i ≡ Some y → first_of f (below n) ≡ Some y
first_some f n i y lt none e = first_some_from f 0 n i y (omega arith) (omega arith) none e
