-- Lists place by place.
use Rattle.std.proofs.Common.{arith, ◌≡◌, ◌∙◌, ap, sym, refl, ℕ, zero, suc, ◌+◌, ◌<◌, ◌≤◌, List, [], ◌∷◌, ◌++◌, length, slice_get, Bool, true, false, ◌||◌, Option, Some, None}
use Rattle.std.specs.Cmp.{first_so, second_so}
use Rattle.std.specs.Cmp.Derive.{both_true}
use Rattle.std.specs.List.{cons_option, filter_map, list_all, list_any}
use Rattle.nemo_value.specs.Texts.{all_new}
use Rattle.nemo_ir.specs.Along.{all_at, below, counted}
use Rattle.nemo_base.specs.Numbered.{map_at}

-- the item at a place within
pub got : {X : Type 0} (xs : List X) (i : ℕ) → i < length xs → (x : X) × (slice_get xs i ≡ Some x)
got [] i h = absurd (omega arith)
got (x ∷ xs) zero h = (x, refl)
got (x ∷ xs) (suc i) h = got xs i (omega arith)

pub next : (k i : ℕ) → (k + 1) + i ≡ k + suc i
next k i = omega arith

pub none : (k : ℕ) → k ≡ k + 0
none k = omega arith

pub map_at-length : {X Y : Type 0} (make : ℕ → X → Y) (k : ℕ) (xs : List X) → length (map_at make k xs) ≡ length xs
map_at-length make k [] = refl
map_at-length make k (x ∷ xs) = ap suc (map_at-length make (k + 1) xs)

pub map_at-get : {X Y : Type 0} (make : ℕ → X → Y) (k : ℕ) (xs : List X) (i : ℕ) (x : X) → slice_get xs i ≡ Some x → slice_get (map_at make k xs) i ≡ Some (make (k + i) x)
map_at-get make k [] i x e = cc
map_at-get make k (y ∷ ys) zero x e = ap (λ n. Some (make n y)) (none k) ∙ (let same : y ≡ x = cc in ap (λ z. Some (make (k + 0) z)) same)
map_at-get make k (y ∷ ys) (suc i) x e = map_at-get make (k + 1) ys i x e ∙ ap (λ n. Some (make n x)) (next k i)

pub list_all-each : {X : Type 0} (p : X → Bool) (xs : List X) → ((i : ℕ) (x : X) → slice_get xs i ≡ Some x → p x ≡ true) → list_all p xs ≡ true
list_all-each p [] f = refl
list_all-each p (x ∷ xs) f = both_true (f 0 x refl) (list_all-each p xs (λ i y e. f (suc i) y e))

pub list_all-map_at : {X Y : Type 0} (p : Y → Bool) (make : ℕ → X → Y) (k : ℕ) (xs : List X)
    → ((i : ℕ) (x : X) → slice_get xs i ≡ Some x → p (make (k + i) x) ≡ true) → list_all p (map_at make k xs) ≡ true
list_all-map_at p make k [] f = refl
list_all-map_at p make k (x ∷ xs) f =
    both_true (ap (λ n. p (make n x)) (none k) ∙ f 0 x refl) (list_all-map_at p make (k + 1) xs (λ i y e. ap (λ n. p (make n y)) (next k i) ∙ f (suc i) y e))

pub all_at-map_at : {X Y : Type 0} (test : ℕ → Y → Bool) (make : ℕ → X → Y) (k : ℕ) (xs : List X)
    → ((i : ℕ) (x : X) → slice_get xs i ≡ Some x → test (k + i) (make (k + i) x) ≡ true) → all_at test k (map_at make k xs) ≡ true
all_at-map_at test make k [] f = refl
all_at-map_at test make k (x ∷ xs) f =
    both_true (ap (λ n. test n (make n x)) (none k) ∙ f 0 x refl) (all_at-map_at test make (k + 1) xs (λ i y e. ap (λ n. test n (make n y)) (next k i) ∙ f (suc i) y e))

pub or_true : (b : Bool) → (b || true) ≡ true
or_true true = refl
or_true false = refl

pub list_any-at : {X : Type 0} (p : X → Bool) (xs : List X) (i : ℕ) (x : X) → slice_get xs i ≡ Some x → p x ≡ true → list_any p xs ≡ true
list_any-at p [] i x e h = cc
list_any-at p (y ∷ ys) zero x e h = let same : y ≡ x = cc in ap (λ z. p z || list_any p ys) same ∙ ap (λ b. b || list_any p ys) h
list_any-at p (y ∷ ys) (suc i) x e h = ap (λ b. p y || b) (list_any-at p ys i x e h) ∙ or_true (p y)

skip : (n : Option (List ℕ)) (more : List (List ℕ)) → n ≡ None → all_new [] more ≡ true → all_new [] (cons_option n more) ≡ true
skip (Some m) more e h = cc
skip None more e h = h

-- where the last item alone may have a name, the names differ
pub one_name : {X : Type 0} (f : X → Option (List ℕ)) (xs : List X) → ((i : ℕ) (x : X) → slice_get xs i ≡ Some x → suc i < length xs → f x ≡ None) → all_new [] (filter_map f xs) ≡ true
one_name f [] g = refl
one_name f (x ∷ []) g = alone (f x)
  where
    alone : (n : Option (List ℕ)) → all_new [] (cons_option n []) ≡ true
    alone (Some m) = refl
    alone None = refl
one_name f (x ∷ y ∷ ys) g = skip (f x) (filter_map f (y ∷ ys)) (g 0 x refl (omega arith)) (one_name f (y ∷ ys) (λ i z e h. g (suc i) z e (omega arith)))

---- from the first place on

pub from_none : (i : ℕ) → 0 + i ≡ i
from_none i = omega arith

pub map_at-whole : {X Y : Type 0} (make : ℕ → X → Y) (xs : List X) (i : ℕ) (x : X) → slice_get xs i ≡ Some x → slice_get (map_at make 0 xs) i ≡ Some (make i x)
map_at-whole make xs i x e = map_at-get make 0 xs i x e ∙ ap (λ n. Some (make n x)) (from_none i)

pub list_all-whole : {X Y : Type 0} (p : Y → Bool) (make : ℕ → X → Y) (xs : List X)
    → ((i : ℕ) (x : X) → slice_get xs i ≡ Some x → p (make i x) ≡ true) → list_all p (map_at make 0 xs) ≡ true
list_all-whole p make xs f = list_all-map_at p make 0 xs (λ i x e. ap (λ n. p (make n x)) (from_none i) ∙ f i x e)

pub all_at-whole : {X Y : Type 0} (test : ℕ → Y → Bool) (make : ℕ → X → Y) (xs : List X)
    → ((i : ℕ) (x : X) → slice_get xs i ≡ Some x → test i (make i x) ≡ true) → all_at test 0 (map_at make 0 xs) ≡ true
all_at-whole test make xs f = all_at-map_at test make 0 xs (λ i x e. ap (λ n. test n (make n x)) (from_none i) ∙ f i x e)

-- the item at a place is the one that stands there
pub same_item : {X : Type 0} (x y : X) → Some x ≡ Some y → x ≡ y
same_item x y e = cc

-- where the last place alone gives something, that is all
pub last_only : {X Y : Type 0} (make : ℕ → X → Option Y) (k : ℕ) (xs : List X) (y : Y)
    → ((i : ℕ) (x : X) → slice_get xs i ≡ Some x → suc i < length xs → make (k + i) x ≡ None)
    → ((i : ℕ) (x : X) → slice_get xs i ≡ Some x → suc i ≡ length xs → make (k + i) x ≡ Some y)
    → 1 ≤ length xs → filter_map (λ o. o) (map_at make k xs) ≡ y ∷ []
last_only make k [] y f g h = absurd (omega arith)
last_only make k (x ∷ []) y f g h = ap (λ n. cons_option (make n x) []) (none k) ∙ ap (λ o. cons_option o []) (g 0 x refl refl)
last_only make k (x ∷ z ∷ zs) y f g h =
    ap (λ n. cons_option (make n x) (filter_map (λ o. o) (map_at make (k + 1) (z ∷ zs)))) (none k)
    ∙ ap (λ o. cons_option o (filter_map (λ o. o) (map_at make (k + 1) (z ∷ zs)))) (f 0 x refl (omega arith))
    ∙ last_only make (k + 1) (z ∷ zs) y
    (λ i w e l. ap (λ n. make n w) (next k i) ∙ f (suc i) w e (omega arith))
    (λ i w e l. ap (λ n. make n w) (next k i) ∙ g (suc i) w e (omega arith)) (omega arith)

-- a list that isn't empty ends in an item
pub record Ended {X : Type 0} (xs : List X) : Type 0 where
  pub front : List X
  pub back : X
  pub is : xs ≡ front ++ back ∷ []

pub ended : {X : Type 0} (x : X) (xs : List X) → Ended (x ∷ xs)
ended x [] = record { front = []; back = x; is = refl }
ended x (y ∷ ys) = let e = ended y ys in record { front = x ∷ e.front; back = e.back; is = ap (λ zs. x ∷ zs) e.is }

pub list_all-at : {X : Type 0} (p : X → Bool) (xs : List X) (i : ℕ) (x : X) → slice_get xs i ≡ Some x → list_all p xs ≡ true → p x ≡ true
list_all-at p [] i x e h = cc
list_all-at p (y ∷ ys) zero x e h = let same : y ≡ x = cc in ap p (sym same) ∙ first_so (p y) (list_all p ys) h
list_all-at p (y ∷ ys) (suc i) x e h = list_all-at p ys i x e (second_so (p y) (list_all p ys) h)

-- each item passes at its place
pub all_at-at : {X : Type 0} (test : ℕ → X → Bool) (k : ℕ) (xs : List X) (i : ℕ) (x : X) → slice_get xs i ≡ Some x → all_at test k xs ≡ true → test (k + i) x ≡ true
all_at-at test k [] i x e h = cc
all_at-at test k (y ∷ ys) zero x e h = ap (λ n. test n x) (sym (none k)) ∙ ap (test k) (sym (same_item y x e)) ∙ first_so (test k y) (all_at test (k + 1) ys) h
all_at-at test k (y ∷ ys) (suc i) x e h = ap (λ n. test n x) (sym (next k i)) ∙ all_at-at test (k + 1) ys i x e (second_so (test k y) (all_at test (k + 1) ys) h)

---- numbers

pub counted_get : (k n i : ℕ) → i < n → slice_get (counted k n) i ≡ Some (k + i)
counted_get k zero i h = absurd (omega arith)
counted_get k (suc n) zero h = let e : k ≡ k + 0 = omega arith in ap Some e
counted_get k (suc n) (suc i) h = let e : suc k + i ≡ k + suc i = omega arith in counted_get (suc k) n i (omega arith) ∙ ap Some e

pub counted_length : (k n : ℕ) → length (counted k n) ≡ n
counted_length k zero = refl
counted_length k (suc n) = ap suc (counted_length (suc k) n)

pub below_get : (n i : ℕ) → i < n → slice_get (below n) i ≡ Some i
below_get n i h = counted_get 0 n i h ∙ ap Some (from_none i)
