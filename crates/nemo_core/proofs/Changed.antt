-- What stands at a place of rows that were changed, and what stood there before.
use Rattle.std.proofs.Common.{arith, ◌≡◌, ◌∙◌, ap, sym, refl, ℕ, zero, suc, ◌+◌, List, [], ◌∷◌, map, length, slice_get, Option, Some, None}
use Rattle.nemo_base.specs.Places.{item_at, map_at, map_rows, row_at}

---- what stood there

-- an item is made of the one that was there
pub record Was {X Y : Type 0} (make : X → Y) (found : Option X) (y : Y) : Type 0 where
  pub item : X
  pub there : found ≡ Some item
  pub is : y ≡ make item

next : (k i : ℕ) → (k + 1) + i ≡ k + suc i
next k i = omega arith

none : (k : ℕ) → k ≡ k + 0
none k = omega arith

pub from_none : (k : ℕ) → 0 + k ≡ k
from_none k = omega arith

same_item : {X Y : Type 0} (f : X → Y) (x : X) (y : Y) → Some (f x) ≡ Some y → f x ≡ y
same_item f x y e = cc

pub map_back : {X Y : Type 0} (make : X → Y) (xs : List X) (i : ℕ) (y : Y) → slice_get (map make xs) i ≡ Some y → Was make (slice_get xs i) y
map_back make [] i y e = cc
map_back make (x ∷ xs) zero y e = record { item = x; there = refl; is = sym (same_item make x y e) }
map_back make (x ∷ xs) (suc i) y e = map_back make xs i y e

pub map_at_back : {X Y : Type 0} (make : ℕ → X → Y) (k : ℕ) (xs : List X) (i : ℕ) (y : Y) → slice_get (map_at make k xs) i ≡ Some y → Was (make (k + i)) (slice_get xs i) y
map_at_back make k [] i y e = cc
map_at_back make k (x ∷ xs) zero y e = record { item = x; there = refl; is = sym (same_item (make k) x y e) ∙ ap (λ n. make n x) (none k) }
map_at_back make k (x ∷ xs) (suc i) y e =
    let w = map_at_back make (k + 1) xs i y e in
    record { item = w.item; there = w.there; is = w.is ∙ ap (λ n. make n w.item) (next k i) }

-- from the first place on
pub at_back : {X Y : Type 0} (make : ℕ → X → Y) (xs : List X) (i : ℕ) (y : Y) → slice_get (map_at make 0 xs) i ≡ Some y → Was (make i) (slice_get xs i) y
at_back make xs i y e =
    let w = map_at_back make 0 xs i y e in
    record { item = w.item; there = w.there; is = w.is ∙ ap (λ n. make n w.item) (from_none i) }

pub row_map : {X Y : Type 0} (make : List X → List Y) (rows : List (List X)) (a : ℕ) → make [] ≡ [] → row_at (map make rows) a ≡ make (row_at rows a)
row_map make [] a empty = sym empty
row_map make (r ∷ rows) zero empty = refl
row_map make (r ∷ rows) (suc a) empty = row_map make rows a empty

pub row_map_at : {X Y : Type 0} (make : ℕ → List X → List Y) (k : ℕ) (rows : List (List X)) (a : ℕ) → ((n : ℕ) → make n [] ≡ []) → row_at (map_at make k rows) a ≡ make (k + a) (row_at rows a)
row_map_at make k [] a empty = sym (empty (k + a))
row_map_at make k (r ∷ rows) zero empty = ap (λ n. make n r) (none k)
row_map_at make k (r ∷ rows) (suc a) empty = row_map_at make (k + 1) rows a empty ∙ ap (λ n. make n (row_at rows a)) (next k a)

pub item_each : {X Y : Type 0} (make : X → Y) (rows : List (List X)) (a b : ℕ) (y : Y) → item_at (map (map make) rows) a b ≡ Some y → Was make (item_at rows a b) y
item_each make rows a b y e = map_back make (row_at rows a) b y (sym (ap (λ r. slice_get r b) (row_map (map make) rows a refl)) ∙ e)

pub item_rows : {X Y : Type 0} (make : ℕ → ℕ → X → Y) (rows : List (List X)) (a b : ℕ) (y : Y) → item_at (map_rows make rows) a b ≡ Some y → Was (make a b) (item_at rows a b) y
item_rows make rows a b y e =
    let row = row_map_at (λ n. map_at (make n) 0) 0 rows a (λ n. refl) ∙ ap (λ n. map_at (make n) 0 (row_at rows a)) (from_none a) in
    let w = map_at_back (make a) 0 (row_at rows a) b y (sym (ap (λ r. slice_get r b) row) ∙ e) in
    record { item = w.item; there = w.there; is = w.is ∙ ap (λ n. make a n w.item) (from_none b) }

---- what stands there

-- a change of an item that may be there
abbrev pub on : {X Y : Type 0} → (X → Y) → Option X → Option Y
on f (Some x) = Some (f x)
on f None = None

pub get_map : {X Y : Type 0} (f : X → Y) (xs : List X) (i : ℕ) → slice_get (map f xs) i ≡ on f (slice_get xs i)
get_map f [] i = refl
get_map f (x ∷ xs) zero = refl
get_map f (x ∷ xs) (suc i) = get_map f xs i

get_map_from : {X Y : Type 0} (f : ℕ → X → Y) (k : ℕ) (xs : List X) (i : ℕ) → slice_get (map_at f k xs) i ≡ on (f (k + i)) (slice_get xs i)
get_map_from f k [] i = refl
get_map_from f k (x ∷ xs) zero = ap (λ n. Some (f n x)) (none k)
get_map_from f k (x ∷ xs) (suc i) = get_map_from f (k + 1) xs i ∙ ap (λ n. on (f n) (slice_get xs i)) (next k i)

pub get_map_at : {X Y : Type 0} (f : ℕ → X → Y) (xs : List X) (i : ℕ) → slice_get (map_at f 0 xs) i ≡ on (f i) (slice_get xs i)
get_map_at f xs i = get_map_from f 0 xs i ∙ ap (λ n. on (f n) (slice_get xs i)) (from_none i)

pub item_map : {X Y : Type 0} (f : X → Y) (rows : List (List X)) (a b : ℕ) → item_at (map (map f) rows) a b ≡ on f (item_at rows a b)
item_map f rows a b = ap (λ r. slice_get r b) (row_map (map f) rows a refl) ∙ get_map f (row_at rows a) b

-- a row that is changed as a whole
pub item_row : {X Y : Type 0} (f : ℕ → List X → List Y) (rows : List (List X)) (a b : ℕ) → ((n : ℕ) → f n [] ≡ []) → item_at (map_at f 0 rows) a b ≡ slice_get (f a (row_at rows a)) b
item_row f rows a b empty = ap (λ r. slice_get r b) (row_map_at f 0 rows a empty ∙ ap (λ n. f n (row_at rows a)) (from_none a))

pub item_map_rows : {X Y : Type 0} (f : ℕ → ℕ → X → Y) (rows : List (List X)) (a b : ℕ) → item_at (map_rows f rows) a b ≡ on (f a b) (item_at rows a b)
item_map_rows f rows a b = item_row (λ n. map_at (f n) 0) rows a b (λ n. refl) ∙ get_map_at (f a) (row_at rows a) b

---- lengths

pub length_map_at : {X Y : Type 0} (f : ℕ → X → Y) (k : ℕ) (xs : List X) → length (map_at f k xs) ≡ length xs
length_map_at f k [] = refl
length_map_at f k (x ∷ xs) = ap suc (length_map_at f (k + 1) xs)

pub lengths_map : {X Y : Type 0} (f : List X → List Y) (rows : List (List X)) → ((r : List X) → length (f r) ≡ length r) → map length (map f rows) ≡ map length rows
lengths_map f [] same = refl
lengths_map f (r ∷ rows) same = ap (λ n. n ∷ map length (map f rows)) (same r) ∙ ap (λ ns. length r ∷ ns) (lengths_map f rows same)

pub lengths_map_at : {X Y : Type 0} (f : ℕ → List X → List Y) (k : ℕ) (rows : List (List X)) → ((n : ℕ) (r : List X) → length (f n r) ≡ length r) → map length (map_at f k rows) ≡ map length rows
lengths_map_at f k [] same = refl
lengths_map_at f k (r ∷ rows) same = ap (λ n. n ∷ map length (map_at f (k + 1) rows)) (same k r) ∙ ap (λ ns. length r ∷ ns) (lengths_map_at f (k + 1) rows same)
