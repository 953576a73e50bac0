-- Lists whose items are looked at, or changed, with their places.
use Rattle.std.specs.Prelude.{ℕ, ◌+◌, ◌&&◌, ◌||◌, ◌==◌, Bool, true, false, not, List, [], ◌∷◌, Option, Some, None, slice_get, slice_index_or}
use Rattle.std.specs.List.{list_any}

---- one item

-- whether there is one and it passes
abbrev pub passes : {X : Type 0} → (X → Bool) → Option X → Bool
passes test (Some x) = test x
passes test None = false

-- the first answer
abbrev pub or_else : {Y : Type 0} → Option Y → Option Y → Option Y
or_else (Some y) other = Some y
or_else None other = other

---- items with their places, from a place on

-- each item changed at its place
abbrev pub map_at : {X Y : Type 0} → (ℕ → X → Y) → ℕ → List X → List Y
map_at f i [] = []
map_at f i (x ∷ xs) = f i x ∷ map_at f (i + 1) xs

-- whether an item passes at its place
abbrev pub any_at : {X : Type 0} → (ℕ → X → Bool) → ℕ → List X → Bool
any_at test i [] = false
any_at test i (x ∷ xs) = test i x || any_at test (i + 1) xs

-- whether each item passes at its place
abbrev pub all_at : {X : Type 0} → (ℕ → X → Bool) → ℕ → List X → Bool
all_at test i [] = true
all_at test i (x ∷ xs) = test i x && all_at test (i + 1) xs

-- the first answer that an item has at its place
abbrev pub first_at : {X Y : Type 0} → (ℕ → X → Option Y) → ℕ → List X → Option Y
first_at f i [] = None
first_at f i (x ∷ xs) = or_else (f i x) (first_at f (i + 1) xs)

---- rows of items

-- each item of each row changed at its two places
abbrev pub map_rows : {X Y : Type 0} → (ℕ → ℕ → X → Y) → List (List X) → List (List Y)
map_rows f rows = map_at (λ a. map_at (f a) 0) 0 rows

-- a row, empty where there is none
abbrev pub row_at : {X : Type 0} → List (List X) → ℕ → List X
row_at rows a = slice_index_or rows a []

abbrev pub item_at : {X : Type 0} → List (List X) → ℕ → ℕ → Option X
item_at rows a b = slice_get (row_at rows a) b

---- lists of numbers

abbrev pub is_in : ℕ → List ℕ → Bool
is_in n ns = list_any (λ m. m == n) ns

-- whether no number comes twice
abbrev pub differ : List ℕ → Bool
differ [] = true
differ (n ∷ ns) = not (is_in n ns) && differ ns
