-- What arrays stand for item by item, each by its place.
use Rattle.std.specs.Prelude.{ℕ, ◌+◌, List, [], ◌∷◌, Option, Some, None, Result, Ok, Err}
use Rattle.serde_json.specs.Data.{Data, Items, no_items, item}

-- an item in front of the others, where it is there; else its place
abbrev pub put_first : {X : Type 0} → ℕ → Option X → Result (List X) ℕ → Result (List X) ℕ
put_first i (Some x) (Ok xs) = Ok (x ∷ xs)
put_first i (Some x) (Err place) = Err place
put_first i None others = Err i

-- what the items from place i on stand for, each by its place, or the first place at which one stands for nothing
abbrev pub each_at : {X : Type 0} → (ℕ → Data → Option X) → ℕ → Items → Result (List X) ℕ
each_at reads i no_items = Ok []
each_at reads i (item d ds) = put_first i (reads i d) (each_at reads (i + 1) ds)

-- the items of an array; what is none is refused at place 0
abbrev pub items_at : {X : Type 0} → (ℕ → Data → Option X) → Option Items → Result (List X) ℕ
items_at reads (Some ds) = each_at reads 0 ds
items_at reads None = Err 0
