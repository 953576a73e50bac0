-- The different items of a list in ascending order.
use Rattle.std.specs.Prelude.{◌≡◌, List, [], ◌∷◌}
use Rattle.std.specs.BTreeSet.{insert_key}
use Rattle.std.specs.declared.cmp.Ordering.{Ordering}
use Rattle.std.specs.declared.cmp.Ordering.TheVariants.{Less}

-- each item put at its place in the order, unless it is there already
abbrev pub ascending : {X : Type 0} → (X → X → Ordering) → List X → List X
ascending R [] = []
ascending R (x ∷ xs) = insert_key R (ascending R xs) x

-- an item is below each of a list
abbrev pub Before : {X : Type 0} → (X → X → Ordering) → X → List X → Type 0
Before R x [] = Unit {0}
Before R x (y ∷ ys) = (R x y ≡ Less) × Before R x ys

-- each item of a list is below all that come after it
abbrev pub Rises : {X : Type 0} → (X → X → Ordering) → List X → Type 0
Rises R [] = Unit {0}
Rises R (x ∷ xs) = Before R x xs × Rises R xs
