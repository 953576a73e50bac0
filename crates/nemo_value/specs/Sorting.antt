-- A list in an order.
use Rattle.std.specs.Prelude.{List, [], ◌∷◌, if◌then◌else◌}
use Rattle.std.specs.Cmp.{IsTotalOrder}
use Rattle.std.specs.FinMap.{IsAntisymmetric}
use Rattle.std.specs.Ordering.{is_lt}
use Rattle.std.specs.declared.cmp.Ordering.{Ordering}

-- an item in front of the first that isn't below it
abbrev pub placed : {X : Type 0} → (X → X → Ordering) → X → List X → List X
placed R x [] = x ∷ []
placed R x (y ∷ ys) = if is_lt (R y x) then y ∷ placed R x ys else x ∷ y ∷ ys

-- the items in ascending order, each as often as it comes
abbrev pub sorted : {X : Type 0} → (X → X → Ordering) → List X → List X
sorted R [] = []
sorted R (x ∷ xs) = placed R x (sorted R xs)

-- a total order under which items that tie are equal
pub record IsStrict {X : Type 0} (R : X → X → Ordering) : Type 0 where
  pub total : IsTotalOrder R
  pub one : IsAntisymmetric R
