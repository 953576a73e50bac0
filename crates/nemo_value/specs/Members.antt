-- The members of a list.
use Rattle.std.specs.Prelude.{◌≡◌, ◌⊎◌, ◌↔◌, List, [], ◌∷◌}

abbrev pub In : {A : Type 0} → A → List A → Type 0
In x [] = ⊥
In x (y ∷ ys) = (x ≡ y) ⊎ In x ys

-- two lists as one set
pub record SameMembers {A : Type 0} (xs ys : List A) : Type 0 where
  pub members : (x : A) → In x xs ↔ In x ys
