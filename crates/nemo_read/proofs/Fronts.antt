-- Lists that are read item by item.
use Rattle.std.proofs.Common.{◌≡◌, refl, ◌++◌, ◌∷◌, [], List, append_assoc, Option, Some, None}
use Rattle.nemo_read.specs.Parts.{with_first}

-- items in front of the others, where the others are there
abbrev pub with_front : {X : Type 0} → List X → Option (List X) → Option (List X)
with_front xs (Some ys) = Some (xs ++ ys)
with_front xs None = None

pub with_front_more : {X : Type 0} (xs : List X) (x : X) (others : Option (List X)) → with_front (xs ++ x ∷ []) others ≡ with_front xs (with_first (Some x) others)
with_front_more xs x (Some ys) = simp append_assoc
with_front_more xs x None = refl
