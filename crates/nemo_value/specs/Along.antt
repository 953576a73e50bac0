-- Lists made entry by entry.
use Rattle.std.specs.Prelude.{List, [], ◌∷◌, ◌++◌}

-- a list of entries, each made of those before it
abbrev pub along : {V A : Type 0} → (List A → V → A) → List A → List V → List A
along step done [] = done
along step done (v ∷ vs) = along step (done ++ step done v ∷ []) vs
