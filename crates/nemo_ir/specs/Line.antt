-- Lines: flat jobs in which each vertex takes the one before it.
use Rattle.std.specs.Prelude.{◌≡◌, ℕ, zero, suc, List, [], ◌∷◌, map}
use Rattle.nemo_base.specs.Numbered.{map_at}
use Rattle.nemo_ir.specs.Flat.{FlatForm}

-- the number before this one, if there is one
abbrev pub one_before : ℕ → List ℕ
one_before zero = []
one_before (suc i) = i ∷ []

-- each vertex takes the one before it alone, and the first takes none
abbrev pub IsLine : FlatForm → Type 0
IsLine flat = map (λ x. x.inputs) flat.vertices ≡ map_at (λ i x. one_before i) 0 flat.vertices
