-- Lists of numbers.
use Rattle.std.specs.Prelude.{ℕ, zero, suc, List, [], ◌∷◌}

-- n numbers from k on
abbrev pub counted : ℕ → ℕ → List ℕ
counted k zero = []
counted k (suc n) = k ∷ counted (suc k) n

-- the numbers below n, in order
abbrev pub below : ℕ → List ℕ
below n = counted 0 n
