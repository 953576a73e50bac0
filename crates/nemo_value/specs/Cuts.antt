-- Rows that lie one after another in one list of fields, by their widths.
use Rattle.std.specs.Prelude.{◌≡◌, ℕ, ◌≤◌, List, [], ◌∷◌, length, take, drop}

-- the parts of a list by their lengths
abbrev pub parted : {A : Type 0} → List ℕ → List A → List (List A)
parted [] items = []
parted (w ∷ ws) items = take w items ∷ parted ws (drop w items)

-- the widths are those of rows of 1 to 16 fields, and take up the whole list
abbrev pub AreWidths : {A : Type 0} → List ℕ → List A → Type 0
AreWidths [] items = items ≡ []
AreWidths (w ∷ ws) items = (1 ≤ w) × (w ≤ 16) × (w ≤ length items) × AreWidths ws (drop w items)
