-- Rows that are put behind others, and that are taken off.
use Rattle.std.proofs.Common.{◌≡◌, ◌∙◌, ap, sym, subst, refl, ℕ, zero, suc, ◌+◌, ◌-◌, ◌≤◌, List, [], ◌∷◌, ◌++◌, length, take, drop, arith}
use Rattle.std.proofs.lemmas.List.{drop-append-le, take-append-le, take_all, take-append-drop, length-append, length-drop}
use Rattle.std.proofs.Math.Seq.{take-append_seam}
use Rattle.nemo_value.specs.Cuts.{AreWidths, parted}

front : {A : Type 0} (l : List A) (x : A) → take (length (l ++ x ∷ []) - 1) (l ++ x ∷ []) ≡ l
front l x =
    let e = length-append l (x ∷ []) in
    let n : length (l ++ x ∷ []) - 1 ≡ length l = omega arith in
    ap (λ k. take k (l ++ x ∷ [])) n ∙ take-append_seam l (x ∷ [])

module _ {A : Type 0} where
  pub parted_length : (ws : List ℕ) (xs : List A) → length (parted ws xs) ≡ length ws
  parted_length [] xs = refl
  parted_length (w ∷ ws) xs = ap suc (parted_length ws (drop w xs))

  drop_all : (xs : List A) → drop (length xs) xs ≡ []
  drop_all [] = refl
  drop_all (x ∷ xs) = drop_all xs

  -- a row behind others
  pub widths_more : (ws : List ℕ) (xs row : List A) → 1 ≤ length row → length row ≤ 16 → AreWidths ws xs → AreWidths (ws ++ length row ∷ []) (xs ++ row)
  widths_more [] [] row some few h = (some, few, omega arith, drop_all row)
  widths_more [] (x ∷ xs) row some few h = let e = ap length h in absurd (omega arith)
  widths_more (w ∷ ws) xs row some few h = (h.0, h.1, rw (length-append xs row) (omega arith), rw (drop-append-le w xs row h.2) (widths_more ws (drop w xs) row some few h.3))

  pub parted_more : (ws : List ℕ) (xs row : List A) → AreWidths ws xs → parted (ws ++ length row ∷ []) (xs ++ row) ≡ parted ws xs ++ row ∷ []
  parted_more [] [] row h = ap (λ r. r ∷ []) (take_all (length row) row (omega arith))
  parted_more [] (x ∷ xs) row h = let e = ap length h in absurd (omega arith)
  parted_more (w ∷ ws) xs row h = rw (take-append-le w xs row h.2) (rw (drop-append-le w xs row h.2) (ap (λ l. take w xs ∷ l) (parted_more ws (drop w xs) row h.3)))

  -- rows behind others
  pub widths_joined : (ws us : List ℕ) (xs ys : List A) → AreWidths ws xs → AreWidths us ys → AreWidths (ws ++ us) (xs ++ ys)
  widths_joined [] us [] ys h g = g
  widths_joined [] us (x ∷ xs) ys h g = let e = ap length h in absurd (omega arith)
  widths_joined (w ∷ ws) us xs ys h g = (h.0, h.1, rw (length-append xs ys) (omega arith), rw (drop-append-le w xs ys h.2) (widths_joined ws us (drop w xs) ys h.3 g))

  pub parted_joined : (ws us : List ℕ) (xs ys : List A) → AreWidths ws xs → parted (ws ++ us) (xs ++ ys) ≡ parted ws xs ++ parted us ys
  parted_joined [] us [] ys h = refl
  parted_joined [] us (x ∷ xs) ys h = let e = ap length h in absurd (omega arith)
  parted_joined (w ∷ ws) us xs ys h = rw (take-append-le w xs ys h.2) (rw (drop-append-le w xs ys h.2) (ap (λ l. take w xs ∷ l) (parted_joined ws us (drop w xs) ys h.3)))

  -- the last width is within the list
  pub last_within : (ws : List ℕ) (w : ℕ) (xs : List A) → AreWidths (ws ++ w ∷ []) xs → w ≤ length xs
  last_within [] w xs h = h.2
  last_within (u ∷ ws) w xs h = let g = last_within ws w (drop u xs) h.3 in let e = length-drop u xs in omega arith

  -- the last row is taken off
  pub widths_less : (ws : List ℕ) (xs row : List A) → AreWidths (ws ++ length row ∷ []) (xs ++ row) → AreWidths ws xs
  widths_less [] [] row h = refl
  widths_less [] (x ∷ xs) row h =
      let e = length-drop (length row) (x ∷ xs ++ row) in
      let g = ap length h.3 in
      let l = length-append xs row in
      absurd (omega arith)
  widths_less (w ∷ ws) xs row h =
      let g = last_within ws (length row) (drop w (xs ++ row)) h.3 in
      let e = length-drop w (xs ++ row) in
      let l = length-append xs row in
      let k : w ≤ length xs = omega arith in
      (h.0, h.1, k, widths_less ws (drop w xs) row (subst (λ ys. AreWidths (ws ++ length row ∷ []) ys) (drop-append-le w xs row k) h.3))

  -- the same where the list is cut before it
  pub widths_cut : (ws : List ℕ) (w : ℕ) (xs : List A) → AreWidths (ws ++ w ∷ []) xs → AreWidths ws (take (length xs - w) xs)
  widths_cut ws w xs h =
      let n : ℕ = length xs - w in
      let g = last_within ws w xs h in
      let e = length-drop n xs in
      let size : length (drop n xs) ≡ w = omega arith in
      widths_less ws (take n xs) (drop n xs)
      (subst (λ v. AreWidths (ws ++ v ∷ []) (take n xs ++ drop n xs)) (sym size) (subst (λ ys. AreWidths (ws ++ w ∷ []) ys) (sym (take-append-drop n xs)) h))

  pub parted_cut : (ws : List ℕ) (w : ℕ) (xs : List A) → AreWidths (ws ++ w ∷ []) xs
      → parted ws (take (length xs - w) xs) ≡ take (length (parted (ws ++ w ∷ []) xs) - 1) (parted (ws ++ w ∷ []) xs)
  parted_cut ws w xs h =
      let n : ℕ = length xs - w in
      let g = last_within ws w xs h in
      let e = length-drop n xs in
      let size : length (drop n xs) ≡ w = omega arith in
      let all : parted (ws ++ w ∷ []) xs ≡ parted ws (take n xs) ++ drop n xs ∷ [] =
      subst (λ ys. parted (ws ++ w ∷ []) ys ≡ parted ws (take n xs) ++ drop n xs ∷ []) (take-append-drop n xs)
      (subst (λ v. parted (ws ++ v ∷ []) (take n xs ++ drop n xs) ≡ parted ws (take n xs) ++ drop n xs ∷ []) size (parted_more ws (take n xs) (drop n xs) (widths_cut ws w xs h))) in
      rw all (sym (front (parted ws (take n xs)) (drop n xs)))
