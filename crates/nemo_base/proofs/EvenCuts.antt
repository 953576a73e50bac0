-- One even cut more, among places that are 0; and even cuts are cuts.
use Rattle.std.proofs.Common.{◌≡◌, ℕ, zero, suc, ◌+◌, ◌*◌, ◌-◌, ◌<◌, ◌≤◌, ◌&&◌, List, [], ◌∷◌, ◌++◌, map, take, drop, length, replicate, cond, None, Some, refl, sym, ap, ◌∙◌, arith}
use Rattle.std.proofs.lemmas.Bool.{le-leb, lt-ltb}
use Rattle.std.proofs.lemmas.Grind.{div_ceil_times}
use Rattle.std.proofs.lemmas.Nat.{mul-le}
use Rattle.std.specs.Prelude.{slice_set}
use Rattle.std.specs.List.{range_with_len}
use Rattle.std.proofs.lemmas.List.{take_more_set, drop-set-lt, drop-drop, drop-replicate}
use Rattle.std.proofs.lemmas.List.FromFn.{map-range_with_len_more}
use Rattle.nemo_base.specs.Cuts.{AreCuts, bad_cut, even_cut}
use Rattle.nemo_base.proofs.NewCuts.{are_cuts}

pub even_more : (n i d : ℕ) (places : List ℕ) → i < length places → take i places ≡ map (even_cut n) (range_with_len 1 i) → d ≡ even_cut n (i + 1) → take (i + 1) (slice_set places i d) ≡ map (even_cut n) (range_with_len 1 (i + 1))
even_more n i d places room so_far is =
    take_more_set places i d room
    ∙ ap (λ done. done ++ d ∷ []) so_far
    ∙ ap (λ x. map (even_cut n) (range_with_len 1 i) ++ x ∷ []) is
    ∙ sym (map-range_with_len_more (even_cut n) 1 i (i + 1) (omega arith))

one_less : (i : ℕ) → 63 - i - 1 ≡ 63 - (i + 1)
one_less i = omega arith

-- the places after it stay 0
pub zeros_more : (places : List ℕ) (i d : ℕ) → drop i places ≡ replicate (63 - i) 0 → drop (i + 1) (slice_set places i d) ≡ replicate (63 - (i + 1)) 0
zeros_more places i d zeros =
    drop-set-lt (i + 1) places i d (omega arith)
    ∙ sym (drop-drop 1 i places)
    ∙ ap (drop 1) zeros
    ∙ drop-replicate 1 (63 - i) 0
    ∙ ap (λ n. replicate n 0) (one_less i)

-- a quotient that is rounded up is the least that reaches the number
reaches : (n i : ℕ) → 0 < n → (256 * i ≤ even_cut n i * n) × (even_cut n i * n < 256 * i + n)
reaches n i some = div_ceil_times (256 * i) n some

one_more : (q n : ℕ) → (q + 1) * n ≡ q * n + n
one_more q n = omega arith

-- they never fall
rises : (n i j : ℕ) → 0 < n → i ≤ j → even_cut n i ≤ even_cut n j
rises n i j some up = by_less (even_cut n i) (even_cut n j) (λ low.
    let over : (even_cut n j + 1) * n ≤ even_cut n i * n = mul-le (even_cut n j + 1) n (even_cut n i) n (omega (arith, low)) (omega arith) in
    omega (arith, over, one_more (even_cut n j) n, (reaches n i some).1, (reaches n j some).0, up))
  where
    by_less : (a b : ℕ) → (b < a → ⊥) → a ≤ b
    by_less a b not = omega (arith, not)

-- nor pass the number of buckets
within : (n i : ℕ) → 0 < n → i ≤ n → even_cut n i ≤ 256
within n i some few = by_more (even_cut n i) (λ high.
    let over : 257 * n ≤ even_cut n i * n = mul-le 257 n (even_cut n i) n (omega (arith, high)) (omega arith) in
    omega (arith, over, (reaches n i some).1, few))
  where
    by_more : (a : ℕ) → (256 < a → ⊥) → a ≤ 256
    by_more a not = omega (arith, not)

good_from : (n i k before : ℕ) → 0 < n → i + k ≤ 63 → i + k < n → before ≤ even_cut n (i + 1) → bad_cut i before (map (even_cut n) (range_with_len (i + 1) k)) ≡ None
good_from n i zero before some room few up = refl
good_from n i (suc k) before some room few up =
    let cut = even_cut n (i + 1) in
    let rest = map (even_cut n) (range_with_len (i + 1 + 1) k) in
    let here : i < 63 = omega (arith, room) in
    let low : cut ≤ 256 = within n (i + 1) some (omega (arith, few)) in
    (λ j. cond (lt-ltb i 63 here j && le-leb cut 256 low j && le-leb before cut up j) (bad_cut (i + 1) cut rest) (Some i))
    ∙ good_from n (i + 1) k cut some (omega (arith, room)) (omega (arith, few)) (rises n (i + 1) (i + 1 + 1) some (omega arith))

pub even_are_cuts : (n i : ℕ) (places : List ℕ) → 0 < n → i ≤ 63 → i < n → length places ≡ 63 → take i places ≡ map (even_cut n) (range_with_len 1 i) → drop i places ≡ replicate (63 - i) 0 → AreCuts places i
even_are_cuts n i places some room few size so_far zeros =
    are_cuts i places room size zeros (ap (bad_cut 0 0) so_far ∙ good_from n 0 i 0 some (omega (arith, room)) (omega (arith, few)) (omega arith))
