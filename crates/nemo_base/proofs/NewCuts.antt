-- One entry more of a list that becomes cuts.
use Rattle.std.proofs.Common.{arith, ◌≡◌, ◌≤◌, ◌∙◌, sym, ap, refl, ℕ, ◌+◌, ◌-◌, ◌<◌, ◌&&◌, List, [], ◌∷◌, ◌++◌, Bool, true, false, cond, nat_le, nat_lt, get_or, take, drop, length, replicate, None, Some}
use Rattle.std.specs.Prelude.{slice_set}
use Rattle.std.proofs.lemmas.Bool.{le-leb, le-ltb, lt-leb, lt-ltb}
use Rattle.std.proofs.lemmas.List.{at_drop_more, length-take-le, take-append-drop, take_more, take_more_set}
use Rattle.nemo_base.specs.Cuts.{AreCuts, bad_cut}

pub good_more : (i before : ℕ) (list : List ℕ) → i < length list → i < 63 → get_or list i 0 ≤ 256 → before ≤ get_or list i 0
    → bad_cut i before (drop i list) ≡ bad_cut (i + 1) (get_or list i 0) (drop (i + 1) list)
good_more i before list within room low up =
    let rest = drop (i + 1) list in
    let cut = get_or list i 0 in
    at_drop_more (bad_cut i before) list i 0 within
    ∙ (λ j. cond (lt-ltb i 63 room j && le-leb cut 256 low j && le-leb before cut up j) (bad_cut (i + 1) cut rest) (Some i))

pub same_more : (i : ℕ) (places list : List ℕ) → i < length list → i < length places → take i places ≡ take i list → take (i + 1) (slice_set places i (get_or list i 0)) ≡ take (i + 1) list
same_more i places list within room so_far =
    take_more_set places i (get_or list i 0) room ∙ ap (λ done. done ++ get_or list i 0 ∷ []) so_far ∙ sym (take_more list i 0 within)

-- an entry that isn't good
pub bad_here : (i before : ℕ) (list : List ℕ) → i < length list → (nat_lt i 63 && nat_le (get_or list i 0) 256 && nat_le before (get_or list i 0)) ≡ false → bad_cut i before (drop i list) ≡ Some i
bad_here i before list within bad =
    at_drop_more (bad_cut i before) list i 0 within ∙ (λ j. cond (bad j) (bad_cut (i + 1) (get_or list i 0) (drop (i + 1) list)) (Some i))

pub one_too_many : (i : ℕ) (b c : Bool) → 63 ≤ i → (nat_lt i 63 && b && c) ≡ false
one_too_many i b c many = ap (λ a. a && b && c) (le-ltb i 63 many)

pub too_great : (a : Bool) (cut : ℕ) (c : Bool) → 256 < cut → (a && nat_le cut 256 && c) ≡ false
too_great true cut c great = ap (λ b. b && c) (lt-leb cut 256 great)
too_great false cut c great = refl

pub falls : (a b : Bool) (before cut : ℕ) → cut < before → (a && b && nat_le before cut) ≡ false
falls true true before cut low = lt-leb before cut low
falls true false before cut low = refl
falls false b before cut low = refl

-- places whose first are the cuts, and the others 0
pub are_cuts : (n : ℕ) (places : List ℕ) → n ≤ 63 → length places ≡ 63 → drop n places ≡ replicate (63 - n) 0 → bad_cut 0 0 (take n places) ≡ None → AreCuts places n
are_cuts n places few room zeros good =
    let counted : length (take n places) ≡ n = length-take-le n places (omega (arith, few, room)) in
    record {
      few = few;
      counted = counted;
      rest = ap (λ m. take n places ++ replicate (63 - m) 0) counted ∙ ap (λ l. take n places ++ l) (sym zeros) ∙ take-append-drop n places;
      good = good;
    }
