-- Where a vertex is blocked: the ports behind the Main ones bring a fault.
use Rattle.std.proofs.Common.{◌≡◌, ◌∙◌, refl, sym, ap, ℕ, zero, suc, ◌+◌, ◌<◌, ◌≤◌, ◌-◌, List, [], ◌∷◌, ◌++◌, length, map, take, drop, get_or, replicate, Bool, true, false, cond, ◌||◌, arith}
use Rattle.std.specs.Prelude.{count_by}
use Rattle.std.specs.List.{list_any}
use Rattle.std.proofs.lemmas.List.Folds.{list_any_at, list_any_more}
use Rattle.std.proofs.lemmas.List.Sums.{sum_by-cons}
use Rattle.std.proofs.lemmas.List.{length-drop, take_all, drop-map, get_or-drop, length-map}
use Rattle.nemo_transform.specs.Brought.{port, blocking}
use Rattle.nemo_transform.specs.Gives.{is_filled}
use Rattle.nemo_transform.specs.Ports.{kinds_of, is_main}
use Rattle.nemo_transform.specs.declared.shape.PortKind.TheVariants.{Main, Keyed, Side}
use Rattle.nemo_transform.specs.declared.transform.Transform.{Transform}
use Rattle.nemo_transform.specs.declared.transform.Transform.TheVariants.{Source, Map, Filter, Emit, Words, Union, Reduce, Distinct, Join, SideJoin, Sink}
use Rattle.nemo_job.specs.ByPlace.{ByPlace}

abbrev pub has_faults : ByPlace → Bool
has_faults f = is_filled f.faults

filled_both : {X : Type 0} (xs ys : List X) → is_filled (xs ++ ys) ≡ is_filled xs || is_filled ys
filled_both [] ys = refl
filled_both (x ∷ xs) ys = refl

empty_only : (fs : List ByPlace) → length fs ≡ 0 → fs ≡ []
empty_only [] h = refl
empty_only (f ∷ fs) h = absurd (omega arith)

one_only : (fs : List ByPlace) → length fs ≡ 1 → list_any has_faults (drop 1 fs) ≡ false
one_only [] h = refl
one_only (f ∷ []) h = refl
one_only (f ∷ g ∷ fs) h = absurd (omega arith)

no_block : (n : ℕ) (fs : List ByPlace) → blocking (replicate n Main) fs ≡ []
no_block zero fs = refl
no_block (suc n) [] = refl
no_block (suc n) (f ∷ fs) = no_block n fs

one_plus : (n : ℕ) → 1 + n ≡ suc n
one_plus n = omega arith

mains : (n : ℕ) → count_by is_main (replicate n Main) ≡ n
mains zero = refl
mains (suc n) = sum_by-cons (λ k. cond (is_main k) 1 0) Main (replicate n Main) ∙ ap (λ m. 1 + m) (mains n) ∙ one_plus n

past_all : (n : ℕ) (fs : List ByPlace) → length fs ≡ n → drop n fs ≡ []
past_all zero fs h = empty_only fs h
past_all (suc n) [] h = refl
past_all (suc n) (f ∷ fs) h = past_all n fs (omega arith)

length_mains : (n : ℕ) → length (replicate n Main) ≡ n
length_mains zero = refl
length_mains (suc n) = omega (arith, length_mains n)

one_main : (fs : List ByPlace) → length fs ≡ 1 → is_filled (blocking (Main ∷ []) fs) ≡ list_any has_faults (drop 1 fs)
one_main [] h = refl
one_main (f ∷ fs) h = sym (one_only (f ∷ fs) h)

one_keyed : (fs : List ByPlace) → length fs ≡ 1 → is_filled (blocking (Keyed ∷ []) fs) ≡ list_any has_faults fs
one_keyed [] h = refl
one_keyed (f ∷ []) h = filled_both f.faults []
one_keyed (f ∷ g ∷ fs) h = absurd (omega arith)

two_keyed : (fs : List ByPlace) → length fs ≡ 2 → is_filled (blocking (Keyed ∷ Keyed ∷ []) fs) ≡ list_any has_faults fs
two_keyed [] h = refl
two_keyed (f ∷ []) h = filled_both f.faults []
two_keyed (f ∷ g ∷ []) h = filled_both f.faults (g.faults ++ []) ∙ ap (λ b. is_filled f.faults || b) (filled_both g.faults [])
two_keyed (f ∷ g ∷ k ∷ fs) h = absurd (omega arith)

main_side : (fs : List ByPlace) → length fs ≡ 2 → is_filled (blocking (Main ∷ Side ∷ []) fs) ≡ list_any has_faults (drop 1 fs)
main_side [] h = refl
main_side (f ∷ []) h = refl
main_side (f ∷ g ∷ []) h = filled_both g.faults []
main_side (f ∷ g ∷ k ∷ fs) h = absurd (omega arith)

pub blocked_by : (t : Transform) (fs : List ByPlace) → length fs ≡ length (kinds_of t) → is_filled (blocking (kinds_of t) fs) ≡ list_any has_faults (drop (count_by is_main (kinds_of t)) fs)
blocked_by (Source rows) fs h = sym (ap (list_any has_faults) (empty_only fs h))
blocked_by (Map out) fs h = one_main fs h
blocked_by (Filter cond) fs h = one_main fs h
blocked_by (Emit outs) fs h = one_main fs h
blocked_by (Words field) fs h = one_main fs h
blocked_by (Union ports) fs h =
    ap is_filled (no_block ports fs)
    ∙ sym (ap (list_any has_faults) (ap (λ n. drop n fs) (mains ports) ∙ past_all ports fs (h ∙ length_mains ports)))
blocked_by (Reduce by field) fs h = one_keyed fs h
blocked_by Distinct fs h = one_keyed fs h
blocked_by Join fs h = two_keyed fs h
blocked_by SideJoin fs h = main_side fs h
blocked_by (Sink name) fs h = one_main fs h

drop_rest : (xs : List ℕ) (m : ℕ) → take (length xs - m) (drop m xs) ≡ drop m xs
drop_rest xs m = take_all (length xs - m) (drop m xs) (let e = length-drop m xs in omega arith)

by_input : (vals : List ByPlace) (xs : List ℕ) → list_any has_faults (map (port vals) xs) ≡ list_any (λ j. has_faults (port vals j)) xs
by_input vals [] = refl
by_input vals (x ∷ xs) = ap (λ b. has_faults (port vals x) || b) (by_input vals xs)

-- the inputs that don't feed Main ports
abbrev pub others : ℕ → List ℕ → List ℕ
others main inputs = take (length inputs - main) (drop main inputs)

pub blocked_inputs : (t : Transform) (vals : List ByPlace) (inputs : List ℕ) (main : ℕ) → main ≡ count_by is_main (kinds_of t) → length inputs ≡ length (kinds_of t) → is_filled (blocking (kinds_of t) (map (port vals) inputs)) ≡ list_any (λ j. has_faults (port vals j)) (others main inputs)
blocked_inputs t vals inputs main is size =
    blocked_by t (map (port vals) inputs) (length-map inputs (port vals) ∙ size)
    ∙ ap (list_any has_faults) (drop-map (port vals) (count_by is_main (kinds_of t)) inputs)
    ∙ by_input vals (drop (count_by is_main (kinds_of t)) inputs)
    ∙ ap (list_any (λ j. has_faults (port vals j))) (ap (λ m. drop m inputs) (sym is) ∙ sym (drop_rest inputs main))

-- an input behind the Main ports by its number
pub other_at : (inputs : List ℕ) (main k : ℕ) → get_or (others main inputs) k 0 ≡ get_or inputs (main + k) 0
other_at inputs main k = ap (λ l. get_or l k 0) (drop_rest inputs main) ∙ get_or-drop main inputs k 0

pub other_below : (inputs : List ℕ) (main k : ℕ) → k < length (others main inputs) → main + k < length inputs
other_below inputs main k low =
    let e : length (others main inputs) ≡ length inputs - main = ap length (drop_rest inputs main) ∙ length-drop main inputs in
    omega arith

-- a Keyed or Side port that brings faults
pub blocked_at : (t : Transform) (vals : List ByPlace) (inputs : List ℕ) (main k : ℕ) → main ≡ count_by is_main (kinds_of t) → length inputs ≡ length (kinds_of t) → k < length (others main inputs) → has_faults (port vals (get_or inputs (main + k) 0)) ≡ true → true ≡ is_filled (blocking (kinds_of t) (map (port vals) inputs))
blocked_at t vals inputs main k is size low so =
    sym (blocked_inputs t vals inputs main is size
    ∙ list_any_at (λ j. has_faults (port vals j)) (others main inputs) k 0 low (ap (λ j. has_faults (port vals j)) (other_at inputs main k) ∙ so))

pub free_more : (vals : List ByPlace) (inputs : List ℕ) (main k : ℕ) → k < length (others main inputs) → has_faults (port vals (get_or inputs (main + k) 0)) ≡ false → list_any (λ j. has_faults (port vals j)) (take k (others main inputs)) ≡ false → list_any (λ j. has_faults (port vals j)) (take (k + 1) (others main inputs)) ≡ false
free_more vals inputs main k low so before =
    list_any_more (λ j. has_faults (port vals j)) (others main inputs) k 0 low
    ∙ (λ z. before z || (ap (λ j. has_faults (port vals j)) (other_at inputs main k) ∙ so) z)

pub free_after : (t : Transform) (vals : List ByPlace) (inputs : List ℕ) (main k : ℕ) → main ≡ count_by is_main (kinds_of t) → length inputs ≡ length (kinds_of t) → length (others main inputs) ≤ k → list_any (λ j. has_faults (port vals j)) (take k (others main inputs)) ≡ false → false ≡ is_filled (blocking (kinds_of t) (map (port vals) inputs))
free_after t vals inputs main k is size high so =
    sym (blocked_inputs t vals inputs main is size ∙ ap (list_any (λ j. has_faults (port vals j))) (sym (take_all k (others main inputs) high)) ∙ so)
