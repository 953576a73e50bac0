-- Cuts are numbers of 16 bits.
use Rattle.std.proofs.Common.{◌≡◌, refl, sym, ap, ◌∙◌, ◌+◌, ◌^◌, ◌&&◌, ℕ, List, ◌∷◌, Option, Some, None, Bool, true, false, nat_lt, nat_le, if◌then◌else◌, option_and_then, is_none, arith}
use Rattle.serde_json.specs.Data.{Data, Items, no_items, item}
use Rattle.serde_json.specs.Find.{as_array}
use Rattle.nemo_base.specs.Cuts.{bad_cut}
use Rattle.nemo_read.specs.Parts.{array_of, each, number_of, short_of, tested, with_first}
use Rattle.nemo_bundle.specs.Scripts.{are_cuts, cuts_of}

-- whether the cuts from place i on, after this one, are cuts
abbrev are_from : ℕ → ℕ → List ℕ → Bool
are_from i before cuts = is_none (bad_cut i before cuts)

abbrev is_next : ℕ → ℕ → ℕ → Bool
is_next i before n = nat_lt i 63 && nat_le n 256 && nat_le before n

-- the first of them is tested, and then the others
abbrev with_next : Bool → ℕ → ℕ → Option (List ℕ) → Option (List ℕ)
with_next b i n cuts = if b then with_first (Some n) (tested (are_from (i + 1) n) cuts) else None

kept_first : (n : ℕ) (ns : List ℕ) (b : Bool) → (if b then Some (n ∷ ns) else None) ≡ with_first (Some n) (if b then Some ns else None)
kept_first n ns true = refl
kept_first n ns false = refl

some_next : (i n : ℕ) (ns : List ℕ) (b : Bool)
    → (if is_none (if b then bad_cut (i + 1) n ns else Some i) then Some (n ∷ ns) else None) ≡ with_next b i n (Some ns)
some_next i n ns true = kept_first n ns (is_none (bad_cut (i + 1) n ns))
some_next i n ns false = refl

none_next : (i n : ℕ) (b : Bool) → None ≡ with_next b i n None
none_next i n true = refl
none_next i n false = refl

tested_first : (i before n : ℕ) (cuts : Option (List ℕ)) → tested (are_from i before) (with_first (Some n) cuts) ≡ with_next (is_next i before n) i n cuts
tested_first i before n (Some ns) = some_next i n ns (is_next i before n)
tested_first i before n None = none_next i n (is_next i before n)

long_next : (i before n : ℕ) → nat_lt n (2 ^ 16) ≡ false → is_next i before n ≡ false
long_next i before n h = grind arith

module _ (i before : ℕ) (numbers shorts : Option (List ℕ)) (same : (n : ℕ) → tested (are_from (i + 1) n) numbers ≡ tested (are_from (i + 1) n) shorts) where
  same_short : (n : ℕ) (b : Bool) → nat_lt n (2 ^ 16) ≡ b
      → tested (are_from i before) (with_first (Some n) numbers) ≡ tested (are_from i before) (with_first (if b then Some n else None) shorts)
  same_short n true h =
      tested_first i before n numbers
      ∙ ap (λ (cuts : Option (List ℕ)). if is_next i before n then with_first (Some n) cuts else None) (same n)
      ∙ sym (tested_first i before n shorts)
  same_short n false h = tested_first i before n numbers ∙ ap (λ (b : Bool). with_next b i n numbers) (long_next i before n h)

  same_first : (n : Option ℕ) → tested (are_from i before) (with_first n numbers) ≡ tested (are_from i before) (with_first (tested (λ n. nat_lt n (2 ^ 16)) n) shorts)
  same_first (Some n) = same_short n (nat_lt n (2 ^ 16)) refl
  same_first None = refl

same_items : (ds : Items) (i before : ℕ) → tested (are_from i before) (each number_of ds) ≡ tested (are_from i before) (each short_of ds)
same_items no_items i before = refl
same_items (item d ds) i before = same_first i before (each number_of ds) (each short_of ds) (λ n. same_items ds (i + 1) n) (number_of d)

same_array : (ds : Option Items) → tested are_cuts (option_and_then (each number_of) ds) ≡ tested are_cuts (option_and_then (each short_of) ds)
same_array (Some ds) = same_items ds 0 0
same_array None = refl

pub cuts_by_short : (d : Data) → cuts_of d ≡ tested are_cuts (array_of short_of d)
cuts_by_short d = same_array (as_array d)
