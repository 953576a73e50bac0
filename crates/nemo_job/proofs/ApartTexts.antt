-- Texts that all differ, and the words by which they do.
use Rattle.std.proofs.Common.{arith, ◌≡◌, ◌∙◌, sym, refl, ap, ℕ, zero, suc, ◌+◌, ◌<◌, ◌≤◌, ◌^◌, ◌==◌, List, [], ◌∷◌, ◌++◌, true, false, ◌&&◌, ◌||◌, not, cond, length, get_or, position, nat_le, take, drop, decimal, append_assoc, Some}
use Rattle.std.proofs.Math.Seq.{drop-append_seam, take-append_seam}
use Rattle.std.proofs.lemmas.Bool.{eq-eqb, eqb-true, le-leb, false_from_ne_true}
use Rattle.std.proofs.lemmas.Fmt.{decimal_is_IsNumeral}
use Rattle.std.proofs.lemmas.List.Elements.{All-append, All-head, All-tail, All-weaker}
use Rattle.std.proofs.lemmas.List.Folds.{length-prefix_len, prefix_len-append}
use Rattle.std.proofs.lemmas.List.Sums.{prefix_len-le-length}
use Rattle.std.proofs.lemmas.Option.{slice_get-get_or}
use Rattle.std.proofs.lemmas.Slice.Eq.{bytes_eq-Decides}
use Rattle.std.proofs.lemmas.Str.Parse.{digit_from_value}
use Rattle.std.specs.Cmp.{second_so}
use Rattle.std.specs.List.{All, list_any, position_or_len, prefix_len, take_while}
use Rattle.std.specs.Str.Parse.{AllDigits}
use Rattle.nemo_value.specs.Names.{is_name, is_name_byte, name_place}
use Rattle.nemo_value.specs.Texts.{all_new, same_text}
use Rattle.nemo_job.proofs.FirstPlaces.{any_at, found}

---- texts that all differ

abbrev pub Differs : List ℕ → List ℕ → Type 0
Differs a b = a ≡ b → ⊥

-- no text is equal to one after it
abbrev pub Apart : List (List ℕ) → Type 0
Apart [] = Unit {0}
Apart (x ∷ xs) = All (Differs x) xs × Apart xs

pub text_itself : (a : List ℕ) → same_text a a ≡ true
text_itself a = (bytes_eq-Decides a a).1 refl

text_differs : (a b : List ℕ) → Differs a b → same_text a b ≡ false
text_differs a b h = false_from_ne_true (same_text a b) (λ e. h ((bytes_eq-Decides a b).0 e))

-- where a key tells those of one list from those of the other
pub apart_by : (key : List ℕ → List ℕ) (word : List ℕ) (xs ys : List (List ℕ)) → Apart xs → Apart ys
    → All (λ x. key x ≡ word) xs → All (λ y. Differs word (key y)) ys → Apart (xs ++ ys)
apart_by key word [] ys a b all none = b
apart_by key word (x ∷ xs) ys a b all none =
    (All-append (Differs x) xs ys a.0 others, apart_by key word xs ys a.1 b (All-tail (λ z. key z ≡ word) x xs all) none)
  where
    others : All (Differs x) ys
    others = All-weaker (λ y. Differs word (key y)) (Differs x) (λ y d e. d (sym (All-head (λ z. key z ≡ word) x xs all) ∙ ap key e)) ys none

new_from : (seen xs : List (List ℕ)) → Apart xs → All (λ x. list_any (same_text x) seen ≡ false) xs → all_new seen xs ≡ true
new_from seen [] apart fresh = refl
new_from seen (x ∷ xs) apart fresh =
    ap (λ b. not b && all_new (x ∷ seen) xs) (All-head (λ y. list_any (same_text y) seen ≡ false) x xs fresh)
    ∙ new_from (x ∷ seen) xs apart.1 (λ k d l. both (get_or xs k d) (apart.0 k d l) (All-tail (λ y. list_any (same_text y) seen ≡ false) x xs fresh k d l))
  where
    both : (y : List ℕ) → Differs x y → list_any (same_text y) seen ≡ false → list_any (same_text y) (x ∷ seen) ≡ false
    both y d e = (λ i. text_differs y x (λ s. d (sym s)) i || e i)

pub all_new_from : (xs : List (List ℕ)) → Apart xs → all_new [] xs ≡ true
all_new_from xs apart = new_from [] xs apart (λ k d l. refl)

first_at : (xs : List (List ℕ)) (k : ℕ) (d : List ℕ) → Apart xs → k < length xs → position_or_len (same_text (get_or xs k d)) xs ≡ k
first_at [] k d apart l = absurd (omega arith)
first_at (x ∷ xs) zero d apart l = ap (λ b. cond (not b) (1 + position_or_len (same_text x) xs) 0) (text_itself x)
first_at (x ∷ xs) (suc k) d apart l =
    let y : List ℕ = get_or xs k d in
    let later : same_text y x ≡ false = text_differs y x (λ e. apart.0 k d (omega arith) (sym e)) in
    let is : position_or_len (same_text y) xs ≡ k = first_at xs k d apart.1 (omega arith) in
    ap (λ b. cond (not b) (1 + position_or_len (same_text y) xs) 0) later ∙ omega arith

-- each stands first at its own place
pub position_at : (xs : List (List ℕ)) (k : ℕ) (d : List ℕ) → Apart xs → k < length xs → position (same_text (get_or xs k d)) xs ≡ Some k
position_at xs k d apart l =
    let y : List ℕ = get_or xs k d in
    found (same_text y) xs (any_at (same_text y) xs k y (slice_get-get_or xs k d l) (text_itself y)) ∙ ap Some (first_at xs k d apart l)

---- the word after a front

-- all its bytes may stand in a name
abbrev pub IsWord : List ℕ → Type 0
IsWord s = prefix_len is_name_byte s ≡ length s

-- a text begins with this, and no byte of a name comes next
abbrev pub Begins : List ℕ → List ℕ → Type 0
Begins front text = (rest : List ℕ) × (text ≡ front ++ rest) × (prefix_len is_name_byte rest ≡ 0)

abbrev pub word_after : List ℕ → List ℕ → List ℕ
word_after front text = take_while is_name_byte (drop (length front) text)

word_size : (word rest : List ℕ) → IsWord word → prefix_len is_name_byte rest ≡ 0 → prefix_len is_name_byte (word ++ rest) ≡ length word
word_size word rest is ends =
    prefix_len-append is_name_byte word rest
    ∙ ap (λ b. cond b (length word + prefix_len is_name_byte rest) (prefix_len is_name_byte word)) (eq-eqb (prefix_len is_name_byte word) (length word) is)
    ∙ omega (arith, ends)

word_before : (word rest : List ℕ) → IsWord word → prefix_len is_name_byte rest ≡ 0 → take_while is_name_byte (word ++ rest) ≡ word
word_before word rest is ends = ap (λ n. take n (word ++ rest)) (word_size word rest is ends) ∙ take-append_seam word rest

pub word_is : (front word text : List ℕ) → IsWord word → Begins (front ++ word) text → word_after front text ≡ word
word_is front word text is begins =
    let same : text ≡ front ++ (word ++ begins.0) = begins.1 ∙ append_assoc front word begins.0 in
    ap (word_after front) same ∙ ap (take_while is_name_byte) (drop-append_seam front (word ++ begins.0)) ∙ word_before word begins.0 is begins.2

pub name_whole : (s : List ℕ) → is_name s ≡ true → name_place s ≡ length s
name_whole s h = eqb-true (name_place s) (length s) (second_so (nat_le 1 (length s)) (name_place s == length s) h)

pub name_word : (s : List ℕ) → is_name s ≡ true → IsWord s
name_word s h =
    let is : name_place s ≡ length s = name_whole s h in
    omega (arith, length-prefix_len is_name_byte s, prefix_len-le-length is_name_byte s)

digit_byte : (c : ℕ) → (48 ≤ c) × (c ≤ 57) → is_name_byte c ≡ true
digit_byte c h = rw (le-leb 48 c h.0, le-leb c 57 h.1)

digits_word : (ds : List ℕ) → AllDigits 10 ds → IsWord ds
digits_word [] h = refl
digits_word (c ∷ cs) h = ap (λ b. cond b (1 + prefix_len is_name_byte cs) 0) (digit_byte c (digit_from_value c h.0)) ∙ omega (arith, digits_word cs h.1)

pub decimal_word : (n : ℕ) → n < 2 ^ 64 → IsWord (decimal n)
decimal_word n small = digits_word (decimal n) (decimal_is_IsNumeral n small).0.1
