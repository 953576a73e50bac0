-- Lists whose items all pass a test or none does, and lists of numbers.
use Rattle.std.proofs.Common.{arith, ◌≡◌, ◌∙◌, ap, sym, refl, ℕ, zero, suc, ◌+◌, ◌-◌, ◌<◌, ◌≤◌, ◌||◌, List, [], ◌∷◌, ◌++◌, length, map, filter, cond, slice_get, Bool, true, false, replicate, Option, Some, None}
use Rattle.std.proofs.lemmas.Bool.{or_from}
use Rattle.std.proofs.lemmas.List.{length-map, replicate-append-replicate}
use Rattle.std.proofs.lemmas.Option.{slice_get-map, slice_get_within}
use Rattle.std.specs.Cmp.Derive.{both_true}
use Rattle.std.specs.List.{cons_option, filter_map, flat_map, list_all, list_any}
use Rattle.std.specs.Prelude.{option_map}
use Rattle.nemo_base.specs.Places.{map_at}
use Rattle.nemo_ir.specs.Along.{along, below, counted}
use Rattle.nemo_ir.proofs.Places.{below_get, counted_length, same_item}

---- tests

pub list_any-none : {X : Type 0} (p : X → Bool) (xs : List X) → ((i : ℕ) (x : X) → slice_get xs i ≡ Some x → p x ≡ false) → list_any p xs ≡ false
list_any-none p [] f = refl
list_any-none p (x ∷ xs) f = or_from (p x) (list_any p xs) (f 0 x refl) (list_any-none p xs (λ i y e. f (suc i) y e))

-- an item that passes, and its place
pub record Passing {X : Type 0} (p : X → Bool) (xs : List X) : Type 0 where
  pub place : ℕ
  pub item : X
  pub is : slice_get xs place ≡ Some item
  pub passes : p item ≡ true

pub list_any-some : {X : Type 0} (p : X → Bool) (xs : List X) → list_any p xs ≡ true → Passing p xs
list_any-some p [] h = cc
list_any-some p (x ∷ xs) h = go (p x) refl h (list_any-some p xs)
  where
    go : (b : Bool) → p x ≡ b → (b || list_any p xs) ≡ true → (list_any p xs ≡ true → Passing p xs) → Passing p (x ∷ xs)
    go true e g rest = record { place = 0; item = x; is = refl; passes = e }
    go false e g rest = let r = rest g in record { place = suc r.place; item = r.item; is = r.is; passes = r.passes }

---- filters

pub filter-all : {X : Type 0} (p : X → Bool) (xs : List X) → ((i : ℕ) (x : X) → slice_get xs i ≡ Some x → p x ≡ true) → filter p xs ≡ xs
filter-all p [] f = refl
filter-all p (x ∷ xs) f = ap (λ b. cond b (x ∷ filter p xs) (filter p xs)) (f 0 x refl) ∙ ap (λ ys. x ∷ ys) (filter-all p xs (λ i y e. f (suc i) y e))

pub filter-none : {X : Type 0} (p : X → Bool) (xs : List X) → ((i : ℕ) (x : X) → slice_get xs i ≡ Some x → p x ≡ false) → filter p xs ≡ []
filter-none p [] f = refl
filter-none p (x ∷ xs) f = ap (λ b. cond b (x ∷ filter p xs) (filter p xs)) (f 0 x refl) ∙ filter-none p xs (λ i y e. f (suc i) y e)

-- what holds of each item that passes holds of each of those that are filtered
pub list_all-filter : {X : Type 0} (p q : X → Bool) (xs : List X) → ((i : ℕ) (x : X) → slice_get xs i ≡ Some x → q x ≡ true → p x ≡ true) → list_all p (filter q xs) ≡ true
list_all-filter p q [] f = refl
list_all-filter p q (x ∷ xs) f = go (q x) refl (list_all-filter p q xs (λ i y e. f (suc i) y e))
  where
    go : (b : Bool) → q x ≡ b → list_all p (filter q xs) ≡ true → list_all p (cond b (x ∷ filter q xs) (filter q xs)) ≡ true
    go true e rest = both_true (f 0 x refl e) rest
    go false e rest = rest

pub list_any-filter : {X : Type 0} (p q : X → Bool) (xs : List X) → ((i : ℕ) (x : X) → slice_get xs i ≡ Some x → q x ≡ true → p x ≡ false) → list_any p (filter q xs) ≡ false
list_any-filter p q [] f = refl
list_any-filter p q (x ∷ xs) f = go (q x) refl (list_any-filter p q xs (λ i y e. f (suc i) y e))
  where
    go : (b : Bool) → q x ≡ b → list_any p (filter q xs) ≡ false → list_any p (cond b (x ∷ filter q xs) (filter q xs)) ≡ false
    go true e rest = or_from (p x) (list_any p (filter q xs)) (f 0 x refl e) rest
    go false e rest = rest

pub filter_map-none : {X Y : Type 0} (f : X → Option Y) (xs : List X) → ((x : X) → f x ≡ None) → filter_map f xs ≡ []
filter_map-none f [] h = refl
filter_map-none f (x ∷ xs) h = ap (λ o. cons_option o (filter_map f xs)) (h x) ∙ filter_map-none f xs h

pub flat_map-none : {X Y : Type 0} (f : X → List Y) (xs : List X) → ((x : X) → f x ≡ []) → flat_map f xs ≡ []
flat_map-none f [] h = refl
flat_map-none f (x ∷ xs) h = ap (λ ys. ys ++ flat_map f xs) (h x) ∙ flat_map-none f xs h

---- numbers

-- the number at a place of those below n is the place, and is below n
pub below_at : (n i v : ℕ) → slice_get (below n) i ≡ Some v → (v ≡ i) × (i < n)
below_at n i v e =
    let within : i < length (below n) = slice_get_within (below n) i v e in
    let size : length (below n) ≡ n = counted_length 0 n in
    let less : i < n = omega arith in
    (same_item v i (sym e ∙ below_get n i less), less)

-- where the last number alone passes, it is all that is left
pub filter_last : (p : ℕ → Bool) (k n : ℕ) → ((v : ℕ) → v < k + n → k ≤ v → p v ≡ false) → p (k + n) ≡ true → filter p (counted k (suc n)) ≡ (k + n) ∷ []
filter_last p k zero f g =
    let here : k ≡ k + 0 = omega arith in
    ap (λ b. cond b (k ∷ []) []) (ap p here ∙ g) ∙ ap (λ v. v ∷ []) here
filter_last p k (suc n) f g =
    let up : k + suc n ≡ suc k + n = omega arith in
    ap (λ b. cond b (k ∷ filter p (counted (suc k) (suc n))) (filter p (counted (suc k) (suc n)))) (f k (omega arith) (omega arith))
    ∙ filter_last p (suc k) n (λ v l m. f v (omega arith) (omega arith)) (ap p (sym up) ∙ g)
    ∙ ap (λ v. v ∷ []) (sym up)

-- items changed at their places, against the numbers of the places
pub map_at-counted : {X Y : Type 0} (f : ℕ → X → Y) (g : ℕ → Y) (k : ℕ) (xs : List X) → ((i : ℕ) (x : X) → slice_get xs i ≡ Some x → f (k + i) x ≡ g (k + i))
    → map_at f k xs ≡ map g (counted k (length xs))
map_at-counted f g k [] h = refl
map_at-counted f g k (x ∷ xs) h =
    let here : k ≡ k + 0 = omega arith in
    let up : k + 1 ≡ suc k = omega arith in
    (λ i. (ap (λ n. f n x) here ∙ h 0 x refl ∙ sym (ap g here)) i ∷ map_at f (up i) xs)
    ∙ ap (λ ys. g k ∷ ys) (map_at-counted f g (suc k) xs (λ i y e. let n : suc k + i ≡ k + suc i = omega arith in ap (λ m. f m y) n ∙ h (suc i) y e ∙ sym (ap g n)))

-- the next number is the first of those that are left
pub left_counted : (i n : ℕ) → i < n → counted i (n - i) ≡ i ∷ counted (i + 1) (n - (i + 1))
left_counted i n h =
    let left : n - i ≡ suc (n - (i + 1)) = omega arith in
    let up : suc i ≡ i + 1 = omega arith in
    ap (counted i) left ∙ ap (λ k. i ∷ counted k (n - (i + 1))) up

-- a number below n is the last one or is not, said in two ways
pub below_count : {X : Type 0} (f : ℕ → X) (n : ℕ) → length (map f (below n)) ≡ n
below_count f n = length-map (below n) f ∙ counted_length 0 n

pub below_item : {X : Type 0} (f : ℕ → X) (n i : ℕ) → i < n → slice_get (map f (below n)) i ≡ Some (f i)
below_item f n i h = slice_get-map f (below n) i ∙ ap (option_map f) (below_get n i h)

---- equal numbers

abbrev pub zeros : ℕ → List ℕ
zeros n = replicate n 0

pub zeros_get : (n i : ℕ) → i < n → slice_get (zeros n) i ≡ Some 0
zeros_get zero i h = absurd (omega arith)
zeros_get (suc n) zero h = refl
zeros_get (suc n) (suc i) h = zeros_get n i (omega arith)

zeros_more : (k : ℕ) → zeros k ++ zeros 1 ≡ zeros (suc k)
zeros_more k = let up : k + 1 ≡ suc k = omega arith in replicate-append-replicate k 1 0 ∙ ap (λ n. zeros n) up

-- where each step gives 0 after zeros, all are zeros
pub along_zeros : {V : Type 0} (step : List ℕ → V → ℕ) (k : ℕ) (vs : List V) → ((i : ℕ) (v : V) → slice_get vs i ≡ Some v → step (zeros (k + i)) v ≡ 0)
    → along step (zeros k) vs ≡ zeros (k + length vs)
along_zeros step k [] h = let here : k ≡ k + 0 = omega arith in ap (λ n. zeros n) here
along_zeros step k (v ∷ vs) h =
    let here : k ≡ k + 0 = omega arith in
    let up : suc k + length vs ≡ k + suc (length vs) = omega arith in
    ap (λ n. along step (zeros k ++ n ∷ []) vs) (ap (λ n. step (zeros n) v) here ∙ h 0 v refl)
    ∙ ap (λ done. along step done vs) (zeros_more k)
    ∙ along_zeros step (suc k) vs (λ i w e. let n : suc k + i ≡ k + suc i = omega arith in ap (λ m. step (zeros m) w) n ∙ h (suc i) w e)
    ∙ ap (λ n. zeros n) up
