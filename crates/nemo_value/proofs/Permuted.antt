-- Lists up to order: joined, and made of what each item gives.
use Rattle.std.proofs.Common.{◌≡◌, ◌∙◌, ap, refl, sym, subst, zero, suc, List, [], ◌∷◌, ◌++◌, append-nil, append_assoc, Bool, true, false, cond, map, length, arith, Option, Some, None}
use Rattle.std.specs.List.{cons_option, filter, filter_map, flat_map}
use Rattle.nemo_value.proofs.Perm.{Perm, none, keep, swap, then, unmoved}

module _ {A : Type 0} where
  pub is : {xs ys : List A} → xs ≡ ys → Perm xs ys
  is {xs} e = subst (λ l. Perm xs l) e (unmoved xs)

  pub left : {xs ys : List A} (zs : List A) → Perm xs ys → Perm (xs ++ zs) (ys ++ zs)
  left zs none = unmoved zs
  left zs (keep x p) = keep x (left zs p)
  left zs (swap x y l) = swap x y (l ++ zs)
  left zs (then p q) = then (left zs p) (left zs q)

  pub right : {xs ys : List A} (zs : List A) → Perm xs ys → Perm (zs ++ xs) (zs ++ ys)
  right [] p = p
  right (z ∷ zs) p = keep z (right zs p)

  pub both : {xs ys us vs : List A} → Perm xs ys → Perm us vs → Perm (xs ++ us) (ys ++ vs)
  both {xs} {ys} {us} {vs} p q = then (left us p) (right ys q)

  middle : (x : A) (xs ys : List A) → Perm (x ∷ (xs ++ ys)) (xs ++ x ∷ ys)
  middle x [] ys = unmoved (x ∷ ys)
  middle x (y ∷ xs) ys = then (swap x y (xs ++ ys)) (keep y (middle x xs ys))

  pub turn : (xs ys : List A) → Perm (xs ++ ys) (ys ++ xs)
  turn [] ys = is (sym (append-nil ys))
  turn (x ∷ xs) ys = then (keep x (turn xs ys)) (middle x ys xs)

  -- the second and the third of four change places
  cross : (a b c d : List A) → Perm ((a ++ b) ++ (c ++ d)) ((a ++ c) ++ (b ++ d))
  cross a b c d =
      let e : (a ++ b) ++ (c ++ d) ≡ a ++ ((b ++ c) ++ d) = append_assoc a b (c ++ d) ∙ ap (λ l. a ++ l) (sym (append_assoc b c d)) in
      let f : a ++ ((c ++ b) ++ d) ≡ (a ++ c) ++ (b ++ d) = ap (λ l. a ++ l) (append_assoc c b d) ∙ sym (append_assoc a c (b ++ d)) in
      then (is e) (then (right a (left d (turn b c))) (is f))

-- what each item gives
pub mapped : {A B : Type 0} (f : A → List B) {xs ys : List A} → Perm xs ys → Perm (flat_map f xs) (flat_map f ys)
mapped f none = none
mapped f (keep x p) = right (f x) (mapped f p)
mapped f (swap x y l) = then (is (sym (append_assoc (f x) (f y) (flat_map f l)))) (then (left (flat_map f l) (turn (f x) (f y))) (is (append_assoc (f y) (f x) (flat_map f l))))
mapped f (then p q) = then (mapped f p) (mapped f q)

-- two answers of each item, apart
pub apart : {A B : Type 0} (f g : A → List B) (xs : List A) → Perm (flat_map (λ x. f x ++ g x) xs) (flat_map f xs ++ flat_map g xs)
apart f g [] = none
apart f g (x ∷ xs) = then (right (f x ++ g x) (apart f g xs)) (cross (f x) (g x) (flat_map f xs) (flat_map g xs))

cons_perm : {B : Type 0} (o : Option B) {xs ys : List B} → Perm xs ys → Perm (cons_option o xs) (cons_option o ys)
cons_perm None p = p
cons_perm (Some x) p = keep x p

cons_swap : {B : Type 0} (o q : Option B) (l : List B) → Perm (cons_option o (cons_option q l)) (cons_option q (cons_option o l))
cons_swap None q l = unmoved (cons_option q l)
cons_swap (Some x) None l = unmoved (x ∷ l)
cons_swap (Some x) (Some y) l = swap x y l

-- those items that are some
pub chosen : {A B : Type 0} (h : A → Option B) {xs ys : List A} → Perm xs ys → Perm (filter_map h xs) (filter_map h ys)
chosen h none = none
chosen h (keep x p) = cons_perm (h x) (chosen h p)
chosen h (swap x y l) = cons_swap (h x) (h y) (filter_map h l)
chosen h (then p q) = then (chosen h p) (chosen h q)

-- two that give the same up to order on each item
pub alike : {A B : Type 0} (f g : A → List B) (xs : List A) → ((x : A) → Perm (f x) (g x)) → Perm (flat_map f xs) (flat_map g xs)
alike f g [] h = none
alike f g (x ∷ xs) h = both (h x) (alike f g xs h)

pub through : {A B : Type 0} (f : A → B) {xs ys : List A} → Perm xs ys → Perm (map f xs) (map f ys)
through f none = none
through f (keep x p) = keep (f x) (through f p)
through f (swap x y l) = swap (f x) (f y) (map f l)
through f (then p q) = then (through f p) (through f q)

module _ {A : Type 0} where
  -- those items that pass a test
  pub passing : (p : A → Bool) {xs ys : List A} → Perm xs ys → Perm (filter p xs) (filter p ys)
  passing p none = none
  passing p (keep x q) = one (p x) (passing p q)
    where
      one : (b : Bool) {us vs : List A} → Perm us vs → Perm (cond b (x ∷ us) us) (cond b (x ∷ vs) vs)
      one true q = keep x q
      one false q = q
  passing p (swap x y l) = two (p x) (p y)
    where
      two : (b c : Bool) → Perm (cond b (x ∷ cond c (y ∷ filter p l) (filter p l)) (cond c (y ∷ filter p l) (filter p l))) (cond c (y ∷ cond b (x ∷ filter p l) (filter p l)) (cond b (x ∷ filter p l) (filter p l)))
      two true true = swap x y (filter p l)
      two true false = unmoved (x ∷ filter p l)
      two false true = unmoved (y ∷ filter p l)
      two false false = unmoved (filter p l)
  passing p (then q r) = then (passing p q) (passing p r)

same_length : {A : Type 0} {xs ys : List A} → Perm xs ys → length xs ≡ length ys
same_length none = refl
same_length (keep x p) = ap suc (same_length p)
same_length (swap x y l) = refl
same_length (then p q) = same_length p ∙ same_length q

pub not_empty : {A : Type 0} (x : A) (xs : List A) → Perm [] (x ∷ xs) → ⊥
not_empty x xs p = let l : zero ≡ suc (length xs) = same_length p in omega arith
