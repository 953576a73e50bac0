-- Lists that are joined of what each item gives.
use Rattle.std.proofs.Common.{◌≡◌, ◌∙◌, ap, refl, List, [], ◌∷◌, ◌++◌, Bool, true, false, cond, map, Option}
use Rattle.std.specs.List.{filter, filter_map, flat_map}
use Rattle.std.proofs.lemmas.List.{map-append}
use Rattle.std.proofs.lemmas.List.Concat.{flat_map-append}
use Rattle.std.proofs.lemmas.List.Elements.{filter_map-append}

-- two that give the same on each item
pub flat_same : {A B : Type 0} (f g : A → List B) (xs : List A) → ((x : A) → f x ≡ g x) → flat_map f xs ≡ flat_map g xs
flat_same f g [] h = refl
flat_same f g (x ∷ xs) h = λ i. h x i ++ flat_same f g xs h i

pub flat_none : {A B : Type 0} (f : A → List B) (xs : List A) → ((x : A) → f x ≡ []) → flat_map f xs ≡ []
flat_none f [] h = refl
flat_none f (x ∷ xs) h = λ i. h x i ++ flat_none f xs h i

pub flat_flat : {A B C : Type 0} (g : B → List C) (f : A → List B) (xs : List A) → flat_map g (flat_map f xs) ≡ flat_map (λ x. flat_map g (f x)) xs
flat_flat g f [] = refl
flat_flat g f (x ∷ xs) = flat_map-append g (f x) (flat_map f xs) ∙ ap (λ l. flat_map g (f x) ++ l) (flat_flat g f xs)

pub flat_over_map : {A B C : Type 0} (g : B → List C) (f : A → B) (xs : List A) → flat_map g (map f xs) ≡ flat_map (λ x. g (f x)) xs
flat_over_map g f [] = refl
flat_over_map g f (x ∷ xs) = ap (λ l. g (f x) ++ l) (flat_over_map g f xs)

pub map_flat : {A B C : Type 0} (g : B → C) (f : A → List B) (xs : List A) → map g (flat_map f xs) ≡ flat_map (λ x. map g (f x)) xs
map_flat g f [] = refl
map_flat g f (x ∷ xs) = map-append g (f x) (flat_map f xs) ∙ ap (λ l. map g (f x) ++ l) (map_flat g f xs)

pub chosen_flat : {A B C : Type 0} (h : B → Option C) (f : A → List B) (xs : List A) → filter_map h (flat_map f xs) ≡ flat_map (λ x. filter_map h (f x)) xs
chosen_flat h f [] = refl
chosen_flat h f (x ∷ xs) = filter_map-append h (f x) (flat_map f xs) ∙ ap (λ l. filter_map h (f x) ++ l) (chosen_flat h f xs)

pub map_map : {A B C : Type 0} (g : B → C) (f : A → B) (xs : List A) → map g (map f xs) ≡ map (λ x. g (f x)) xs
map_map g f [] = refl
map_map g f (x ∷ xs) = ap (λ l. g (f x) ∷ l) (map_map g f xs)

module _ {A : Type 0} where
  flat_cond : {B : Type 0} (f g : A → List B) (x : A) (xs : List A) (b : Bool) → (b ≡ true → f x ≡ g x) → flat_map f xs ≡ flat_map g xs → flat_map f (cond b (x ∷ xs) xs) ≡ flat_map g (cond b (x ∷ xs) xs)
  flat_cond f g x xs true h e = λ i. h refl i ++ e i
  flat_cond f g x xs false h e = e

  -- two that give the same where a test holds
  pub flat_agree : {B : Type 0} (p : A → Bool) (f g : A → List B) (xs : List A) → ((x : A) → p x ≡ true → f x ≡ g x) → flat_map f (filter p xs) ≡ flat_map g (filter p xs)
  flat_agree p f g [] h = refl
  flat_agree p f g (x ∷ xs) h = flat_cond f g x (filter p xs) (p x) (h x) (flat_agree p f g xs h)

  filter_cond : (p q : A → Bool) (x : A) (xs : List A) (b : Bool) → p x ≡ b → (q x ≡ true → p x ≡ true) → filter q (filter p xs) ≡ filter q xs → filter q (cond b (x ∷ filter p xs) (filter p xs)) ≡ filter q (x ∷ xs)
  filter_cond p q x xs true e h r = ap (λ l. cond (q x) (x ∷ l) l) r
  filter_cond p q x xs false e h r = r ∙ no (q x) refl
    where
      no : (c : Bool) → q x ≡ c → filter q xs ≡ cond c (x ∷ filter q xs) (filter q xs)
      no true d = absurd (let t = h d in cc)
      no false d = refl

  -- a test that another one follows from
  pub filter_within : (p q : A → Bool) (xs : List A) → ((x : A) → q x ≡ true → p x ≡ true) → filter q (filter p xs) ≡ filter q xs
  filter_within p q [] h = refl
  filter_within p q (x ∷ xs) h = filter_cond p q x xs (p x) refl (h x) (filter_within p q xs h)

module _ {A B : Type 0} (f : A → B) where
  map_cond : (b : Bool) (x : A) (xs : List A) → map f (cond b (x ∷ xs) xs) ≡ cond b (f x ∷ map f xs) (map f xs)
  map_cond true x xs = refl
  map_cond false x xs = refl

  pub map_filter : (q : B → Bool) (xs : List A) → map f (filter (λ x. q (f x)) xs) ≡ filter q (map f xs)
  map_filter q [] = refl
  map_filter q (x ∷ xs) = map_cond (q (f x)) x (filter (λ y. q (f y)) xs) ∙ ap (λ l. cond (q (f x)) (f x ∷ l) l) (map_filter q xs)
