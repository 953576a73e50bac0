-- The members of lists that are joined, mapped, chosen and filtered, and lists with the same members.
use Rattle.std.proofs.Common.{◌≡◌, ◌∙◌, refl, sym, ap, subst, List, [], ◌∷◌, ◌++◌, Bool, true, false, cond, map, append-nil, inl, inr, Option, Some, None}
use Rattle.std.specs.Prelude.{◌⊎◌, ◌↔◌, filter}
use Rattle.std.specs.List.{filter_map, flat_map, cons_option}
use Rattle.nemo_value.proofs.Members.{In, SameMembers, in_perm}
use Rattle.nemo_value.proofs.Perm.{Perm, back}

pub either : {A : Type 0} (z : A) (xs ys : List A) → In z (xs ++ ys) ↔ In z xs ⊎ In z ys
either z [] ys = (λ h. inr h, λ h. elim h [ inl a ↦ absurd a | inr b ↦ b ])
either z (x ∷ xs) ys = (
  λ h. elim h [ inl a ↦ inl (inl a) | inr b ↦ elim ((either z xs ys).0 b) [ inl c ↦ inl (inr c) | inr d ↦ inr d ] ],
  λ h. elim h [ inl a ↦ elim a [ inl c ↦ inl c | inr d ↦ inr ((either z xs ys).1 (inl d)) ] | inr b ↦ inr ((either z xs ys).1 (inr b)) ],
)

pub in_map : {A B : Type 0} (f : A → B) (x : A) (xs : List A) → In x xs → In (f x) (map f xs)
in_map f x [] m = elim m [ ]
in_map f x (y ∷ ys) (inl e) = inl (ap f e)
in_map f x (y ∷ ys) (inr h) = inr (in_map f x ys h)

pub in_flat : {A B : Type 0} (f : A → List B) (z : B) (xs : List A) → In z (flat_map f xs) → (x : A) × In x xs × In z (f x)
in_flat f z [] h = absurd h
in_flat f z (x ∷ xs) h = elim ((either z (f x) (flat_map f xs)).0 h) [ inl a ↦ (x, inl refl, a) | inr b ↦ (let s = in_flat f z xs b in (s.0, inr s.1, s.2)) ]

pub flat_in : {A B : Type 0} (f : A → List B) (z : B) (x : A) (xs : List A) → In x xs → In z (f x) → In z (flat_map f xs)
flat_in f z x [] m n = elim m [ ]
flat_in f z x (y ∷ ys) (inl e) m = (either z (f y) (flat_map f ys)).1 (inl (subst (λ w. In z (f w)) e m))
flat_in f z x (y ∷ ys) (inr h) m = (either z (f y) (flat_map f ys)).1 (inr (flat_in f z x ys h m))

pub in_chosen : {A B : Type 0} (h : A → Option B) (z : B) (xs : List A) → In z (filter_map h xs) → (x : A) × In x xs × (h x ≡ Some z)
in_chosen h z [] m = absurd m
in_chosen {A} {B} h z (x ∷ xs) m = go (h x) refl (in_chosen h z xs) m
  where
    go : (o : Option B) → h x ≡ o → (In z (filter_map h xs) → (y : A) × In y xs × (h y ≡ Some z)) → In z (cons_option o (filter_map h xs)) → (y : A) × In y (x ∷ xs) × (h y ≡ Some z)
    go None e ih m = let s = ih m in (s.0, inr s.1, s.2)
    go (Some w) e ih (inl same) = (x, inl refl, e ∙ ap Some (sym same))
    go (Some w) e ih (inr n) = let s = ih n in (s.0, inr s.1, s.2)

pub chosen_in : {A B : Type 0} (h : A → Option B) (z : B) (x : A) (xs : List A) → In x xs → h x ≡ Some z → In z (filter_map h xs)
chosen_in h z x [] m e = elim m [ ]
chosen_in h z x (y ∷ ys) (inl same) e = subst (λ o. In z (cons_option o (filter_map h ys))) (sym e ∙ ap h same) (inl refl)
chosen_in {B = B} h z x (y ∷ ys) (inr m) e = go (h y) (chosen_in h z x ys m e)
  where
    go : (o : Option B) → In z (filter_map h ys) → In z (cons_option o (filter_map h ys))
    go None n = n
    go (Some w) n = inr n

pub in_filter : {A : Type 0} (p : A → Bool) (x : A) (xs : List A) → In x (filter p xs) → In x xs
in_filter p x [] m = absurd m
in_filter {A} p x (y ∷ ys) m = go (p y) (in_filter p x ys) m
  where
    go : (b : Bool) → (In x (filter p ys) → In x ys) → In x (cond b (y ∷ filter p ys) (filter p ys)) → In x (y ∷ ys)
    go true ih (inl e) = inl e
    go true ih (inr n) = inr (ih n)
    go false ih n = inr (ih n)

pub filter_in : {A : Type 0} (p : A → Bool) (x : A) (xs : List A) → In x xs → p x ≡ true → In x (filter p xs)
filter_in p x [] m e = elim m [ ]
filter_in p x (y ∷ ys) (inl same) e = subst (λ b. In x (cond b (y ∷ filter p ys) (filter p ys))) (sym e ∙ ap p same) (inl same)
filter_in p x (y ∷ ys) (inr m) e = go (p y) (filter_in p x ys m e)
  where
    go : (b : Bool) → In x (filter p ys) → In x (cond b (y ∷ filter p ys) (filter p ys))
    go true n = inr n
    go false n = n

pub map_in : {A B : Type 0} (f : A → B) (z : B) (xs : List A) → In z (map f xs) → (x : A) × In x xs × (z ≡ f x)
map_in f z [] m = absurd m
map_in f z (x ∷ xs) (inl e) = (x, inl refl, e)
map_in f z (x ∷ xs) (inr m) = let s = map_in f z xs m in (s.0, inr s.1, s.2)

pub passes : {A : Type 0} (p : A → Bool) (x : A) (xs : List A) → In x (filter p xs) → p x ≡ true
passes p x [] m = absurd m
passes {A} p x (y ∷ ys) m = go (p y) refl (passes p x ys) m
  where
    go : (b : Bool) → p y ≡ b → (In x (filter p ys) → p x ≡ true) → In x (cond b (y ∷ filter p ys) (filter p ys)) → p x ≡ true
    go true e ih (inl same) = ap p same ∙ e
    go true e ih (inr n) = ih n
    go false e ih n = ih n

---- lists with the same members

module _ {A : Type 0} where
  pub same_is : {xs ys : List A} → xs ≡ ys → SameMembers xs ys
  same_is {xs} e = subst (SameMembers xs) e (record { members = λ z. (λ h. h, λ h. h) })

  pub same_then : {xs ys zs : List A} → SameMembers xs ys → SameMembers ys zs → SameMembers xs zs
  same_then a b = record { members = λ z. (λ h. (b.members z).0 ((a.members z).0 h), λ h. (a.members z).1 ((b.members z).1 h)) }

  pub same_perm : {xs ys : List A} → Perm xs ys → SameMembers xs ys
  same_perm p = record { members = λ z. (in_perm z p, in_perm z (back p)) }

  pub same_append : {xs ys us vs : List A} → SameMembers xs ys → SameMembers us vs → SameMembers (xs ++ us) (ys ++ vs)
  same_append {xs} {ys} {us} {vs} a b = record {
    members = λ z. (
      λ h. (either z ys vs).1 (elim ((either z xs us).0 h) [ inl m ↦ inl ((a.members z).0 m) | inr m ↦ inr ((b.members z).0 m) ]),
      λ h. (either z xs us).1 (elim ((either z ys vs).0 h) [ inl m ↦ inl ((a.members z).1 m) | inr m ↦ inr ((b.members z).1 m) ]),
    );
  }

  pub none_in : (xs : List A) → SameMembers xs [] → xs ≡ []
  none_in [] h = refl
  none_in (x ∷ xs) h = absurd ((h.members x).0 (inl refl))

module _ {A B : Type 0} where
  -- what the members give
  pub same_flat : (f g : A → List B) (xs : List A) → ((x : A) → SameMembers (f x) (g x)) → SameMembers (flat_map f xs) (flat_map g xs)
  same_flat f g [] h = same_is refl
  same_flat f g (x ∷ xs) h = same_append (h x) (same_flat f g xs h)

  pub same_map : (f : A → B) {xs ys : List A} → SameMembers xs ys → SameMembers (map f xs) (map f ys)
  same_map f {xs} {ys} a = record { members = λ z. (go xs ys (λ x. (a.members x).0) z, go ys xs (λ x. (a.members x).1) z) }
    where
      go : (us vs : List A) → ((x : A) → In x us → In x vs) → (z : B) → In z (map f us) → In z (map f vs)
      go us vs h z m = let s = map_in f z us m in subst (λ w. In w (map f vs)) (sym s.2) (in_map f s.0 vs (h s.0 s.1))

  -- the same from each item of a list that isn't empty
  pub same_each : (f : A → List B) (us : List B) (x : A) (xs : List A) → ((y : A) → SameMembers (f y) us) → SameMembers (flat_map f (x ∷ xs)) us
  same_each f us x [] h = subst (λ l. SameMembers l us) (sym (append-nil (f x))) (h x)
  same_each f us x (y ∷ ys) h = record {
    members = λ z. (
      λ m. elim ((either z (f x) (flat_map f (y ∷ ys))).0 m) [ inl a ↦ ((h x).members z).0 a | inr b ↦ ((same_each f us y ys h).members z).0 b ],
      λ m. (either z (f x) (flat_map f (y ∷ ys))).1 (inl (((h x).members z).1 m)),
    );
  }
