-- `ascending` gives the one strictly rising list with the same members.
use Rattle.std.proofs.Common.{◌≡◌, List, [], ◌∷◌, ◌++◌, refl, sym, ap, ◌∙◌, subst, inl, inr, Ordering}
use Rattle.std.specs.Prelude.{◌⊎◌, ◌↔◌}
use Rattle.std.specs.Ordering.{ordering_reverse, match_ordering}
use Rattle.std.specs.declared.cmp.Ordering.TheVariants.{Less, Equal, Greater}
use Rattle.std.specs.BTreeSet.{insert_key}
use Rattle.nemo_value.specs.Ascending.{ascending}
pub use Rattle.nemo_value.specs.Ascending.{Before, Rises}
use Rattle.nemo_value.proofs.Members.{In, SameMembers, in_perm, members_back}
use Rattle.std.proofs.lemmas.List.Sorted.{IsPermutation-to_front}
use Rattle.nemo_value.proofs.Perm.{Perm, back, from_std}
use Rattle.nemo_value.proofs.SortedLists.{IsStrict}

module _ {K : Type 0} (R : K → K → Ordering) (o : IsStrict R) where
  pub before_in : (x y : K) (ys : List K) → Before R x ys → In y ys → R x y ≡ Less
  before_in x y [] b h = absurd h
  before_in x y (z ∷ ys) b (inl e) = subst (λ w. R x w ≡ Less) (sym e) b.0
  before_in x y (z ∷ ys) b (inr h) = before_in x y ys b.1 h

  pub before_all : (x : K) (ys : List K) → ((y : K) → In y ys → R x y ≡ Less) → Before R x ys
  before_all x [] h = tt
  before_all x (y ∷ ys) h = (h y (inl refl), before_all x ys (λ z m. h z (inr m)))

  pub in_placed : (x : K) (l : List K) (z : K) → In z (insert_key R l x) ↔ (z ≡ x) ⊎ In z l
  in_placed x [] z = (λ h. h, λ h. h)
  in_placed x (y ∷ ys) z = go (in_placed x ys z) (R x y) refl
    where
      go : In z (insert_key R ys x) ↔ (z ≡ x) ⊎ In z ys → (r : Ordering) → R x y ≡ r → In z (match_ordering r (x ∷ y ∷ ys) (y ∷ ys) (y ∷ insert_key R ys x)) ↔ (z ≡ x) ⊎ ((z ≡ y) ⊎ In z ys)
      go ih Less e = (λ h. h, λ h. h)
      go ih Equal e = (λ h. inr h, λ h. elim h [ inl a ↦ inl (a ∙ o.one x y e) | inr b ↦ b ])
      go ih Greater e = (
        λ h. elim h [ inl a ↦ inr (inl a) | inr b ↦ elim (ih.0 b) [ inl c ↦ inl c | inr d ↦ inr (inr d) ] ],
        λ h. elim h [ inl a ↦ inr (ih.1 (inl a)) | inr b ↦ elim b [ inl c ↦ inl c | inr d ↦ inr (ih.1 (inr d)) ] ],
      )

  pub in_ascending : (xs : List K) (z : K) → In z (ascending R xs) ↔ In z xs
  in_ascending [] z = (λ h. h, λ h. h)
  in_ascending (x ∷ xs) z = (
    λ h. elim ((in_placed x (ascending R xs) z).0 h) [ inl a ↦ inl a | inr b ↦ inr ((in_ascending xs z).0 b) ],
    λ h. (in_placed x (ascending R xs) z).1 (elim h [ inl a ↦ inl a | inr b ↦ inr ((in_ascending xs z).1 b) ]),
  )

  pub before_less : (x y : K) (ys : List K) → R x y ≡ Less → Before R y ys → Before R x ys
  before_less x y [] e b = tt
  before_less x y (z ∷ ys) e b = (o.total.trans x y z e b.0, before_less x y ys e b.1)

  pub before_placed : (y x : K) (l : List K) → R y x ≡ Less → Before R y l → Before R y (insert_key R l x)
  before_placed y x l e b = before_all y (insert_key R l x) (λ z h. elim ((in_placed x l z).0 h) [ inl a ↦ subst (λ w. R y w ≡ Less) (sym a) e | inr m ↦ before_in y z l b m ])

  pub rises_placed : (x : K) (l : List K) → Rises R l → Rises R (insert_key R l x)
  rises_placed x [] h = (tt, tt)
  rises_placed x (y ∷ ys) h = go (rises_placed x ys h.1) (R x y) refl
    where
      go : Rises R (insert_key R ys x) → (r : Ordering) → R x y ≡ r → Rises R (match_ordering r (x ∷ y ∷ ys) (y ∷ ys) (y ∷ insert_key R ys x))
      go ih Less e = ((e, before_less x y ys e h.0), h)
      go ih Equal e = h
      go ih Greater e = (before_placed y x ys (o.total.antisymm y x ∙ ap ordering_reverse e) h.0, ih)

  pub rises_ascending : (xs : List K) → Rises R (ascending R xs)
  rises_ascending [] = tt
  rises_ascending (x ∷ xs) = rises_placed x (ascending R xs) (rises_ascending xs)

  apart_self : (x : K) → R x x ≡ Less → ⊥
  apart_self x e = let turned : Less ≡ ordering_reverse Less = sym e ∙ o.total.antisymm x x ∙ ap ordering_reverse e in cc

  heads : (x y : K) (xs ys : List K) → Before R x xs → Before R y ys → SameMembers (x ∷ xs) (y ∷ ys) → x ≡ y
  heads x y xs ys a b s = elim ((s.members x).0 (inl refl)) [
    | inl e ↦ e
    | inr m ↦ elim ((s.members y).1 (inl refl)) [
      | inl e ↦ sym e
      | inr n ↦
          absurd (apart_self x (o.total.trans x y x (before_in x y xs a n) (before_in y x ys b m)))
    ]
  ]

  rest : (x y : K) (xs ys : List K) → x ≡ y → Before R x xs → SameMembers (x ∷ xs) (y ∷ ys) → (z : K) → In z xs → In z ys
  rest x y xs ys e a s z m = elim ((s.members z).0 (inr m)) [ inl d ↦ absurd (apart_self x (subst (λ w. R x w ≡ Less) (d ∙ sym e) (before_in x z xs a m))) | inr n ↦ n ]

  -- two rising lists with the same members are equal
  pub one_rise : (xs ys : List K) → Rises R xs → Rises R ys → SameMembers xs ys → xs ≡ ys
  one_rise [] [] a b s = refl
  one_rise [] (y ∷ ys) a b s = absurd ((s.members y).1 (inl refl))
  one_rise (x ∷ xs) [] a b s = absurd ((s.members x).0 (inl refl))
  one_rise (x ∷ xs) (y ∷ ys) a b s =
      let e : x ≡ y = heads x y xs ys a.0 b.0 s in
      let t : xs ≡ ys = one_rise xs ys a.1 b.1 (record { members = λ z. (rest x y xs ys e a.0 s z, rest y x ys xs (sym e) b.0 (members_back s) z) }) in
      λ i. e i ∷ t i

  -- the same in any order
  pub ascending_perm : {xs ys : List K} → Perm xs ys → ascending R xs ≡ ascending R ys
  ascending_perm {xs} {ys} p = one_rise (ascending R xs) (ascending R ys) (rises_ascending xs) (rises_ascending ys)
      (record { members = λ z. (λ h. (in_ascending ys z).1 (in_perm z p ((in_ascending xs z).0 h)), λ h. (in_ascending xs z).1 (in_perm z (back p) ((in_ascending ys z).0 h))) })

  -- one item more
  pub ascending_more : (xs : List K) (x : K) → ascending R (xs ++ x ∷ []) ≡ insert_key R (ascending R xs) x
  ascending_more xs x = ascending_perm (from_std (xs ++ x ∷ []) (x ∷ xs) (IsPermutation-to_front xs x))

  -- no other rising list has the same members
  pub ascending_only : (xs ys : List K) → SameMembers xs ys → Rises R ys → ys ≡ ascending R xs
  ascending_only xs ys s h = one_rise ys (ascending R xs) h (rises_ascending xs) (record { members = λ z. (λ m. (in_ascending xs z).1 ((s.members z).1 m), λ m. (s.members z).0 ((in_ascending xs z).0 m)) })
