-- The steps of a loop that keeps the different items of those so far.
use Rattle.std.proofs.Common.{◌≡◌, ◌∙◌, refl, ℕ, ◌+◌, ◌<◌, List, [], ◌∷◌, ◌++◌, length, take, get_or, sym, ap, subst, Ordering, Bool, true, false, cond, inl, inr}
use Rattle.std.specs.Prelude.{◌||◌, not}
use Rattle.std.specs.BTreeSet.{insert_key}
use Rattle.std.specs.Cmp.{Equal-is, eq_by_cmp_equiv}
use Rattle.std.specs.List.{IsDistinct, list_any}
use Rattle.std.specs.Ordering.{eq_by_cmp}
use Rattle.std.proofs.lemmas.List.{take_more}
use Rattle.std.proofs.lemmas.List.Folds.{list_any-append}
use Rattle.std.proofs.lemmas.Map.Keys.{IsDistinct-push}
use Rattle.nemo_value.specs.Ascending.{ascending}
use Rattle.nemo_value.proofs.AscendingLists.{ascending_more}
use Rattle.nemo_value.proofs.Members.{In}
use Rattle.nemo_value.proofs.SortedLists.{IsStrict}
use Rattle.nemo_transform.proofs.ApartLists.{ties_flip}
use Rattle.nemo_value.proofs.AscendingParts.{ascending_same}
use Rattle.nemo_value.proofs.MemberLists.{either}

-- an item more of those that a loop goes over
pub take_item : {A : Type 0} (xs : List A) (i : ℕ) (x : A) → i < length xs → x ≡ get_or xs i x → take (i + 1) xs ≡ take i xs ++ x ∷ []
take_item xs i x h e = take_more xs i x h ∙ ap (λ y. take i xs ++ y ∷ []) (sym e)

-- `ds` has each item of `xs` once, and `has` says which those are
pub record Different {K : Type 0} (R : K → K → Ordering) (xs ds : List K) (has : K → Bool) : Type 0 where
  pub same : ascending R ds ≡ ascending R xs
  pub apart : IsDistinct (eq_by_cmp R) ds
  pub known : (q : K) → has q ≡ list_any (eq_by_cmp R q) ds

pub none_yet : {K : Type 0} (R : K → K → Ordering) (ds : List K) (has : K → Bool) → ds ≡ [] → ((q : K) → has q ≡ false) → Different R [] ds has
unfolding IsDistinct
none_yet R ds has e n = subst (λ l. Different R [] l has) (sym e) (record { same = refl; apart = tt; known = n })

module _ {K : Type 0} (R : K → K → Ordering) (o : IsStrict R) where
  among : (x : K) (ds : List K) → list_any (eq_by_cmp R x) ds ≡ true → In x ds
  among x [] h = absurd (cc)
  among x (d ∷ ds) h = go (eq_by_cmp R x d) refl (among x ds) h
    where
      go : (b : Bool) → eq_by_cmp R x d ≡ b → (list_any (eq_by_cmp R x) ds ≡ true → In x ds) → (b || list_any (eq_by_cmp R x) ds) ≡ true → In x (d ∷ ds)
      go true e ih h = inl (o.one x d ((Equal-is (R x d)).0 e))
      go false e ih h = inr (ih h)

  module _ (xs : List K) (i : ℕ) (x : K) (within : i < length xs) (is : x ≡ get_or xs i x) (ds : List K) (has now : K → Bool) (h : Different R (take i xs) ds has) where
    more : ascending R (ds ++ x ∷ []) ≡ ascending R (take (i + 1) xs)
    more =
        ascending_more R o ds x ∙ ap (λ l. insert_key R l x) h.same ∙ sym (ascending_more R o (take i xs) x) ∙ ap (ascending R) (sym (take_item xs i x within is))

    -- an item that isn't there
    pub new_item : (after : List K) (added : Bool) → after ≡ ds ++ x ∷ [] → added ≡ true → added ≡ not (has x) → ((q : K) → now q ≡ cond (eq_by_cmp R x q) true (has q)) → Different R (take (i + 1) xs) after now
    new_item after added a t n u = subst (λ l. Different R (take (i + 1) xs) l now) (sym a) (record {
      same = more;
      apart = IsDistinct-push (eq_by_cmp_equiv o.total) ds x h.apart (sym (h.known x) ∙ absent (has x) (sym t ∙ n));
      known = λ q. u q ∙ (λ j. cond (ties_flip R o x q j) true (h.known q j)) ∙ turned (eq_by_cmp R q x) (list_any (eq_by_cmp R q) ds) ∙ sym (list_any-append (eq_by_cmp R q) ds (x ∷ []));
    })
      where
        turned : (b c : Bool) → cond b true c ≡ (c || (b || false))
        turned true true = refl
        turned true false = refl
        turned false true = refl
        turned false false = refl

        absent : (b : Bool) → true ≡ not b → b ≡ false
        absent true e = cc
        absent false e = refl

    -- an item that is there
    pub old_item : (after : List K) (added : Bool) → after ≡ ds → added ≡ false → added ≡ not (has x) → ((q : K) → now q ≡ cond (eq_by_cmp R x q) true (has q)) → Different R (take (i + 1) xs) after now
    old_item after added a t n u = subst (λ l. Different R (take (i + 1) xs) l now) (sym a) (record {
      same = ascending_same R o ds (ds ++ x ∷ []) (λ z. (
        λ m. (either z ds (x ∷ [])).1 (inl m),
        λ m. elim ((either z ds (x ∷ [])).0 m) [
          | inl a ↦ a
          | inr b ↦ elim b [ inl e ↦ subst (λ w. In w ds) (sym e) (among x ds (sym (h.known x) ∙ present)) | inr c ↦ absurd c ]
        ],
      )) ∙ more;
      apart = h.apart;
      known = λ q. u q ∙ same q (eq_by_cmp R x q) refl ∙ h.known q;
    })
      where
        there : (b : Bool) → false ≡ not b → b ≡ true
        there true e = refl
        there false e = cc

        present : has x ≡ true
        present = there (has x) (sym t ∙ n)

        same : (q : K) (b : Bool) → eq_by_cmp R x q ≡ b → cond b true (has q) ≡ has q
        same q true e = sym present ∙ ap has (o.one x q ((Equal-is (R x q)).0 e))
        same q false e = refl
