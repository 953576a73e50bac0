-- Lists split by a number of each item.
use Rattle.std.proofs.Common.{◌≡◌, ap, ℕ, zero, suc, ◌+◌, ◌<◌, ◌≤◌, ◌==◌, List, [], ◌∷◌, ◌++◌, Bool, true, false, cond, refl, arith, inl, inr}
use Rattle.std.specs.List.{filter, flat_map}
use Rattle.std.proofs.lemmas.Bool.{cases_eq}
use Rattle.std.proofs.lemmas.Bool.Decides.{nat_tests}
use Rattle.nemo_value.specs.Counted.{below, counted}
use Rattle.nemo_value.proofs.JoinedLists.{flat_flat, flat_none, flat_same}
use Rattle.nemo_value.proofs.Members.{In}
use Rattle.nemo_value.proofs.Perm.{Perm, back, then}
use Rattle.nemo_value.proofs.Permuted.{apart, both, is, mapped}

module _ {A : Type 0} where
  -- a number that is past isn't met
  past : (x : A) (m k n : ℕ) → m < k → flat_map (λ i. cond (m == i) (x ∷ []) []) (counted k n) ≡ []
  past x m k zero h = refl
  past x m k (suc n) h = let e : (m == k) ≡ false = grind (arith, nat_tests) in rw e (past x m (suc k) n (omega arith))

  single_from : (x : A) (m k n : ℕ) → k ≤ m → m < k + n → flat_map (λ i. cond (m == i) (x ∷ []) []) (counted k n) ≡ x ∷ []
  single_from x m k zero h g = absurd (omega arith)
  single_from x m k (suc n) h g = elim (cases_eq m k) [
    | inl e ↦ let t : (m == k) ≡ true = grind (arith, nat_tests) in rw t (ap (λ l. x ∷ l) (past x m (suc k) n (omega arith)))
    | inr d ↦ let t : (m == k) ≡ false = grind (arith, nat_tests) in rw t (single_from x m (suc k) n (omega arith) (omega arith))
  ]

  -- a number below n is met once
  pub single : (x : A) (m n : ℕ) → m < n → flat_map (λ i. cond (m == i) (x ∷ []) []) (below n) ≡ x ∷ []
  single x m n h = single_from x m 0 n (omega arith) (omega arith)

  pub in_front : (b : Bool) (x : A) (l : List A) → cond b (x ∷ l) l ≡ cond b (x ∷ []) [] ++ l
  in_front true x l = refl
  in_front false x l = refl

  -- the items of each number are together all items
  pub split : (f : A → ℕ) (n : ℕ) (xs : List A) → ((x : A) → In x xs → f x < n) → Perm (flat_map (λ i. filter (λ x. f x == i) xs) (below n)) xs
  split f n [] h = is (flat_none (λ i. []) (below n) (λ i. refl))
  split f n (x ∷ xs) h =
      let one : ℕ → List A = λ i. cond (f x == i) (x ∷ []) [] in
      let others : ℕ → List A = λ i. filter (λ y. f y == i) xs in
      let e = flat_same (λ i. filter (λ y. f y == i) (x ∷ xs)) (λ i. one i ++ others i) (below n) (λ i. in_front (f x == i) x (others i)) in
      then (is e) (then (apart one others (below n)) (both (is (single x (f x) n (h x (inl refl)))) (split f n xs (λ y m. h y (inr m)))))

  -- what each item gives, number by number
  pub split_flat : {B : Type 0} (g : A → List B) (f : A → ℕ) (n : ℕ) (xs : List A) → ((x : A) → In x xs → f x < n)
      → Perm (flat_map g xs) (flat_map (λ i. flat_map g (filter (λ x. f x == i) xs)) (below n))
  split_flat g f n xs h = then (back (mapped g (split f n xs h))) (is (flat_flat g (λ i. filter (λ x. f x == i) xs) (below n)))
