-- The first place of a list at which a test passes.
use Rattle.std.proofs.Common.{arith, ◌≡◌, ◌∙◌, refl, sym, ap, ℕ, zero, suc, ◌+◌, ◌<◌, List, [], ◌∷◌, Bool, true, false, ◌&&◌, ◌||◌, not, cond, length, take, drop, map, slice_get, position, filter_map, Option, Some, None, lt-ltb, true≢false}
use Rattle.std.proofs.lemmas.Bool.{or_parts, or_right}
use Rattle.std.specs.Cmp.{first_so, second_so}
use Rattle.std.specs.List.{cons_option, list_all, list_any, position_or_len}

module _ {X : Type 0} (p : X → Bool) where
  within : (xs : List X) → list_any p xs ≡ true → position_or_len p xs < length xs
  within [] h = absurd (true≢false (sym h))
  within (x ∷ xs) h = go (p x) h (within xs)
    where
      go : (b : Bool) → (b || list_any p xs) ≡ true → (list_any p xs ≡ true → position_or_len p xs < length xs) → cond (not b) (1 + position_or_len p xs) 0 < suc (length xs)
      go true h ih = omega arith
      go false h ih = let low : position_or_len p xs < length xs = ih h in omega arith

  -- one passes
  pub found : (xs : List X) → list_any p xs ≡ true → position p xs ≡ Some (position_or_len p xs)
  found xs h = ap (λ b. cond b (Some (position_or_len p xs)) None) (lt-ltb (position_or_len p xs) (length xs) (within xs h))

  -- one passes, and none from a place on
  pub found_below : (xs : List X) (i : ℕ) → list_any p xs ≡ true → list_any p (drop i xs) ≡ false → position_or_len p xs < i
  found_below xs zero h none = absurd (true≢false (sym h ∙ none))
  found_below [] (suc i) h none = absurd (true≢false (sym h))
  found_below (x ∷ xs) (suc i) h none = go (p x) h (found_below xs i)
    where
      go : (b : Bool) → (b || list_any p xs) ≡ true → (list_any p xs ≡ true → list_any p (drop i xs) ≡ false → position_or_len p xs < i) → cond (not b) (1 + position_or_len p xs) 0 < suc i
      go true h ih = omega arith
      go false h ih = let low : position_or_len p xs < i = ih h none in omega arith

  -- one passes, and none before it
  pub found_at : (xs : List X) (k : ℕ) (x : X) → slice_get xs k ≡ Some x → p x ≡ true → list_any p (take k xs) ≡ false → position_or_len p xs ≡ k
  found_at [] k x e h none = cc
  found_at (y ∷ xs) zero x e h none =
      let here : p y ≡ true = cc in
      ap (λ b. cond (not b) (1 + position_or_len p xs) 0) here
  found_at (y ∷ xs) (suc k) x e h none = go (p y) none (found_at xs k x e h)
    where
      go : (b : Bool) → (b || list_any p (take k xs)) ≡ false → (list_any p (take k xs) ≡ false → position_or_len p xs ≡ k) → cond (not b) (1 + position_or_len p xs) 0 ≡ suc k
      go true none ih = absurd (true≢false none)
      go false none ih = let is : position_or_len p xs ≡ k = ih none in omega arith

  pub all_at : (xs : List X) → list_all p xs ≡ true → (k : ℕ) (x : X) → slice_get xs k ≡ Some x → p x ≡ true
  all_at [] h k x e = cc
  all_at (y ∷ xs) h zero x e = let here : p y ≡ true = first_so (p y) (list_all p xs) h in cc
  all_at (y ∷ xs) h (suc k) x e = all_at xs (second_so (p y) (list_all p xs) h) k x e

  pub none_at : (xs : List X) → list_any p xs ≡ false → (k : ℕ) (x : X) → slice_get xs k ≡ Some x → p x ≡ false
  none_at [] h k x e = cc
  none_at (y ∷ xs) h zero x e = let here : p y ≡ false = (or_parts (p y) (list_any p xs) h).0 in cc
  none_at (y ∷ xs) h (suc k) x e = none_at xs (or_parts (p y) (list_any p xs) h).1 k x e

  pub any_at : (xs : List X) (k : ℕ) (x : X) → slice_get xs k ≡ Some x → p x ≡ true → list_any p xs ≡ true
  any_at [] k x e h = cc
  any_at (y ∷ xs) zero x e h = let here : p y ≡ true = cc in ap (λ b. b || list_any p xs) here
  any_at (y ∷ xs) (suc k) x e h = or_right (p y) (list_any p xs) (any_at xs k x e h)

-- a test that is weaker
pub any_weaker : {X : Type 0} (p q : X → Bool) (xs : List X) → list_any (λ x. p x && q x) xs ≡ true → list_any p xs ≡ true
any_weaker p q [] h = h
any_weaker p q (x ∷ xs) h = go (p x) (q x) h (any_weaker p q xs)
  where
    go : (b c : Bool) → ((b && c) || list_any (λ x. p x && q x) xs) ≡ true → (list_any (λ x. p x && q x) xs ≡ true → list_any p xs ≡ true) → (b || list_any p xs) ≡ true
    go true c h ih = refl
    go false c h ih = ih h

-- where each item gives one
pub each_given : {X Y : Type 0} (h : X → Option Y) (g : X → Y) (xs : List X) → ((k : ℕ) (x : X) → slice_get xs k ≡ Some x → h x ≡ Some (g x)) → filter_map h xs ≡ map g xs
each_given h g [] e = refl
each_given h g (x ∷ xs) e = (λ i. cons_option (e 0 x refl i) (filter_map h xs)) ∙ ap (λ ys. g x ∷ ys) (each_given h g xs (λ k y m. e (suc k) y m))
