-- The first place of a number in a list of numbers, in parts of it and in two lists joined.
use Rattle.std.proofs.Common.{arith, ◌≡◌, ◌∙◌, ap, sym, subst, refl, ℕ, zero, suc, slice_get, Some, eq-eqb, ◌+◌, ◌<◌, ◌≤◌, ◌==◌, Bool, true, false, not, cond, List, [], ◌∷◌, ◌++◌, length, length-append, filter}
use Rattle.std.proofs.lemmas.Bool.{eqb-true}
use Rattle.std.proofs.lemmas.Option.{slice_get_within}
use Rattle.nemo_ir.proofs.Places.{same_item}
pub use Rattle.nemo_plan.specs.Order.{parted, place}

pub place_low : (xs : List ℕ) (a : ℕ) → place xs a ≤ length xs
place_low [] a = omega arith
place_low (x ∷ xs) a = go (x == a) (place_low xs a)
  where
    go : (b : Bool) → place xs a ≤ length xs → cond b 0 (suc (place xs a)) ≤ suc (length xs)
    go true l = omega arith
    go false l = omega arith

---- a filtered list

module _ (p : ℕ → Bool) where
  pub inside_filtered : (xs : List ℕ) (a : ℕ) → p a ≡ true → place xs a < length xs → place (filter p xs) a < length (filter p xs)
  inside_filtered [] a pa l = absurd (omega arith)
  inside_filtered (x ∷ xs) a pa l = go (p x) (x == a) refl refl l (inside_filtered xs a pa)
    where
      go : (c b : Bool) → p x ≡ c → (x == a) ≡ b → cond b 0 (suc (place xs a)) < suc (length xs) → (place xs a < length xs → place (filter p xs) a < length (filter p xs))
          → place (cond c (x ∷ filter p xs) (filter p xs)) a < length (cond c (x ∷ filter p xs) (filter p xs))
      go true true px e l ih = subst (λ b. cond b 0 (suc (place (filter p xs) a)) < suc (length (filter p xs))) (sym e) (omega arith)
      go true false px e l ih =
          let rest : place (filter p xs) a < length (filter p xs) = ih (omega arith) in
          subst (λ b. cond b 0 (suc (place (filter p xs) a)) < suc (length (filter p xs))) (sym e) (omega arith)
      go false true px e l ih = absurd (let is : x ≡ a = eqb-true x a e in let same : p x ≡ p a = ap p is in cc)
      go false false px e l ih = ih (omega arith)

  pub order_filtered : (xs : List ℕ) (a b : ℕ) → p a ≡ true → p b ≡ true → place xs a < place xs b → place (filter p xs) a < place (filter p xs) b
  order_filtered [] a b pa pb l = absurd (omega arith)
  order_filtered (x ∷ xs) a b pa pb l = go (p x) (x == a) (x == b) refl refl refl l (order_filtered xs a b pa pb)
    where
      go : (c m n : Bool) → p x ≡ c → (x == a) ≡ m → (x == b) ≡ n → cond m 0 (suc (place xs a)) < cond n 0 (suc (place xs b)) → (place xs a < place xs b → place (filter p xs) a < place (filter p xs) b)
          → place (cond c (x ∷ filter p xs) (filter p xs)) a < place (cond c (x ∷ filter p xs) (filter p xs)) b
      go c m true px e f l ih = absurd (omega arith)
      go true true false px e f l ih =
          subst (λ m. cond m 0 (suc (place (filter p xs) a)) < cond (x == b) 0 (suc (place (filter p xs) b))) (sym e)
          (subst (λ n. 0 < cond n 0 (suc (place (filter p xs) b))) (sym f) (omega arith))
      go true false false px e f l ih =
          let rest : place (filter p xs) a < place (filter p xs) b = ih (omega arith) in
          subst (λ m. cond m 0 (suc (place (filter p xs) a)) < cond (x == b) 0 (suc (place (filter p xs) b))) (sym e)
          (subst (λ n. suc (place (filter p xs) a) < cond n 0 (suc (place (filter p xs) b))) (sym f) (omega arith))
      go false true false px e f l ih = absurd (let is : x ≡ a = eqb-true x a e in let same : p x ≡ p a = ap p is in cc)
      go false false false px e f l ih = ih (omega arith)

  -- what stands nowhere stands nowhere in a part
  pub outside_filtered : (xs : List ℕ) (a : ℕ) → place xs a ≡ length xs → place (filter p xs) a ≡ length (filter p xs)
  outside_filtered [] a l = refl
  outside_filtered (x ∷ xs) a l = go (p x) (x == a) refl l (outside_filtered xs a)
    where
      go : (c b : Bool) → (x == a) ≡ b → cond b 0 (suc (place xs a)) ≡ suc (length xs) → (place xs a ≡ length xs → place (filter p xs) a ≡ length (filter p xs))
          → place (cond c (x ∷ filter p xs) (filter p xs)) a ≡ length (cond c (x ∷ filter p xs) (filter p xs))
      go c true e l ih = absurd (omega arith)
      go true false e l ih = ap (λ b. cond b 0 (suc (place (filter p xs) a))) e ∙ ap suc (ih (omega arith))
      go false false e l ih = ih (omega arith)

  pub failing_filtered : (xs : List ℕ) (a : ℕ) → p a ≡ false → place (filter p xs) a ≡ length (filter p xs)
  failing_filtered [] a pa = refl
  failing_filtered (x ∷ xs) a pa = go (p x) (x == a) refl refl (failing_filtered xs a pa)
    where
      go : (c b : Bool) → p x ≡ c → (x == a) ≡ b → place (filter p xs) a ≡ length (filter p xs) → place (cond c (x ∷ filter p xs) (filter p xs)) a ≡ length (cond c (x ∷ filter p xs) (filter p xs))
      go true true px e ih = absurd (let is : x ≡ a = eqb-true x a e in let same : p x ≡ p a = ap p is in cc)
      go true false px e ih = ap (λ b. cond b 0 (suc (place (filter p xs) a))) e ∙ ap suc ih
      go false b px e ih = ih

---- two lists joined

pub place_first : (xs ys : List ℕ) (a : ℕ) → place xs a < length xs → place (xs ++ ys) a ≡ place xs a
place_first [] ys a l = absurd (omega arith)
place_first (x ∷ xs) ys a l = go (x == a) l (place_first xs ys a)
  where
    go : (b : Bool) → cond b 0 (suc (place xs a)) < suc (length xs) → (place xs a < length xs → place (xs ++ ys) a ≡ place xs a) → cond b 0 (suc (place (xs ++ ys) a)) ≡ cond b 0 (suc (place xs a))
    go true l ih = refl
    go false l ih = ap suc (ih (omega arith))

pub place_second : (xs ys : List ℕ) (a : ℕ) → place xs a ≡ length xs → place (xs ++ ys) a ≡ length xs + place ys a
place_second [] ys a l = omega arith
place_second (x ∷ xs) ys a l = go (x == a) l (place_second xs ys a)
  where
    go : (b : Bool) → cond b 0 (suc (place xs a)) ≡ suc (length xs) → (place xs a ≡ length xs → place (xs ++ ys) a ≡ length xs + place ys a) → cond b 0 (suc (place (xs ++ ys) a)) ≡ suc (length xs) + place ys a
    go true l ih = absurd (omega arith)
    go false l ih = let rest : place (xs ++ ys) a ≡ length xs + place ys a = ih (omega arith) in omega arith

---- first those that fail a test, then those that pass it

module _ (p : ℕ → Bool) (xs : List ℕ) where
  fails : (a : ℕ) → p a ≡ false → not (p a) ≡ true
  fails a e = ap not e

  passing : (a : ℕ) → p a ≡ true → not (p a) ≡ false
  passing a e = ap not e

  place_failing : (a : ℕ) → p a ≡ false → place xs a < length xs → place (parted p xs) a ≡ place (filter (λ x. not (p x)) xs) a
  place_failing a e l = place_first (filter (λ x. not (p x)) xs) (filter p xs) a (inside_filtered (λ x. not (p x)) xs a (fails a e) l)

  place_passing : (a : ℕ) → p a ≡ true → place (parted p xs) a ≡ length (filter (λ x. not (p x)) xs) + place (filter p xs) a
  place_passing a e = place_second (filter (λ x. not (p x)) xs) (filter p xs) a (failing_filtered (λ x. not (p x)) xs a (passing a e))

  pub both_fail : (a b : ℕ) → p a ≡ false → p b ≡ false → place xs a < length xs → place xs b < length xs → place xs a < place xs b → place (parted p xs) a < place (parted p xs) b
  both_fail a b e f l m h =
      let one = place_failing a e l in
      let two = place_failing b f m in
      let less : place (filter (λ x. not (p x)) xs) a < place (filter (λ x. not (p x)) xs) b = order_filtered (λ x. not (p x)) xs a b (fails a e) (fails b f) h in
      subst (λ n. n < place (parted p xs) b) (sym one) (subst (λ n. place (filter (λ x. not (p x)) xs) a < n) (sym two) less)

  pub both_pass : (a b : ℕ) → p a ≡ true → p b ≡ true → place xs a < place xs b → place (parted p xs) a < place (parted p xs) b
  both_pass a b e f h =
      let one : place (parted p xs) a ≡ length (filter (λ x. not (p x)) xs) + place (filter p xs) a = place_passing a e in
      let two : place (parted p xs) b ≡ length (filter (λ x. not (p x)) xs) + place (filter p xs) b = place_passing b f in
      let less : place (filter p xs) a < place (filter p xs) b = order_filtered p xs a b e f h in
      omega arith

  pub one_passes : (a b : ℕ) → p a ≡ false → p b ≡ true → place xs a < length xs → place (parted p xs) a < place (parted p xs) b
  one_passes a b e f l =
      let one : place (parted p xs) a ≡ place (filter (λ x. not (p x)) xs) a = place_failing a e l in
      let two : place (parted p xs) b ≡ length (filter (λ x. not (p x)) xs) + place (filter p xs) b = place_passing b f in
      let less : place (filter (λ x. not (p x)) xs) a < length (filter (λ x. not (p x)) xs) = inside_filtered (λ x. not (p x)) xs a (fails a e) l in
      omega arith

  pub parted_count : length (parted p xs) ≡ length xs
  parted_count = length-append (filter (λ x. not (p x)) xs) (filter p xs) ∙ go xs
    where
      go : (ys : List ℕ) → length (filter (λ x. not (p x)) ys) + length (filter p ys) ≡ length ys
      go [] = omega arith
      go (y ∷ ys) = turn (p y) (go ys)
        where
          turn : (b : Bool) → length (filter (λ x. not (p x)) ys) + length (filter p ys) ≡ length ys
              → length (cond (not b) (y ∷ filter (λ x. not (p x)) ys) (filter (λ x. not (p x)) ys)) + length (cond b (y ∷ filter p ys) (filter p ys)) ≡ suc (length ys)
          turn true e = omega arith
          turn false e = omega arith

  pub inside_parted : (a : ℕ) → place xs a < length xs → place (parted p xs) a < length (parted p xs)
  inside_parted a l = go (p a) refl
    where
      sum : length (parted p xs) ≡ length (filter (λ x. not (p x)) xs) + length (filter p xs)
      sum = length-append (filter (λ x. not (p x)) xs) (filter p xs)

      go : (b : Bool) → p a ≡ b → place (parted p xs) a < length (parted p xs)
      go true e =
          let at : place (parted p xs) a ≡ length (filter (λ x. not (p x)) xs) + place (filter p xs) a = place_passing a e in
          let less : place (filter p xs) a < length (filter p xs) = inside_filtered p xs a e l in
          let all : length (parted p xs) ≡ length (filter (λ x. not (p x)) xs) + length (filter p xs) = sum in
          omega arith
      go false e =
          let at : place (parted p xs) a ≡ place (filter (λ x. not (p x)) xs) a = place_failing a e l in
          let less : place (filter (λ x. not (p x)) xs) a < length (filter (λ x. not (p x)) xs) = inside_filtered (λ x. not (p x)) xs a (fails a e) l in
          let all : length (parted p xs) ≡ length (filter (λ x. not (p x)) xs) + length (filter p xs) = sum in
          omega arith

  pub outside_parted : (a : ℕ) → place xs a ≡ length xs → place (parted p xs) a ≡ length (parted p xs)
  outside_parted a l =
      place_second (filter (λ x. not (p x)) xs) (filter p xs) a (outside_filtered (λ x. not (p x)) xs a l)
      ∙ ap (λ n. length (filter (λ x. not (p x)) xs) + n) (outside_filtered p xs a l)
      ∙ sym (length-append (filter (λ x. not (p x)) xs) (filter p xs))

---- what stands at a place

pub place_reaches : (xs : List ℕ) (i a : ℕ) → slice_get xs i ≡ Some a → place xs a ≤ i
place_reaches [] i a e = cc
place_reaches (x ∷ xs) zero a e =
    let same : x ≡ a = cc in
    let first : place (x ∷ xs) a ≡ 0 = ap (λ b. cond b 0 (suc (place xs a))) (eq-eqb x a same) in
    omega arith
place_reaches (x ∷ xs) (suc i) a e = go (x == a) (place_reaches xs i a e)
  where
    go : (b : Bool) → place xs a ≤ i → cond b 0 (suc (place xs a)) ≤ suc i
    go true l = omega arith
    go false l = omega arith

pub at_place : (xs : List ℕ) (a : ℕ) → place xs a < length xs → slice_get xs (place xs a) ≡ Some a
at_place [] a l = absurd (omega arith)
at_place (x ∷ xs) a l = go (x == a) refl l (at_place xs a)
  where
    go : (b : Bool) → (x == a) ≡ b → cond b 0 (suc (place xs a)) < suc (length xs) → (place xs a < length xs → slice_get xs (place xs a) ≡ Some a) → slice_get (x ∷ xs) (cond b 0 (suc (place xs a))) ≡ Some a
    go true e l ih = ap Some (eqb-true x a e)
    go false e l ih = ih (omega arith)

-- what stands at a place that is the first of another number is that number
pub same_place : (xs : List ℕ) (i a x : ℕ) → slice_get xs i ≡ Some x → place xs a ≡ i → x ≡ a
same_place xs i a x e p =
    let inside : i < length xs = slice_get_within xs i x e in
    let there : slice_get xs (place xs a) ≡ Some a = at_place xs a (omega arith) in
    same_item x a (sym e ∙ ap (slice_get xs) (sym p) ∙ there)
