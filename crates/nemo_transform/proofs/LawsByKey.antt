-- What is given by key, from shares of the rows and from rows in another order.
use Rattle.std.proofs.Common.{◌≡◌, ◌∙◌, refl, sym, ap, subst, ℕ, ◌<◌, ◌==◌, List, [], ◌∷◌, Bool, true, false, cond, map, inl, inr, Option, Some, None, Result}
use Rattle.std.specs.Cmp.{Equal-is}
use Rattle.std.specs.List.{filter, filter_map, flat_map, cons_option}
use Rattle.std.specs.Ordering.{is_eq}
use Rattle.std.proofs.lemmas.Cmp.{tied_itself}
use Rattle.nemo_value.specs.Counted.{below}
use Rattle.nemo_value.specs.Order.{record_cmp}
use Rattle.nemo_value.specs.declared.expr.Kind.{Kind}
use Rattle.nemo_value.specs.declared.field.Field.{Field}
use Rattle.nemo_value.specs.Ascending.{ascending}
use Rattle.nemo_value.proofs.AscendingLists.{ascending_perm, in_ascending}
use Rattle.nemo_value.proofs.AscendingParts.{ascending_filter}
use Rattle.nemo_value.proofs.JoinedLists.{chosen_flat, filter_within, flat_agree, flat_same}
use Rattle.nemo_value.proofs.MemberLists.{filter_in, in_chosen, passes}
use Rattle.nemo_value.proofs.Members.{In}
use Rattle.nemo_value.proofs.Perm.{Perm, back, then, unmoved}
use Rattle.nemo_value.proofs.Permuted.{alike, apart, both, chosen, is, mapped, passing, through}
use Rattle.nemo_value.proofs.RecordOrder.{record_strict}
use Rattle.nemo_value.proofs.Split.{split, split_flat}
use Rattle.nemo_value.specs.Key.{key_by}
use Rattle.nemo_transform.specs.Gives.{Answer, Row, by_key, fault_without, is_key, join, joined, keyless, keys, of_key, pair, pairs_at, with_key}
use Rattle.nemo_transform.specs.Laws.{share}

module _ {A : Type 0} where
  -- a test that another one follows from, on the items of a list
  within : (p q : A → Bool) (xs : List A) → ((x : A) → In x xs → q x ≡ true → p x ≡ true) → filter q (filter p xs) ≡ filter q xs
  within p q [] h = refl
  within p q (x ∷ xs) h = go (p x) refl (q x) refl (within p q xs (λ y m. h y (inr m)))
    where
      go : (a : Bool) → p x ≡ a → (b : Bool) → q x ≡ b → filter q (filter p xs) ≡ filter q xs → filter q (cond a (x ∷ filter p xs) (filter p xs)) ≡ cond b (x ∷ filter q xs) (filter q xs)
      go true e b f ih = λ j. cond (f j) (x ∷ ih j) (ih j)
      go false e true f ih = absurd (let t = h x (inl refl) f in cc)
      go false e false f ih = ih

  -- what is chosen of the items that pass a test, where the test can be told of what is chosen
  chosen_filter : {B : Type 0} (h : A → Option B) (p : A → Bool) (q : B → Bool) (xs : List A) → ((x : A) (y : B) → In x xs → h x ≡ Some y → p x ≡ q y) → filter_map h (filter p xs) ≡ filter q (filter_map h xs)
  chosen_filter h p q [] g = refl
  chosen_filter {B} h p q (x ∷ xs) g = go (p x) refl (h x) refl (chosen_filter h p q xs (λ y z m. g y z (inr m)))
    where
      go : (b : Bool) → p x ≡ b → (o : Option B) → h x ≡ o → filter_map h (filter p xs) ≡ filter q (filter_map h xs) → filter_map h (cond b (x ∷ filter p xs) (filter p xs)) ≡ filter q (cons_option o (filter_map h xs))
      go true d None e ih = ap (λ o. cons_option o (filter_map h (filter p xs))) e ∙ ih
      go true d (Some y) e ih =
          ap (λ o. cons_option o (filter_map h (filter p xs))) e ∙ ap (λ l. y ∷ l) ih
          ∙ sym (ap (λ c. cond c (y ∷ filter q (filter_map h xs)) (filter q (filter_map h xs))) (sym (g x y (inl refl) e) ∙ d))
      go false d None e ih = ih
      go false d (Some y) e ih = ih ∙ sym (ap (λ c. cond c (y ∷ filter q (filter_map h xs)) (filter q (filter_map h xs))) (sym (g x y (inl refl) e) ∙ d))

module _ (names : List ℕ) where
  has : (k : List Field) (r : Row) → is_key k (key_by names r) ≡ true → key_by names r ≡ Some k
  has k r h = go (key_by names r) h
    where
      go : (o : Option (List Field)) → is_key k o ≡ true → o ≡ Some k
      go None h = cc
      go (Some q) h = ap Some (record_strict.one q k ((Equal-is (record_cmp q k)).0 h))

  own : (k : List Field) (r : Row) → key_by names r ≡ Some k → is_key k (key_by names r) ≡ true
  own k r e = ap (is_key k) e ∙ ap is_eq (tied_itself record_strict.total k)

  module _ (task : Row → ℕ) (rows : List Row) where
    abbrev front_task : List Row → ℕ
    front_task [] = 0
    front_task (r ∷ rs) = task r

    -- the task of a key: that of the first row that has it
    abbrev task_of : List Field → ℕ
    task_of k = front_task (with_key names k rows)

    module _ (meet : (r s : Row) (k : List Field) → key_by names r ≡ Some k → key_by names s ≡ Some k → task r ≡ task s) where
      task_is : (r : Row) (k : List Field) → In r rows → key_by names r ≡ Some k → task r ≡ task_of k
      task_is r k m e =
          go (with_key names k rows) (filter_in (λ s. is_key k (key_by names s)) r rows m (own k r e)) (λ s n. has k s (passes (λ u. is_key k (key_by names u)) s rows n))
        where
          go : (us : List Row) → In r us → ((s : Row) → In s us → key_by names s ≡ Some k) → task r ≡ front_task us
          go [] m a = absurd m
          go (s ∷ us) m a = meet r s k e (a s (inl refl))

      -- the rows of a key stand in its task
      with_key-share : (k : List Field) (i : ℕ) → (task_of k == i) ≡ true → with_key names k (share task i rows) ≡ with_key names k rows
      with_key-share k i h = within (λ r. task r == i) (λ r. is_key k (key_by names r)) rows (λ r m e. ap (λ w. w == i) (task_is r k m (has k r e)) ∙ h)

      keys-share : (i : ℕ) → keys names (share task i rows) ≡ filter (λ k. task_of k == i) (keys names rows)
      keys-share i =
          ap (ascending record_cmp) (chosen_filter (key_by names) (λ r. task r == i) (λ k. task_of k == i) rows (λ r k m e. ap (λ w. w == i) (task_is r k m e)))
          ∙ ascending_filter record_cmp record_strict (λ k. task_of k == i) (filter_map (key_by names) rows)

      module _ (n : ℕ) (low : (r : Row) → task r < n) where
        low_of : (k : List Field) → In k (keys names rows) → task_of k < n
        low_of k m = let r = in_chosen (key_by names) k rows ((in_ascending record_cmp record_strict (filter_map (key_by names) rows) k).0 m) in subst (λ w. w < n) (task_is r.0 k r.1 r.2) (low r.0)

        -- key by key, from the rows of the key
        keys_split : {B : Type 0} (f : List Field → List Row → List B)
            → Perm (flat_map (λ k. f k (with_key names k rows)) (keys names rows)) (flat_map (λ i. flat_map (λ k. f k (with_key names k (share task i rows))) (keys names (share task i rows))) (below n))
        keys_split f =
            let whole = λ (k : List Field). f k (with_key names k rows) in
            let part = λ (i : ℕ) (k : List Field). f k (with_key names k (share task i rows)) in
            then (split_flat whole task_of n (keys names rows) low_of)
            (is (flat_same (λ i. flat_map whole (filter (λ k. task_of k == i) (keys names rows))) (λ i. flat_map (part i) (keys names (share task i rows))) (below n)
            (λ i. flat_agree (λ k. task_of k == i) whole (part i) (keys names rows) (λ k h. ap (f k) (sym (with_key-share k i h))) ∙ ap (flat_map (part i)) (sym (keys-share i)))))

-- what is chosen of the rows, from the rows of each task
share_split : {B : Type 0} (task : Row → ℕ) (n : ℕ) (low : (r : Row) → task r < n) (h : Row → Option B) (rows : List Row) → Perm (filter_map h rows) (flat_map (λ i. filter_map h (share task i rows)) (below n))
share_split task n low h rows = then (chosen h (back (split task n rows (λ r m. low r)))) (is (chosen_flat h (λ i. share task i rows) (below n)))

module _ (n : ℕ) where
  pub by_key_split : {X : Type 0} (names : List ℕ) (reads : Row → Result X Kind) (gives : List Field → List X → List Answer) (task : Row → ℕ) (rows : List Row)
      → ((r s : Row) (k : List Field) → key_by names r ≡ Some k → key_by names s ≡ Some k → task r ≡ task s) → ((r : Row) → task r < n)
      → Perm (by_key names reads gives rows) (flat_map (λ i. by_key names reads gives (share task i rows)) (below n))
  by_key_split names reads gives task rows meet low =
      let each = λ (i : ℕ). flat_map (λ k. of_key reads gives k (with_key names k (share task i rows))) (keys names (share task i rows)) in
      then (both (share_split task n low (λ r. fault_without r (key_by names r)) rows) (keys_split names task rows meet n low (of_key reads gives)))
      (back (apart (λ i. keyless names (share task i rows)) each (below n)))

  module _ (left_names right_names : List ℕ) (left_task right_task : Row → ℕ)
      (meet : (l r : Row) (k : List Field) → key_by left_names l ≡ Some k → key_by right_names r ≡ Some k → left_task l ≡ right_task r)
      (left_low : (r : Row) → left_task r < n) (right_low : (r : Row) → right_task r < n) (left right : List Row) where
    joined_share : (l : Row) (i : ℕ) → (left_task l == i) ≡ true → joined left_names right_names right l ≡ joined left_names right_names (share right_task i right) l
    joined_share l i h = go (key_by left_names l) refl
      where
        go : (o : Option (List Field)) → key_by left_names l ≡ o → pairs_at right_names right l o ≡ pairs_at right_names (share right_task i right) l o
        go None e = refl
        go (Some k) e = ap (map (pair right_names l)) (sym (filter_within (λ r. right_task r == i) (λ r. is_key k (key_by right_names r)) right (λ r t. ap (λ w. w == i) (sym (meet l r k e (has right_names k r t))) ∙ h)))

    pub join_split : Perm (join left_names right_names left right) (flat_map (λ i. join left_names right_names (share left_task i left) (share right_task i right)) (below n))
    join_split =
        let whole = joined left_names right_names right in
        let part = λ (i : ℕ). joined left_names right_names (share right_task i right) in
        then (both (share_split right_task n right_low (λ r. fault_without r (key_by right_names r)) right)
        (then (split_flat whole left_task n left (λ l m. left_low l))
        (is (flat_same (λ i. flat_map whole (share left_task i left)) (λ i. flat_map (part i) (share left_task i left)) (below n)
        (λ i. flat_agree (λ l. left_task l == i) whole (part i) left (λ l h. joined_share l i h))))))
        (back (apart (λ i. keyless right_names (share right_task i right)) (λ i. flat_map (part i) (share left_task i left)) (below n)))

-- key by key, where the order of the rows of a key doesn't count
pub by_key_order : {X : Type 0} (names : List ℕ) (reads : Row → Result X Kind) (gives : List Field → List X → List Answer) (xs ys : List Row)
    → ((k : List Field) (us vs : List Row) → Perm us vs → Perm (of_key reads gives k us) (of_key reads gives k vs)) → Perm xs ys → Perm (by_key names reads gives xs) (by_key names reads gives ys)
by_key_order names reads gives xs ys respects p =
    let f = of_key reads gives in
    both (chosen (λ r. fault_without r (key_by names r)) p)
    (then (alike (λ k. f k (with_key names k xs)) (λ k. f k (with_key names k ys)) (keys names xs) (λ k. respects k (with_key names k xs) (with_key names k ys) (passing (λ r. is_key k (key_by names r)) p)))
    (is (ap (flat_map (λ k. f k (with_key names k ys))) (ascending_perm record_cmp record_strict (chosen (key_by names) p)))))

pub join_order : (left_names right_names : List ℕ) (xs ys us vs : List Row) → Perm xs ys → Perm us vs → Perm (join left_names right_names xs us) (join left_names right_names ys vs)
join_order left_names right_names xs ys us vs p q =
    both (chosen (λ r. fault_without r (key_by right_names r)) q)
    (then (alike (joined left_names right_names us) (joined left_names right_names vs) xs (λ l. go l (key_by left_names l))) (mapped (joined left_names right_names vs) p))
  where
    go : (l : Row) (o : Option (List Field)) → Perm (pairs_at right_names us l o) (pairs_at right_names vs l o)
    go l None = unmoved (pairs_at right_names us l None)
    go l (Some k) = through (pair right_names l) (passing (λ r. is_key k (key_by right_names r)) q)
