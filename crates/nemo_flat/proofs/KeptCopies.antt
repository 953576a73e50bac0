-- The copies that are kept, and their numbers.
use Rattle.std.proofs.Common.{arith, ◌≡◌, ◌∙◌, refl, sym, ap, subst, ℕ, zero, suc, ◌+◌, ◌<◌, ◌≤◌, ◌⊎◌, ◌==◌, ◌||◌, List, [], ◌∷◌, Bool, true, false, cond, length, map, option_map, slice_get, filter, Some, nat_lt, lt-ltb, le-ltb, eq-eqb, inl, inr, eq-or-lt_of_le}
use Rattle.std.proofs.lemmas.Bool.{cases_lt, or_right}
use Rattle.std.proofs.lemmas.Option.{slice_get-map}
use Rattle.std.specs.List.{list_any}
use Rattle.nemo_value.proofs.Members.{In}
use Rattle.nemo_ir.proofs.Places.{list_any-at}
use Rattle.nemo_job.specs.Held.{IsLower}
use Rattle.nemo_transform.specs.Sinks.{does_sink}
use Rattle.nemo_job.specs.Unrolled.{Copy, placed_copy}
use Rattle.nemo_flat.specs.Flattened.{Numbered, is_taken, kept, kept_from, number_of}

---- members

pub at_in : {X : Type 0} (xs : List X) (k : ℕ) (x : X) → slice_get xs k ≡ Some x → In x xs
at_in [] k x e = cc
at_in (y ∷ xs) zero x e = inl (cc)
at_in (y ∷ xs) (suc k) x e = inr (at_in xs k x e)

pub in_at : {X : Type 0} (xs : List X) (x : X) → In x xs → (k : ℕ) × (slice_get xs k ≡ Some x)
in_at [] x h = absurd h
in_at (y ∷ xs) x (inl e) = (0, ap Some (sym e))
in_at (y ∷ xs) x (inr h) = let r = in_at xs x h in (suc r.0, r.1)

any_in : {X : Type 0} (p : X → Bool) (xs : List X) (x : X) → In x xs → p x ≡ true → list_any p xs ≡ true
any_in p xs x h e = let r = in_at xs x h in list_any-at p xs r.0 x r.1 e

---- places ascend

-- from a place on
abbrev pub Ascend : ℕ → List Numbered → Type 0
Ascend place [] = Unit {0}
Ascend place (n ∷ ns) = (place ≤ n.place) × Ascend (n.place + 1) ns

ascend_later : (a b : ℕ) (ns : List Numbered) → a ≤ b → Ascend b ns → Ascend a ns
ascend_later a b [] le h = tt
ascend_later a b (n ∷ ns) le h = let low = h.0 in (omega arith, h.1)

pub ascend_kept : (place : ℕ) (cs : List Copy) → Ascend place (kept_from place cs)
ascend_kept place [] = tt
ascend_kept place (c ∷ cs) = go (does_sink c.transform || is_taken place (kept_from (place + 1) cs)) (ascend_kept (place + 1) cs)
  where
    rest : List Numbered
    rest = kept_from (place + 1) cs

    go : (b : Bool) → Ascend (place + 1) (kept_from (place + 1) cs) → Ascend place (cond b (record { place = place; copy = c } ∷ kept_from (place + 1) cs) (kept_from (place + 1) cs))
    go true h = (omega arith, h)
    go false h = ascend_later place (place + 1) (kept_from (place + 1) cs) (omega arith) h

low_at : (place : ℕ) (ns : List Numbered) (n : Numbered) → Ascend place ns → In n ns → place ≤ n.place
low_at place [] n h m = absurd m
low_at place (o ∷ ns) n h (inl e) = subst (λ x. place ≤ x.place) (sym e) h.0
low_at place (o ∷ ns) n h (inr m) = let low = h.0 in let more = low_at (o.place + 1) ns n h.1 m in omega arith

---- numbers

number_same : (n : Numbered) (ns : List Numbered) (x : ℕ) → x ≤ n.place → number_of (n ∷ ns) x ≡ number_of ns x
number_same n ns x le = ap (λ b. length (cond b (n ∷ filter (λ m. nat_lt m.place x) ns) (filter (λ m. nat_lt m.place x) ns))) (le-ltb n.place x le)

number_none : (place x : ℕ) (ns : List Numbered) → Ascend place ns → x ≤ place → number_of ns x ≡ 0
number_none place x [] h le = refl
number_none place x (n ∷ ns) h le =
    let low : place ≤ n.place = h.0 in
    number_same n ns x (omega arith) ∙ number_none (n.place + 1) x ns h.1 (omega arith)

number_more : (n : Numbered) (ns : List Numbered) (x : ℕ) → n.place < x → number_of (n ∷ ns) x ≡ suc (number_of ns x)
number_more n ns x lt = ap (λ b. length (cond b (n ∷ filter (λ m. nat_lt m.place x) ns) (filter (λ m. nat_lt m.place x) ns))) (lt-ltb n.place x lt)

number_at_from : (place : ℕ) (ns : List Numbered) (k : ℕ) (n : Numbered) → Ascend place ns → slice_get ns k ≡ Some n → number_of ns n.place ≡ k
number_at_from place [] k n h e = cc
number_at_from place (o ∷ ns) zero n h e =
    let same : o ≡ n = cc in
    ap (λ x. number_of (o ∷ ns) x.place) (sym same) ∙ number_same o ns o.place (omega arith)
    ∙ number_none (o.place + 1) o.place ns h.1 (omega arith)
number_at_from place (o ∷ ns) (suc k) n h e =
    let low : o.place + 1 ≤ n.place = low_at (o.place + 1) ns n h.1 (at_in ns k n e) in
    number_more o ns n.place (omega arith) ∙ ap suc (number_at_from (o.place + 1) ns k n h.1 e)

-- the number of a kept copy is its place among those that are kept
pub number_at : (cs : List Copy) (k : ℕ) (n : Numbered) → slice_get (kept cs) k ≡ Some n → number_of (kept cs) n.place ≡ k
number_at cs k n e = number_at_from 0 (kept cs) k n (ascend_kept 0 cs) e

-- a kept copy stands at its number
pub stands_at : (cs : List Copy) (n : Numbered) → In n (kept cs) → slice_get (kept cs) (number_of (kept cs) n.place) ≡ Some n
stands_at cs n m = let r = in_at (kept cs) n m in ap (slice_get (kept cs)) (number_at cs r.0 n r.1) ∙ r.1

-- numbers don't fall, and behind a kept copy they rise
pub number_rises : (ns : List Numbered) (i j : ℕ) → i ≤ j → number_of ns i ≤ number_of ns j
number_rises [] i j le = omega arith
number_rises (n ∷ ns) i j le = go (cases_lt n.place i) (cases_lt n.place j) (number_rises ns i j le)
  where
    go : (n.place < i) ⊎ (i ≤ n.place) → (n.place < j) ⊎ (j ≤ n.place) → number_of ns i ≤ number_of ns j → number_of (n ∷ ns) i ≤ number_of (n ∷ ns) j
    go (inl a) b ih =
        let more_i = number_more n ns i a in
        let more_j = number_more n ns j (omega arith) in
        omega arith
    go (inr a) (inl b) ih =
        let same_i = number_same n ns i a in
        let more_j = number_more n ns j b in
        omega arith
    go (inr a) (inr b) ih =
        let same_i = number_same n ns i a in
        let same_j = number_same n ns j b in
        omega arith

pub number_below : (ns : List Numbered) (n : Numbered) (j : ℕ) → In n ns → n.place < j → number_of ns n.place < number_of ns j
number_below [] n j m lt = absurd m
number_below (o ∷ ns) n j (inl e) lt =
    let place : n.place ≡ o.place = ap (λ (x : Numbered). x.place) e in
    let same = number_same o ns n.place (omega arith) in
    let more = number_more o ns j (omega arith) in
    let rises = number_rises ns n.place j (omega arith) in
    omega arith
number_below (o ∷ ns) n j (inr m) lt = go (cases_lt o.place n.place) (cases_lt o.place j) (number_below ns n j m lt)
  where
    go : (o.place < n.place) ⊎ (n.place ≤ o.place) → (o.place < j) ⊎ (j ≤ o.place) → number_of ns n.place < number_of ns j → number_of (o ∷ ns) n.place < number_of (o ∷ ns) j
    go (inl a) b ih =
        let more_n = number_more o ns n.place a in
        let more_j = number_more o ns j (omega arith) in
        omega arith
    go (inr a) (inl b) ih =
        let same_n = number_same o ns n.place a in
        let more_j = number_more o ns j b in
        omega arith
    go (inr a) (inr b) ih =
        let same_n = number_same o ns n.place a in
        let same_j = number_same o ns j b in
        omega arith

---- which are kept

in_kept : (b : Bool) (n h : Numbered) (ns : List Numbered) → In n ns → In n (cond b (h ∷ ns) ns)
in_kept true n h ns m = inr m
in_kept false n h ns m = m

kept_in : (b : Bool) (n h : Numbered) (ns : List Numbered) → In n (cond b (h ∷ ns) ns) → ((n ≡ h) × (b ≡ true)) ⊎ In n ns
kept_in true n h ns (inl e) = inl (e, refl)
kept_in true n h ns (inr m) = inr m
kept_in false n h ns m = inr m

-- a kept copy is the one of its place
copy_from : (place : ℕ) (cs : List Copy) (n : Numbered) → In n (kept_from place cs) → (i : ℕ) × (n.place ≡ place + i) × (slice_get cs i ≡ Some n.copy)
copy_from place [] n m = absurd m
copy_from place (c ∷ cs) n m =
    go (kept_in (does_sink c.transform || is_taken place (kept_from (place + 1) cs)) n (record { place = place; copy = c }) (kept_from (place + 1) cs) m) (copy_from (place + 1) cs n)
  where
    go : ((n ≡ record { place = place; copy = c }) × ((does_sink c.transform || is_taken place (kept_from (place + 1) cs)) ≡ true)) ⊎ In n (kept_from (place + 1) cs)
        → (In n (kept_from (place + 1) cs) → (i : ℕ) × (n.place ≡ place + 1 + i) × (slice_get cs i ≡ Some n.copy))
        → (i : ℕ) × (n.place ≡ place + i) × (slice_get (c ∷ cs) i ≡ Some n.copy)
    go (inl e) ih = let is : n.place ≡ place = ap (λ (x : Numbered). x.place) e.0 in (0, omega arith, ap (λ (x : Numbered). Some x.copy) (sym e.0))
    go (inr l) ih = let r = ih l in let is : n.place ≡ place + 1 + r.0 = r.1 in (suc r.0, omega arith, r.2)

pub copy_at : (cs : List Copy) (n : Numbered) → In n (kept cs) → slice_get cs n.place ≡ Some n.copy
copy_at cs n m =
    let r = copy_from 0 cs n m in
    let is : n.place ≡ 0 + r.0 = r.1 in
    let same : n.place ≡ r.0 = omega arith in
    ap (slice_get cs) same ∙ r.2

-- whether a copy takes the one of a place
abbrev pub takes : Copy → ℕ → Bool
takes c place = list_any (λ j. j == place) c.inputs

abbrev pub KeptAt : List Numbered → ℕ → Type 0
KeptAt ns place = (n : Numbered) × In n ns × (n.place ≡ place)

-- what a kept copy takes from before it is kept
taken_from : (place : ℕ) (cs : List Copy) (n : Numbered) (j : ℕ) → In n (kept_from place cs) → takes n.copy j ≡ true → place ≤ j → j < n.place → KeptAt (kept_from place cs) j
taken_from place [] n j m t le lt = absurd m
taken_from place (c ∷ cs) n j m t le lt =
    go (kept_in test n own rest m) (eq-or-lt_of_le le) (taken_from (place + 1) cs n j)
  where
    rest : List Numbered
    rest = kept_from (place + 1) cs

    own : Numbered
    own = record { place = place; copy = c }

    test : Bool
    test = does_sink c.transform || is_taken place (kept_from (place + 1) cs)

    go : ((n ≡ own) × (test ≡ true)) ⊎ In n rest → (place ≡ j) ⊎ (place < j)
        → (In n rest → takes n.copy j ≡ true → place + 1 ≤ j → j < n.place → KeptAt rest j) → KeptAt (kept_from place (c ∷ cs)) j
    go (inl a) b ih = let is : n.place ≡ place = ap (λ (x : Numbered). x.place) a.0 in absurd (omega arith)
    go (inr m) (inl b) ih =
        let taken : is_taken place rest ≡ true = any_in (λ x. list_any (λ i. i == place) x.copy.inputs) rest n m (ap (takes n.copy) b ∙ t) in
        let passed : test ≡ true = or_right (does_sink c.transform) (is_taken place rest) taken in
        (own, subst (λ d. In own (cond d (own ∷ rest) rest)) (sym passed) (inl refl), b)
    go (inr m) (inr b) ih = let r = ih m t (omega arith) lt in (r.0, in_kept test r.0 own rest r.1, r.2)

pub taken_kept : (cs : List Copy) (n : Numbered) (j : ℕ) → In n (kept cs) → takes n.copy j ≡ true → j < n.place → KeptAt (kept cs) j
taken_kept cs n j m t lt = taken_from 0 cs n j m t (omega arith) lt

-- where each takes what comes before it
pub input_kept : (cs : List Copy) → IsLower (map placed_copy cs) → (n : Numbered) → In n (kept cs) → (k j : ℕ) → slice_get n.copy.inputs k ≡ Some j → (j < n.place) × KeptAt (kept cs) j
input_kept cs lower n m k j e =
    let here : slice_get (map placed_copy cs) n.place ≡ Some (placed_copy n.copy) = slice_get-map placed_copy cs n.place ∙ ap (option_map placed_copy) (copy_at cs n m) in
    let lt : j < n.place = lower n.place (placed_copy n.copy) k j here e in
    (lt, taken_kept cs n j m (list_any-at (λ i. i == j) n.copy.inputs k j e (eq-eqb j j refl)) lt)

or_wider : (a b c : Bool) → (a || b) ≡ true → (b ≡ true → c ≡ true) → (a || c) ≡ true
or_wider true b c h f = refl
or_wider false b c h f = f h

taken_wider : (b : Bool) (place : ℕ) (n : Numbered) (ns : List Numbered) → is_taken place ns ≡ true → is_taken place (cond b (n ∷ ns) ns) ≡ true
taken_wider true place n ns t = or_right (takes n.copy place) (is_taken place ns) t
taken_wider false place n ns t = t

-- a kept copy is a sink, or a kept one takes it
reason_from : (place : ℕ) (cs : List Copy) (n : Numbered) → In n (kept_from place cs) → (does_sink n.copy.transform || is_taken n.place (kept_from place cs)) ≡ true
reason_from place [] n m = absurd m
reason_from place (c ∷ cs) n m = go (kept_in test n own rest m) (reason_from (place + 1) cs n)
  where
    rest : List Numbered
    rest = kept_from (place + 1) cs

    own : Numbered
    own = record { place = place; copy = c }

    test : Bool
    test = does_sink c.transform || is_taken place (kept_from (place + 1) cs)

    wider : (x : Numbered) → (does_sink x.copy.transform || is_taken x.place rest) ≡ true → (does_sink x.copy.transform || is_taken x.place (cond test (own ∷ rest) rest)) ≡ true
    wider x h = or_wider (does_sink x.copy.transform) (is_taken x.place rest) (is_taken x.place (cond test (own ∷ rest) rest)) h (λ t. taken_wider test x.place own rest t)

    go : ((n ≡ own) × (test ≡ true)) ⊎ In n rest → (In n rest → (does_sink n.copy.transform || is_taken n.place rest) ≡ true)
        → (does_sink n.copy.transform || is_taken n.place (cond test (own ∷ rest) rest)) ≡ true
    go (inl a) ih = wider n (subst (λ x. (does_sink x.copy.transform || is_taken x.place rest) ≡ true) (sym a.0) a.1)
    go (inr m) ih = wider n (ih m)

pub reason_kept : (cs : List Copy) (n : Numbered) → In n (kept cs) → (does_sink n.copy.transform || is_taken n.place (kept cs)) ≡ true
reason_kept cs n m = reason_from 0 cs n m

-- a sink is kept
sink_from : (place : ℕ) (cs : List Copy) (i : ℕ) (c : Copy) → slice_get cs i ≡ Some c → does_sink c.transform ≡ true → In (record { place = place + i; copy = c }) (kept_from place cs)
sink_from place [] i c e s = cc
sink_from place (d ∷ cs) zero c e s =
    let rest : List Numbered = kept_from (place + 1) cs in
    let own : Numbered = record { place = place; copy = d } in
    let same : d ≡ c = cc in
    let here : place + 0 ≡ place = omega arith in
    let sinks : (does_sink d.transform || is_taken place rest) ≡ true = ap (λ x. does_sink x.transform || is_taken place rest) same ∙ ap (λ b. b || is_taken place rest) s in
    subst (λ b. In (record { place = place + 0; copy = c }) (cond b (own ∷ rest) rest)) (sym sinks) (inl (λ k. record { place = here k; copy = sym same k }))
sink_from place (d ∷ cs) (suc i) c e s =
    let rest : List Numbered = kept_from (place + 1) cs in
    let next : place + 1 + i ≡ place + suc i = omega arith in
    in_kept (does_sink d.transform || is_taken place rest) (record { place = place + suc i; copy = c }) (record { place = place; copy = d }) rest
    (subst (λ p. In (record { place = p; copy = c }) rest) next (sink_from (place + 1) cs i c e s))

pub sink_kept : (cs : List Copy) (i : ℕ) (c : Copy) → slice_get cs i ≡ Some c → does_sink c.transform ≡ true → In (record { place = i; copy = c }) (kept cs)
sink_kept cs i c e s = let here : 0 + i ≡ i = omega arith in subst (λ p. In (record { place = p; copy = c }) (kept cs)) here (sink_from 0 cs i c e s)
