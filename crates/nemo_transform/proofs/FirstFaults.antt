-- The first fault of faults in front of others is the lesser of the two first.
use Rattle.std.proofs.Common.{◌≡◌, ◌∙◌, refl, sym, ap, ℕ, List, [], ◌∷◌, ◌++◌, map, Bool, true, false, cond, Option, Some, None, Ordering}
use Rattle.std.specs.Prelude.{slice_get, option_map, is_some}
use Rattle.std.specs.List.{filter_map}
use Rattle.std.proofs.lemmas.Option.{slice_get-map}
use Rattle.std.specs.BTreeSet.{insert_key}
use Rattle.std.specs.Cmp.{IsTotalOrder, nat_cmp_total, on_total, partial_order_from_total, then_agrees, then_po, total}
use Rattle.std.specs.FinMap.{IsAntisymmetric, nat_cmp-IsAntisymmetric}
use Rattle.std.specs.Ordering.{is_lt, nat_cmp, ordering_reverse, ordering_then, match_ordering, ord_min}
use Rattle.std.specs.declared.cmp.Ordering.TheVariants.{Less, Equal, Greater}
use Rattle.nemo_value.specs.Ascending.{ascending}
use Rattle.nemo_value.specs.Order.{record_cmp}
use Rattle.nemo_value.proofs.AscendingLists.{Before, Rises, one_rise, rises_ascending, in_ascending}
use Rattle.nemo_value.proofs.SortedLists.{IsStrict}
use Rattle.nemo_value.proofs.KindPlaces.{kind_cmp_is}
use Rattle.nemo_transform.specs.Brought.{Arisen, arisen}
use Rattle.nemo_transform.specs.FaultOrder.{fault_cmp}
use Rattle.nemo_transform.specs.Gives.{Answer, fault_in, own_faults, is_filled}
use Rattle.nemo_transform.specs.declared.fault.Fault.{Fault}
use Rattle.nemo_transform.specs.FirstFault.{first_fault, lesser_by, arisen_at}
use Rattle.nemo_transform.specs.ArisenOrder.{place_cmp}
use Rattle.nemo_transform.specs.declared.fault.Located.{Located}
use Rattle.nemo_transform.specs.contracts.fault.LocatedOrd.TheImpl.{ghosts}
use Rattle.nemo_transform.proofs.FaultOrders.{fault_strict, first_ties, second_ties}

module _ {K : Type 0} (R : K → K → Ordering) (o : IsStrict R) where
  -- the head of a list with an item put at its place
  head_placed : (x : K) (l : List K) → slice_get (insert_key R l x) 0 ≡ lesser_by R (Some x) (slice_get l 0)
  head_placed x [] = refl
  head_placed x (y ∷ ys) = go (R x y) refl (R y x) (o.total.antisymm y x)
    where
      go : (r : Ordering) → R x y ≡ r → (s : Ordering) → s ≡ ordering_reverse (R x y) → slice_get (match_ordering r (x ∷ y ∷ ys) (y ∷ ys) (y ∷ insert_key R ys x)) 0 ≡ cond (is_lt s) (Some y) (Some x)
      go Less e s f = sym (ap (λ w. cond (is_lt w) (Some y) (Some x)) (f ∙ ap ordering_reverse e))
      go Equal e s f = sym (ap (λ w. cond (is_lt w) (Some y) (Some x)) (f ∙ ap ordering_reverse e) ∙ ap Some (o.one x y e))
      go Greater e s f = sym (ap (λ w. cond (is_lt w) (Some y) (Some x)) (f ∙ ap ordering_reverse e))

  lt_less : (r : Ordering) → is_lt r ≡ true → r ≡ Less
  lt_less Less h = refl
  lt_less Equal h = cc
  lt_less Greater h = cc

  -- what isn't below y isn't below an x that y isn't below
  not_below : (x y z : K) → is_lt (R z y) ≡ false → is_lt (R y x) ≡ false → is_lt (R z x) ≡ false
  not_below x y z p q = go (R x y) refl (R y z) refl
    where
      go : (r : Ordering) → R x y ≡ r → (s : Ordering) → R y z ≡ s → is_lt (R z x) ≡ false
      go Less e Less f = ap is_lt (o.total.antisymm z x ∙ ap ordering_reverse (o.total.trans x y z e f))
      go Less e Equal f = ap (λ w. is_lt (R w x)) (sym (o.one y z f)) ∙ q
      go Less e Greater f = let k : false ≡ true = sym p ∙ ap is_lt (o.total.antisymm z y ∙ ap ordering_reverse f) in cc
      go Equal e s f = ap (λ w. is_lt (R z w)) (o.one x y e) ∙ p
      go Greater e s f = let k : false ≡ true = sym q ∙ ap is_lt (o.total.antisymm y x ∙ ap ordering_reverse e) in cc

  lesser_three : (x y z : K) → lesser_by R (Some x) (lesser_by R (Some y) (Some z)) ≡ lesser_by R (lesser_by R (Some x) (Some y)) (Some z)
  lesser_three x y z = go (is_lt (R z y)) refl (is_lt (R y x)) refl (is_lt (R z x)) refl
    where
      go : (b : Bool) → is_lt (R z y) ≡ b → (c : Bool) → is_lt (R y x) ≡ c → (d : Bool) → is_lt (R z x) ≡ d → lesser_by R (Some x) (cond b (Some z) (Some y)) ≡ lesser_by R (cond c (Some y) (Some x)) (Some z)
      go true p true q d r =
          ap (λ w. cond (is_lt w) (Some z) (Some x)) (o.total.trans z y x (lt_less (R z y) p) (lt_less (R y x) q)) ∙ sym (ap (λ w. cond w (Some z) (Some y)) p)
      go true p false q d r = refl
      go false p true q d r = ap (λ w. cond w (Some y) (Some x)) q ∙ sym (ap (λ w. cond w (Some z) (Some y)) p)
      go false p false q d r = ap (λ w. cond w (Some y) (Some x)) q ∙ sym (ap (λ w. cond w (Some z) (Some x)) (not_below x y z p q))

  lesser_joined : (x : K) (a b : Option K) → lesser_by R (Some x) (lesser_by R a b) ≡ lesser_by R (lesser_by R (Some x) a) b
  lesser_joined x None b = refl
  lesser_joined x (Some y) None = go (is_lt (R y x))
    where
      go : (b : Bool) → cond b (Some y) (Some x) ≡ lesser_by R (cond b (Some y) (Some x)) None
      go true = refl
      go false = refl
  lesser_joined x (Some y) (Some z) = lesser_three x y z

  pub lesser_joins : (a b c : Option K) → lesser_by R a (lesser_by R b c) ≡ lesser_by R (lesser_by R a b) c
  lesser_joins None b c = refl
  lesser_joins (Some x) b c = lesser_joined x b c

  pub lesser_none : (a : Option K) → lesser_by R a None ≡ a
  lesser_none None = refl
  lesser_none (Some x) = refl

  pub first_of_both : (xs ys : List K) → slice_get (ascending R (xs ++ ys)) 0 ≡ lesser_by R (slice_get (ascending R xs) 0) (slice_get (ascending R ys) 0)
  first_of_both [] ys = refl
  first_of_both (x ∷ xs) ys =
      head_placed x (ascending R (xs ++ ys)) ∙ ap (lesser_by R (Some x)) (first_of_both xs ys)
      ∙ lesser_joined x (slice_get (ascending R xs) 0) (slice_get (ascending R ys) 0)
      ∙ sym (ap (λ a. lesser_by R a (slice_get (ascending R ys) 0)) (head_placed x (ascending R xs)))

  -- what rises is in order already
  pub ascending_risen : (xs : List K) → Rises R xs → ascending R xs ≡ xs
  ascending_risen xs h = one_rise R o (ascending R xs) xs (rises_ascending R o xs) h (record { members = λ z. in_ascending R o xs z })

---- faults by their places

fault_of : Arisen ℕ → Fault
fault_of a = record { kind = a.kind; rec = a.rec }

place_total : IsTotalOrder place_cmp
unfolding fault_of
place_total =
    total (then_po (partial_order_from_total (on_total (λ (a : Arisen ℕ). a.vertex) nat_cmp_total)) (partial_order_from_total (on_total fault_of fault_strict.total)))
    (then_agrees (λ a b. refl) (λ a b. refl))

place_one : IsAntisymmetric place_cmp
unfolding fault_of
place_one a b h =
    let places : a.vertex ≡ b.vertex = nat_cmp-IsAntisymmetric a.vertex b.vertex (first_ties (nat_cmp a.vertex b.vertex) (fault_cmp (fault_of a) (fault_of b)) h) in
    let faults : fault_of a ≡ fault_of b = fault_strict.one (fault_of a) (fault_of b) (second_ties (nat_cmp a.vertex b.vertex) (fault_cmp (fault_of a) (fault_of b)) h) in
    λ i. record { vertex = places i; kind = (faults i).kind; rec = (faults i).rec }

pub place_strict : IsStrict place_cmp
place_strict = record { total = place_total; one = place_one }

pub first_fault_both : (xs ys : List (Arisen ℕ)) → first_fault (xs ++ ys) ≡ lesser_by place_cmp (first_fault xs) (first_fault ys)
first_fault_both xs ys = first_of_both place_cmp place_strict xs ys

pub self_equal : (r : Ordering) → r ≡ ordering_reverse r → r ≡ Equal
self_equal Less h = cc
self_equal Equal h = refl
self_equal Greater h = cc

before_arisen : (place : ℕ) (x : Fault) (xs : List Fault) → Before fault_cmp x xs → Before place_cmp (arisen place x) (map (arisen place) xs)
before_arisen place x [] h = tt
before_arisen place x (y ∷ ys) h = (ap (λ r. ordering_then r (fault_cmp x y)) (self_equal (nat_cmp place place) (nat_cmp_total.antisymm place place)) ∙ h.0, before_arisen place x ys h.1)

rises_arisen : (place : ℕ) (xs : List Fault) → Rises fault_cmp xs → Rises place_cmp (map (arisen place) xs)
rises_arisen place [] h = tt
rises_arisen place (x ∷ xs) h = (before_arisen place x xs h.0, rises_arisen place xs h.1)

-- the own faults of a vertex are in order
pub first_of_own : (place : ℕ) (given : List Answer) → first_fault (map (arisen place) (own_faults given)) ≡ option_map (arisen place) (slice_get (own_faults given) 0)
first_of_own place given =
    ap (λ l. slice_get l 0) (ascending_risen place_cmp place_strict (map (arisen place) (own_faults given)) (rises_arisen place (own_faults given) (rises_ascending fault_cmp fault_strict (filter_map fault_in given))))
    ∙ slice_get-map (arisen place) (own_faults given) 0

some_lesser : {X : Type 0} (R : X → X → Ordering) (x : X) (b : Option X) → is_some (lesser_by R (Some x) b) ≡ true
some_lesser R x None = refl
some_lesser R x (Some y) = go (is_lt (R y x))
  where
    go : (b : Bool) → is_some (cond b (Some y) (Some x)) ≡ true
    go true = refl
    go false = refl

-- there is a first fault exactly where there are faults
pub some_first : (xs : List (Arisen ℕ)) → is_some (first_fault xs) ≡ is_filled xs
some_first [] = refl
some_first (x ∷ xs) = ap is_some (head_placed place_cmp place_strict x (ascending place_cmp xs)) ∙ some_lesser place_cmp x (first_fault xs)

---- the derived order

abbrev pub derived_cmp : Located → Located → Ordering
derived_cmp = ghosts.cmp

located_cmp_is : (a b : Located) → derived_cmp a b ≡ place_cmp (arisen_at a) (arisen_at b)
located_cmp_is a b = ap (λ r. ordering_then (nat_cmp a.place b.place) (ordering_then r (record_cmp a.rec b.rec))) (kind_cmp_is a.kind b.kind)

pub least_is : (x y : Located) → Some (arisen_at (ord_min derived_cmp x y)) ≡ lesser_by place_cmp (Some (arisen_at x)) (Some (arisen_at y))
least_is x y = go (derived_cmp y x) (located_cmp_is y x)
  where
    go : (r : Ordering) → r ≡ place_cmp (arisen_at y) (arisen_at x) → Some (arisen_at (cond (is_lt r) y x)) ≡ lesser_by place_cmp (Some (arisen_at x)) (Some (arisen_at y))
    go Less e = ap (λ w. cond (is_lt w) (Some (arisen_at y)) (Some (arisen_at x))) e
    go Equal e = ap (λ w. cond (is_lt w) (Some (arisen_at y)) (Some (arisen_at x))) e
    go Greater e = ap (λ w. cond (is_lt w) (Some (arisen_at y)) (Some (arisen_at x))) e
