-- Sinks whose names differ are the same by name where they are the same as a set.
use Rattle.std.proofs.Common.{◌≡◌, ◌∙◌, refl, sym, ap, ℕ, zero, suc, ◌+◌, List, [], ◌∷◌, map, Bool, true, false, not, ◌||◌, cond, slice_get, Option, Some, None, Ordering, inl, inr, arith}
use Rattle.std.proofs.lemmas.Slice.Eq.{bytes_eq-Decides}
use Rattle.std.specs.BTreeSet.{insert_key}
use Rattle.std.specs.Cmp.{IsTotalOrder, first_so, nat_cmp_total, on_total, partial_order_from_total, second_so, then_agrees, then_po, total}
use Rattle.std.specs.Cmp.Lexicographic.{lists_total, slice_cmp}
use Rattle.std.specs.FinMap.{IsAntisymmetric, nat_cmp-IsAntisymmetric, slice_cmp-IsAntisymmetric}
use Rattle.std.specs.List.{cons_option, filter_map, list_any}
use Rattle.std.specs.Ordering.{is_lt, match_ordering, ordering_reverse, ordering_then}
use Rattle.std.specs.declared.cmp.Ordering.TheVariants.{Less, Equal, Greater}
use Rattle.nemo_base.specs.Places.{map_at}
use Rattle.nemo_value.proofs.AscendingLists.{ascending_only, in_ascending, rises_ascending}
use Rattle.nemo_value.proofs.MemberLists.{chosen_in, in_chosen, map_in, same_then}
use Rattle.nemo_value.proofs.RecordOrder.{record_strict}
use Rattle.nemo_value.proofs.SortedLists.{IsStrict}
use Rattle.nemo_value.specs.Ascending.{ascending}
use Rattle.nemo_value.specs.Members.{In, SameMembers}
use Rattle.nemo_value.specs.Order.{record_cmp, text_cmp}
use Rattle.nemo_value.specs.SinkOrder.{by_name, in_order, with_sorted}
use Rattle.nemo_value.specs.Sorting.{placed, sorted}
use Rattle.nemo_value.specs.Texts.{all_new, same_text}
use Rattle.nemo_value.specs.declared.record.SinkRows.{SinkRows}
use Rattle.nemo_transform.proofs.FaultOrders.{first_ties, second_ties}
use Rattle.nemo_ir.proofs.Places.{map_at-whole, next, none, same_item}
use Rattle.nemo_plan.proofs.Memberships.{at_in, in_at}
use Rattle.nemo_core.proofs.Changed.{map_at_back}

---- what items give at their places

pub chosen_there : {X Y : Type 0} (f : ℕ → X → Option Y) (xs : List X) (i : ℕ) (x : X) (y : Y) → slice_get xs i ≡ Some x → f i x ≡ Some y → In y (filter_map (λ o. o) (map_at f 0 xs))
chosen_there f xs i x y g e = chosen_in (λ o. o) y (f i x) (map_at f 0 xs) (at_in (map_at f 0 xs) i (f i x) (map_at-whole f xs i x g)) e

pub record IsChosen {X Y : Type 0} (f : ℕ → X → Option Y) (k : ℕ) (xs : List X) (y : Y) : Type 0 where
  pub place : ℕ
  pub item : X
  pub there : slice_get xs place ≡ Some item
  pub is : f (k + place) item ≡ Some y

pub chosen_back : {X Y : Type 0} (f : ℕ → X → Option Y) (k : ℕ) (xs : List X) (y : Y) → In y (filter_map (λ o. o) (map_at f k xs)) → IsChosen f k xs y
chosen_back f k xs y m =
    let c = in_chosen (λ o. o) y (map_at f k xs) m in
    let s = in_at (map_at f k xs) c.0 c.1 in
    let w = map_at_back f k xs s.place c.0 s.is in
    record { place = s.place; item = w.item; there = w.there; is = sym w.is ∙ c.2 }

---- names that differ

-- a list in which names tell sinks apart
abbrev pub Apart : List SinkRows → Type 0
Apart [] = Unit {0}
Apart (s ∷ ss) = ((t : SinkRows) → In t ss → s.name ≡ t.name → ⊥) × Apart ss

-- where names tell places
abbrev pub NamesTell : {X : Type 0} → (ℕ → X → Option SinkRows) → ℕ → List X → Type 0
NamesTell {X} f k xs = (i j : ℕ) (x y : X) (s t : SinkRows) → slice_get xs i ≡ Some x → slice_get xs j ≡ Some y → f (k + i) x ≡ Some s → f (k + j) y ≡ Some t → s.name ≡ t.name → i ≡ j

pub apart_chosen : {X : Type 0} (f : ℕ → X → Option SinkRows) (k : ℕ) (xs : List X) → NamesTell f k xs → Apart (filter_map (λ o. o) (map_at f k xs))
apart_chosen f k [] tell = tt
apart_chosen {X} f k (x ∷ xs) tell = go (f k x) refl (apart_chosen f (k + 1) xs later)
  where
    up : (i : ℕ) (w : X) (s : SinkRows) → f ((k + 1) + i) w ≡ Some s → f (k + suc i) w ≡ Some s
    up i w s e = ap (λ n. f n w) (sym (next k i)) ∙ e

    later : NamesTell f (k + 1) xs
    later i j w z s t gi gj fi fj same = let e : suc i ≡ suc j = tell (suc i) (suc j) w z s t gi gj (up i w s fi) (up j z t fj) same in omega (arith, e)

    go : (o : Option SinkRows) → f k x ≡ o → Apart (filter_map (λ o. o) (map_at f (k + 1) xs)) → Apart (cons_option o (filter_map (λ o. o) (map_at f (k + 1) xs)))
    go None e rest = rest
    go (Some s) e rest = (
      λ t m same.
          let c = chosen_back f (k + 1) xs t m in
          let e : 0 ≡ suc c.place = tell 0 (suc c.place) x c.item s t refl c.there (ap (λ n. f n x) (sym (none k)) ∙ e) (up c.place c.item t c.is) same in
          omega (arith, e),
      rest,
    )

apart_sorted : (ss : List SinkRows) → Apart ss → Apart (map with_sorted ss)
apart_sorted [] h = tt
apart_sorted (s ∷ ss) h = (λ t m same. let u = map_in with_sorted t ss m in h.0 u.0 u.1 (same ∙ ap (λ w. w.name) u.2), apart_sorted ss h.1)

---- by name

-- by name, and then by rows: sinks that tie are equal
abbrev sink_cmp : SinkRows → SinkRows → Ordering
sink_cmp a b = ordering_then (text_cmp a.name b.name) (slice_cmp record_cmp a.rows b.rows)

text_total : IsTotalOrder text_cmp
text_total = lists_total nat_cmp_total

text_one : IsAntisymmetric text_cmp
text_one = slice_cmp-IsAntisymmetric nat_cmp-IsAntisymmetric

sink_total : IsTotalOrder sink_cmp
sink_total =
    total (then_po (partial_order_from_total (on_total (λ (s : SinkRows). s.name) text_total)) (partial_order_from_total (on_total (λ (s : SinkRows). s.rows) (lists_total record_strict.total))))
    (then_agrees (λ a b. refl) (λ a b. refl))

sink_one : IsAntisymmetric sink_cmp
sink_one a b h =
    let names : a.name ≡ b.name = text_one a.name b.name (first_ties (text_cmp a.name b.name) (slice_cmp record_cmp a.rows b.rows) h) in
    let rows : a.rows ≡ b.rows = slice_cmp-IsAntisymmetric record_strict.one a.rows b.rows (second_ties (text_cmp a.name b.name) (slice_cmp record_cmp a.rows b.rows) h) in
    λ i. record { name = names i; rows = rows i }

sink_strict : IsStrict sink_cmp
sink_strict = record { total = sink_total; one = sink_one }

put_alike : (x : SinkRows) (l : List SinkRows) → ((t : SinkRows) → In t l → x.name ≡ t.name → ⊥) → placed by_name x l ≡ insert_key sink_cmp l x
put_alike x [] apart = refl
put_alike x (y ∷ ys) apart = go (text_cmp x.name y.name) refl (put_alike x ys (λ t m. apart t (inr m)))
  where
    back : (r : Ordering) → text_cmp x.name y.name ≡ r → text_cmp y.name x.name ≡ ordering_reverse r
    back r e = text_total.antisymm y.name x.name ∙ ap ordering_reverse e

    left : (r : Ordering) → text_cmp x.name y.name ≡ r → placed by_name x (y ∷ ys) ≡ cond (is_lt (ordering_reverse r)) (y ∷ placed by_name x ys) (x ∷ y ∷ ys)
    left r e = ap (λ q. cond (is_lt q) (y ∷ placed by_name x ys) (x ∷ y ∷ ys)) (back r e)

    right : (r : Ordering) → text_cmp x.name y.name ≡ r
        → match_ordering (ordering_then r (slice_cmp record_cmp x.rows y.rows)) (x ∷ y ∷ ys) (y ∷ ys) (y ∷ insert_key sink_cmp ys x) ≡ insert_key sink_cmp (y ∷ ys) x
    right r e = ap (λ q. match_ordering (ordering_then q (slice_cmp record_cmp x.rows y.rows)) (x ∷ y ∷ ys) (y ∷ ys) (y ∷ insert_key sink_cmp ys x)) (sym e)

    go : (r : Ordering) → text_cmp x.name y.name ≡ r → placed by_name x ys ≡ insert_key sink_cmp ys x → placed by_name x (y ∷ ys) ≡ insert_key sink_cmp (y ∷ ys) x
    go Less e ih = left Less e ∙ right Less e
    go Equal e ih = absurd (apart y (inl refl) (text_one x.name y.name e))
    go Greater e ih = left Greater e ∙ ap (λ l. y ∷ l) ih ∙ right Greater e

sorted_rises : (ss : List SinkRows) → Apart ss → sorted by_name ss ≡ ascending sink_cmp ss
sorted_rises [] h = refl
sorted_rises (s ∷ ss) h =
    ap (placed by_name s) (sorted_rises ss h.1)
    ∙ put_alike s (ascending sink_cmp ss) (λ t m. h.0 t ((in_ascending sink_cmp sink_strict ss t).0 m))

sorted_as_set : (xs ys : List SinkRows) → Apart xs → Apart ys → SameMembers xs ys → sorted by_name xs ≡ sorted by_name ys
sorted_as_set xs ys a b same =
    let mine : SameMembers xs (ascending sink_cmp ys) = same_then same (record { members = λ z. ((in_ascending sink_cmp sink_strict ys z).1, (in_ascending sink_cmp sink_strict ys z).0) }) in
    sorted_rises xs a ∙ sym (ascending_only sink_cmp sink_strict xs (ascending sink_cmp ys) mine (rises_ascending sink_cmp sink_strict ys)) ∙ sym (sorted_rises ys b)

-- sinks whose names differ, with the same rows in order
pub same_in_order : (xs ys : List SinkRows) → Apart xs → Apart ys → SameMembers (map with_sorted xs) (map with_sorted ys) → in_order xs ≡ in_order ys
same_in_order xs ys a b same = sorted_as_set (map with_sorted xs) (map with_sorted ys) (apart_sorted xs a) (apart_sorted ys b) same

---- names that are all new

text_itself : (a : List ℕ) → same_text a a ≡ true
text_itself a = (bytes_eq-Decides a a).1 refl

or_second : (b c : Bool) → c ≡ true → (b || c) ≡ true
or_second true c h = refl
or_second false c h = h

or_first : (b c : Bool) → b ≡ true → (b || c) ≡ true
or_first true c h = refl
or_first false c h = cc

both_ways : (b : Bool) → not b ≡ true → b ≡ true → ⊥
both_ways true h e = cc
both_ways false h e = cc

module _ {X : Type 0} (g : X → Option (List ℕ)) where
  -- a name that was seen has no place
  abbrev NotSeen : List ℕ → List X → Type 0
  NotSeen n xs = (seen : List (List ℕ)) → all_new seen (filter_map g xs) ≡ true → list_any (same_text n) seen ≡ true → (j : ℕ) (x : X) → slice_get xs j ≡ Some x → g x ≡ Some n → ⊥

  not_seen : (n : List ℕ) (xs : List X) → NotSeen n xs
  not_seen n [] seen new has j x there is = cc
  not_seen n (y ∷ ys) seen new has j x there is = go (g y) refl (not_seen n ys) new j there
    where
      go : (o : Option (List ℕ)) → g y ≡ o → NotSeen n ys → all_new seen (cons_option o (filter_map g ys)) ≡ true → (j : ℕ) → slice_get (y ∷ ys) j ≡ Some x → ⊥
      go None e ih h zero t = let clash : None ≡ Some n = sym e ∙ ap g (same_item y x t) ∙ is in cc
      go None e ih h (suc j) t = ih seen h has j x t is
      go (Some m) e ih h zero t =
          let named : Some m ≡ Some n = sym e ∙ ap g (same_item y x t) ∙ is in
          let same : m ≡ n = cc in
          both_ways (list_any (same_text m) seen) (first_so (not (list_any (same_text m) seen)) (all_new (m ∷ seen) (filter_map g ys)) h) (ap (λ w. list_any (same_text w) seen) same ∙ has)
      go (Some m) e ih h (suc j) t =
          ih (m ∷ seen) (second_so (not (list_any (same_text m) seen)) (all_new (m ∷ seen) (filter_map g ys)) h) (or_second (same_text n m) (list_any (same_text n) seen) has) j x t is

  abbrev OnePlace : List X → Type 0
  OnePlace xs = (seen : List (List ℕ)) → all_new seen (filter_map g xs) ≡ true → (i j : ℕ) (x y : X) (n : List ℕ) → slice_get xs i ≡ Some x → slice_get xs j ≡ Some y → g x ≡ Some n → g y ≡ Some n → i ≡ j

  -- a name has one place
  pub one_place : (xs : List X) → OnePlace xs
  one_place [] seen new i j x y n gi gj fi fj = cc
  one_place (w ∷ ws) seen new i j x y n gi gj fi fj = go (g w) refl (one_place ws) new i j gi gj
    where
      first : (m : List ℕ) (z : X) → g w ≡ Some m → slice_get (w ∷ ws) 0 ≡ Some z → g z ≡ Some n → m ≡ n
      first m z e t is = let named : Some m ≡ Some n = sym e ∙ ap g (same_item w z t) ∙ is in cc

      go : (o : Option (List ℕ)) → g w ≡ o → OnePlace ws → all_new seen (cons_option o (filter_map g ws)) ≡ true → (i j : ℕ) → slice_get (w ∷ ws) i ≡ Some x → slice_get (w ∷ ws) j ≡ Some y → i ≡ j
      go o e ih h zero zero ti tj = refl
      go None e ih h zero (suc j) ti tj = let clash : None ≡ Some n = sym e ∙ ap g (same_item w x ti) ∙ fi in cc
      go None e ih h (suc i) zero ti tj = let clash : None ≡ Some n = sym e ∙ ap g (same_item w y tj) ∙ fj in cc
      go None e ih h (suc i) (suc j) ti tj = ap suc (ih seen h i j x y n ti tj fi fj)
      go (Some m) e ih h zero (suc j) ti tj =
          let same : m ≡ n = first m x e ti fi in
          absurd (not_seen n ws (m ∷ seen) (second_so (not (list_any (same_text m) seen)) (all_new (m ∷ seen) (filter_map g ws)) h)
          (or_first (same_text n m) (list_any (same_text n) seen) (ap (same_text n) same ∙ text_itself n)) j y tj fj)
      go (Some m) e ih h (suc i) zero ti tj =
          let same : m ≡ n = first m y e tj fj in
          absurd (not_seen n ws (m ∷ seen) (second_so (not (list_any (same_text m) seen)) (all_new (m ∷ seen) (filter_map g ws)) h)
          (or_first (same_text n m) (list_any (same_text n) seen) (ap (same_text n) same ∙ text_itself n)) i x ti fi)
      go (Some m) e ih h (suc i) (suc j) ti tj =
          ap suc (ih (m ∷ seen) (second_so (not (list_any (same_text m) seen)) (all_new (m ∷ seen) (filter_map g ws)) h) i j x y n ti tj fi fj)
