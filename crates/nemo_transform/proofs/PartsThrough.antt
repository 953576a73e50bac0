-- Rows that go through vertices part by part.
use Rattle.std.proofs.Common.{◌≡◌, ◌∙◌, refl, sym, ap, ℕ, suc, List, [], ◌∷◌, ◌++◌, map, Bool, true, false, cond, Option, Some, None, Ok, Ordering, arith}
use Rattle.std.specs.Prelude.{All, slice_get, option_map}
use Rattle.std.specs.List.{filter_map}
use Rattle.std.proofs.lemmas.Grind.{flat_map-append}
use Rattle.std.proofs.lemmas.List.Elements.{All-tail, filter_map-append}
use Rattle.std.specs.Cmp.{nat_cmp_total}
use Rattle.std.specs.Ordering.{is_lt, nat_cmp, ordering_reverse, ordering_then}
use Rattle.std.specs.declared.cmp.Ordering.TheVariants.{Less, Equal, Greater}
use Rattle.nemo_value.specs.Ascending.{ascending}
use Rattle.nemo_value.specs.Val.{val}
use Rattle.nemo_value.proofs.SortedLists.{IsStrict}
use Rattle.nemo_transform.specs.ArisenOrder.{place_cmp}
use Rattle.nemo_transform.specs.Brought.{Arisen, arisen}
use Rattle.nemo_transform.specs.FaultOrder.{fault_cmp}
use Rattle.nemo_transform.specs.Gives.{Answer, Row, alone, answers, emitted, fault_in, own_faults, row_in, row_of, rows_in, rows_or, where_so, words_in}
use Rattle.nemo_transform.specs.declared.fault.Fault.{Fault}
use Rattle.nemo_transform.specs.declared.transform.Transform.{Transform}
use Rattle.nemo_transform.specs.declared.transform.Transform.TheVariants.{Source, Map, Filter, Emit, Words, Union, Reduce, Distinct, Join, SideJoin, Sink}
use Rattle.nemo_transform.specs.FirstFault.{first_fault, lesser_by}
use Rattle.nemo_transform.specs.Through.{Batch, all_through, both, clean, through}
use Rattle.nemo_transform.specs.RowByRow.{goes_by_row}
use Rattle.nemo_transform.proofs.FaultOrders.{fault_strict}
use Rattle.nemo_transform.proofs.FirstFaults.{first_of_both, first_of_own, lesser_joins, lesser_none, place_strict, self_equal}

-- the lesser of two, either way
module _ {K : Type 0} (R : K → K → Ordering) (o : IsStrict R) where
  lesser_swaps : (a b : Option K) → lesser_by R a b ≡ lesser_by R b a
  lesser_swaps None None = refl
  lesser_swaps None (Some y) = refl
  lesser_swaps (Some x) None = refl
  lesser_swaps (Some x) (Some y) = go (R x y) (R y x) refl (o.total.antisymm y x)
    where
      go : (r s : Ordering) → R x y ≡ r → s ≡ ordering_reverse (R x y) → cond (is_lt s) (Some y) (Some x) ≡ cond (is_lt r) (Some x) (Some y)
      go Less s e f = ap (λ w. cond (is_lt w) (Some y) (Some x)) (f ∙ ap ordering_reverse e)
      go Equal s e f = ap (λ w. cond (is_lt w) (Some y) (Some x)) (f ∙ ap ordering_reverse e) ∙ ap Some (o.one x y e)
      go Greater s e f = ap (λ w. cond (is_lt w) (Some y) (Some x)) (f ∙ ap ordering_reverse e)

  lesser_four : (a b c d : Option K) → lesser_by R (lesser_by R a b) (lesser_by R c d) ≡ lesser_by R (lesser_by R a c) (lesser_by R b d)
  lesser_four a b c d =
      sym (lesser_joins R o a b (lesser_by R c d))
      ∙ ap (lesser_by R a) (lesser_joins R o b c d ∙ ap (λ x. lesser_by R x d) (lesser_swaps b c) ∙ sym (lesser_joins R o c b d))
      ∙ lesser_joins R o a c (lesser_by R b d)

lesser_arisen : (place : ℕ) (a b : Option Fault) → option_map (arisen place) (lesser_by fault_cmp a b) ≡ lesser_by place_cmp (option_map (arisen place) a) (option_map (arisen place) b)
lesser_arisen place None b = refl
lesser_arisen place (Some x) None = refl
lesser_arisen place (Some x) (Some y) =
    go (is_lt (fault_cmp y x))
    ∙ ap (λ r. cond (is_lt r) (Some (arisen place y)) (Some (arisen place x)))
    (sym (ap (λ r. ordering_then r (fault_cmp y x)) (self_equal (nat_cmp place place) (nat_cmp_total.antisymm place place))))
  where
    go : (b : Bool) → option_map (arisen place) (cond b (Some y) (Some x)) ≡ cond b (Some (arisen place y)) (Some (arisen place x))
    go true = refl
    go false = refl

-- the first own fault of a vertex
abbrev own : ℕ → List Answer → Option (Arisen ℕ)
own place given = first_fault (map (arisen place) (own_faults given))

own_both : (place : ℕ) (xs ys : List Answer) → own place (xs ++ ys) ≡ lesser_by place_cmp (own place xs) (own place ys)
own_both place xs ys =
    first_of_own place (xs ++ ys)
    ∙ ap (λ l. option_map (arisen place) (slice_get (ascending fault_cmp l) 0)) (filter_map-append fault_in xs ys)
    ∙ ap (option_map (arisen place)) (first_of_both fault_cmp fault_strict (filter_map fault_in xs) (filter_map fault_in ys))
    ∙ lesser_arisen place (slice_get (own_faults xs) 0) (slice_get (own_faults ys) 0)
    ∙ sym (λ i. lesser_by place_cmp (first_of_own place xs i) (first_of_own place ys i))

-- rows one after another give what they give, one after another
answers_both : (t : Transform) (a b : List Row) → goes_by_row t ≡ true → answers t (a ++ b) [] ≡ answers t a [] ++ answers t b []
answers_both (Source rows) a b h = cc
answers_both (Map out) a b h = flat_map-append (λ r. rows_or r (alone (row_of out r))) a b
answers_both (Filter c) a b h = flat_map-append (λ r. rows_or r (where_so (val c r) (Ok (r ∷ [])))) a b
answers_both (Emit outs) a b h = flat_map-append (λ r. rows_or r (emitted outs r)) a b
answers_both (Words field) a b h = flat_map-append (λ r. rows_or r (words_in (slice_get r field))) a b
answers_both (Union ports) a b h = cc
answers_both (Reduce by field) a b h = cc
answers_both Distinct a b h = cc
answers_both Join a b h = cc
answers_both SideJoin a b h = cc
answers_both (Sink name) a b h = cc

answers_none : (t : Transform) → goes_by_row t ≡ true → answers t [] [] ≡ []
answers_none (Source rows) h = cc
answers_none (Map out) h = refl
answers_none (Filter c) h = refl
answers_none (Emit outs) h = refl
answers_none (Words field) h = refl
answers_none (Union ports) h = cc
answers_none (Reduce by field) h = cc
answers_none Distinct h = cc
answers_none Join h = cc
answers_none SideJoin h = cc
answers_none (Sink name) h = cc

through_both : (place : ℕ) (t : Transform) (a b : Batch) → goes_by_row t ≡ true → through place t (both a b) ≡ both (through place t a) (through place t b)
through_both place t a b h =
    let given = answers_both t a.rows b.rows h in
    let mine = answers t a.rows [] in
    let others = answers t b.rows [] in
    let rows : rows_in (answers t (a.rows ++ b.rows) []) ≡ rows_in mine ++ rows_in others = ap rows_in given ∙ filter_map-append row_in mine others in
    let first : lesser_by place_cmp (lesser_by place_cmp a.first b.first) (own place (answers t (a.rows ++ b.rows) [])) ≡ lesser_by place_cmp (lesser_by place_cmp a.first (own place mine)) (lesser_by place_cmp b.first (own place others)) =
    ap (lesser_by place_cmp (lesser_by place_cmp a.first b.first)) (ap (own place) given ∙ own_both place mine others) ∙ lesser_four place_cmp place_strict a.first b.first (own place mine) (own place others) in
    λ i. record { rows = rows i; first = first i }

-- each of some transforms goes row by row
abbrev pub GoByRow : List Transform → Type 0
GoByRow ts = All (λ t. goes_by_row t ≡ true) ts

first_by_row : (t : Transform) (ts : List Transform) → GoByRow (t ∷ ts) → goes_by_row t ≡ true
first_by_row t ts h = h 0 t (omega arith)

pub all_both : (place : ℕ) (ts : List Transform) (a b : Batch) → GoByRow ts → all_through place ts (both a b) ≡ both (all_through place ts a) (all_through place ts b)
all_both place [] a b h = refl
all_both place (t ∷ ts) a b h = ap (all_through (suc place) ts) (through_both place t a b (first_by_row t ts h)) ∙ all_both (suc place) ts (through place t a) (through place t b) (All-tail (λ u. goes_by_row u ≡ true) t ts h)

-- a fault that comes without rows
abbrev alone_with : Option (Arisen ℕ) → Batch
alone_with fault = record { rows = []; first = fault }

pub all_alone : (place : ℕ) (ts : List Transform) (fault : Option (Arisen ℕ)) → GoByRow ts → all_through place ts (alone_with fault) ≡ alone_with fault
all_alone place [] fault h = refl
all_alone place (t ∷ ts) fault h =
    let none = answers_none t (first_by_row t ts h) in
    let first : lesser_by place_cmp fault (own place (answers t [] [])) ≡ fault = ap (λ given. lesser_by place_cmp fault (own place given)) none ∙ lesser_none place_cmp place_strict fault in
    ap (all_through (suc place) ts) (λ i. record { rows = rows_in (none i); first = first i }) ∙ all_alone (suc place) ts fault (All-tail (λ u. goes_by_row u ≡ true) t ts h)

-- rows with a fault are the fault, and then the rows
pub all_with : (place : ℕ) (ts : List Transform) (rows : List Row) (fault : Option (Arisen ℕ)) → GoByRow ts
    → all_through place ts (record { rows = rows; first = fault }) ≡ record { rows = (all_through place ts (clean rows)).rows; first = lesser_by place_cmp fault (all_through place ts (clean rows)).first }
all_with place ts rows fault h =
    let whole : record { rows = rows; first = fault } ≡ both (alone_with fault) (clean rows) = λ i. record { rows = rows; first = sym (lesser_none place_cmp place_strict fault) i } in
    ap (all_through place ts) whole ∙ all_both place ts (alone_with fault) (clean rows) h ∙ ap (λ k. both k (all_through place ts (clean rows))) (all_alone place ts fault h)

pub own_first : (place : ℕ) (given : List Answer) → option_map (arisen place) (slice_get (own_faults given) 0) ≡ first_fault (map (arisen place) (own_faults given))
own_first place given = sym (first_of_own place given)

-- a part more
pub part_more : (place : ℕ) (ts : List Transform) (rows part more : List Row) (all now : Batch) → GoByRow ts
    → more ≡ rows ++ part → all ≡ all_through place ts (clean rows) → now ≡ both all (all_through place ts (clean part))
    → now ≡ all_through place ts (clean more)
part_more place ts rows part more all now h is a n =
    n ∙ ap (λ k. both k (all_through place ts (clean part))) a ∙ sym (all_both place ts (clean rows) (clean part) h) ∙ ap (λ l. all_through place ts (clean l)) (sym is)
