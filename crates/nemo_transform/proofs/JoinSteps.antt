-- The answers of a join, side_by_side by side_by_side and left row by left row.
use Rattle.std.proofs.Common.{◌≡◌, ◌∙◌, ◌≤◌, ◌<◌, ◌+◌, ℕ, List, [], ◌∷◌, ◌++◌, Bool, true, false, cond, Some, Option, Ok, Err, refl, sym, ap, length, get_or, take, drop, map, arith, append_assoc, append-nil, length-append, Vec, Bor, Global, Ordering}
use Rattle.std.specs.Cmp.{IsTotalOrder}
use Rattle.std.specs.BTreeSet.{insert_key}
use Rattle.std.specs.List.{filter_map, flat_map, slice_get}
use Rattle.std.specs.Ordering.{match_ordering}
use Rattle.std.specs.Prelude.{nat_le}
use Rattle.std.specs.declared.cmp.Ordering.TheVariants.{Less, Equal, Greater}
use Rattle.std.proofs.lemmas.Bool.{le-leb, lt-leb}
use Rattle.std.proofs.lemmas.Cmp.{tied_itself}
use Rattle.std.proofs.lemmas.List.{drop_more, take_more, map-append}
use Rattle.std.proofs.lemmas.List.Concat.{flat_map-cons}
use Rattle.std.proofs.lemmas.List.Elements.{filter_map-append}
use Rattle.nemo_value.specs.Ascending.{ascending}
use Rattle.nemo_value.specs.declared.expr.Kind.TheVariants.{Wide}
use Rattle.nemo_value.specs.declared.field.Field.{Field}
use Rattle.nemo_value.specs.declared.record.Record.{Record}
use Rattle.nemo_transform.specs.FaultOrder.{fault_cmp}
use Rattle.nemo_transform.specs.FirstField.{side_by_side}
use Rattle.nemo_transform.specs.Gives.{Row, Answer, fault_in, is_filled, joined, keyless, row_in, rows_in}
use Rattle.nemo_transform.specs.FirstField.{with_first}
use Rattle.nemo_value.specs.Key.{first_key}
use Rattle.nemo_transform.specs.declared.fault.Fault.{Fault}
use Rattle.nemo_transform.proofs.FaultOrders.{fault_strict}
use Rattle.nemo_transform.proofs.FirstFields.{joined_is}
use Rattle.nemo_transform.proofs.RowsByKey.{rows_behind}

---- one side_by_side

-- the right key is left out
pub width : (l r : Row) → 1 ≤ length r → length (l ++ drop 1 r) + 1 ≡ length l + length r
width l [] h = absurd (omega arith)
width l (f ∷ fs) h = omega (arith, length-append l fs)

abbrev pub wide : Row → Fault
wide l = record { kind = Wide; rec = l }

pair_by : (l r : Row) (b : Bool) → nat_le (length (l ++ drop 1 r)) 16 ≡ b → side_by_side l r ≡ cond b (Ok (l ++ drop 1 r)) (Err (wide l))
pair_by l r b e = ap (λ c. cond c (Ok (l ++ drop 1 r)) (Err (wide l))) e

pub fits : (l r : Row) → length (l ++ drop 1 r) ≤ 16 → side_by_side l r ≡ Ok (l ++ drop 1 r)
fits l r h = pair_by l r true (le-leb (length (l ++ drop 1 r)) 16 h)

pub exceeds : (l r : Row) → 16 < length (l ++ drop 1 r) → side_by_side l r ≡ Err (wide l)
exceeds l r h = pair_by l r false (lt-leb (length (l ++ drop 1 r)) 16 h)

---- the pairs of a left row

abbrev pub pairs : Row → List (Bor Record) → List Answer
pairs l rs = map (side_by_side l) (map (λ r. r.now) rs)

module _ (l : Row) (rs : List (Bor Record)) (i : ℕ) (r : Bor Record) (within : i < length rs) (is : r ≡ get_or rs i r) where
  front : pairs l (drop i rs) ≡ side_by_side l r.now ∷ pairs l (drop (i + 1) rs)
  front = ap (pairs l) (drop_more rs i r within ∙ ap (λ x. x ∷ drop (i + 1) rs) (sym is))

  end : filter_map fault_in (pairs l (take (i + 1) rs)) ≡ filter_map fault_in (pairs l (take i rs)) ++ filter_map fault_in (side_by_side l r.now ∷ [])
  end =
      ap (λ xs. filter_map fault_in (pairs l xs)) (take_more rs i r within ∙ ap (λ x. take i rs ++ x ∷ []) (sym is))
      ∙ ap (λ xs. filter_map fault_in (map (side_by_side l) xs)) (map-append (λ (x : Bor Record). x.now) (take i rs) (r ∷ []))
      ∙ ap (filter_map fault_in) (map-append (side_by_side l) (map (λ (x : Bor Record). x.now) (take i rs)) (r.now ∷ []))
      ∙ filter_map-append fault_in (pairs l (take i rs)) (side_by_side l r.now ∷ [])

  -- the rows with a side_by_side that fits
  pub rows_kept : (rows after all : List Row) (row : Row) → side_by_side l r.now ≡ Ok row → after ≡ rows ++ row ∷ [] → rows ++ rows_in (pairs l (drop i rs)) ≡ all → after ++ rows_in (pairs l (drop (i + 1) rs)) ≡ all
  rows_kept rows after all row p a h =
      ap (λ xs. xs ++ rows_in (pairs l (drop (i + 1) rs))) a ∙ append_assoc rows (row ∷ []) (rows_in (pairs l (drop (i + 1) rs)))
      ∙ sym (ap (λ xs. rows ++ rows_in xs) (front ∙ ap (λ x. x ∷ pairs l (drop (i + 1) rs)) p)) ∙ h

  pub faults_kept : (row : Row) → side_by_side l r.now ≡ Ok row → filter_map fault_in (pairs l (take (i + 1) rs)) ≡ filter_map fault_in (pairs l (take i rs))
  faults_kept row p = end ∙ ap (λ x. filter_map fault_in (pairs l (take i rs)) ++ filter_map fault_in (x ∷ [])) p ∙ append-nil (filter_map fault_in (pairs l (take i rs)))

  -- and with one that doesn't
  pub rows_passed : (rows after all : List Row) → side_by_side l r.now ≡ Err (wide l) → after ≡ rows → rows ++ rows_in (pairs l (drop i rs)) ≡ all → after ++ rows_in (pairs l (drop (i + 1) rs)) ≡ all
  rows_passed rows after all p a h =
      ap (λ xs. xs ++ rows_in (pairs l (drop (i + 1) rs))) a ∙ sym (ap (λ xs. rows ++ rows_in xs) (front ∙ ap (λ x. x ∷ pairs l (drop (i + 1) rs)) p)) ∙ h

  filled_by : (fs : List Fault) (f : Fault) → true ≡ is_filled (fs ++ f ∷ [])
  filled_by [] f = refl
  filled_by (g ∷ fs) f = refl

  pub filled : side_by_side l r.now ≡ Err (wide l) → true ≡ is_filled (filter_map fault_in (pairs l (take (i + 1) rs)))
  filled p =
      filled_by (filter_map fault_in (pairs l (take i rs))) (wide l)
      ∙ sym (ap is_filled (end ∙ ap (λ x. filter_map fault_in (pairs l (take i rs)) ++ filter_map fault_in (x ∷ [])) p))

---- the left rows

-- what is found at the key of a left row gives its answers
pub joined_by : (right : List Row) (l : Row) (k : Field) (found look : Option (Vec (Bor Record) Global)) → keyless first_key right ≡ [] → slice_get l 0 ≡ Some k → found ≡ look → rows_behind look ≡ with_first k right
    → joined first_key first_key right l ≡ map (side_by_side l) (rows_behind found)
joined_by right l k found look keyed at e h =
    joined_is right l k keyed at ∙ ap (map (side_by_side l)) (sym (ap rows_behind e ∙ h))

-- an item twice is as once
twice : {X : Type 0} (R : X → X → Ordering) → IsTotalOrder R → (x : X) (l : List X) → insert_key R (insert_key R l x) x ≡ insert_key R l x
twice R o x [] = ap (λ r. match_ordering r (x ∷ x ∷ []) (x ∷ []) (x ∷ x ∷ [])) (tied_itself o x)
twice R o x (y ∷ ys) = go (R x y) refl (twice R o x ys)
  where
    go : (r : Ordering) → R x y ≡ r → insert_key R (insert_key R ys x) x ≡ insert_key R ys x
        → insert_key R (match_ordering r (x ∷ y ∷ ys) (y ∷ ys) (y ∷ insert_key R ys x)) x ≡ match_ordering r (x ∷ y ∷ ys) (y ∷ ys) (y ∷ insert_key R ys x)
    go Less e ih = ap (λ r. match_ordering r (x ∷ x ∷ y ∷ ys) (x ∷ y ∷ ys) (x ∷ insert_key R (y ∷ ys) x)) (tied_itself o x)
    go Equal e ih = ap (λ r. match_ordering r (x ∷ y ∷ ys) (y ∷ ys) (y ∷ insert_key R ys x)) e
    go Greater e ih = ap (λ r. match_ordering r (x ∷ y ∷ insert_key R ys x) (y ∷ insert_key R ys x) (y ∷ insert_key R (insert_key R ys x) x)) e ∙ ap (λ zs. y ∷ zs) ih

-- behind other faults
behind : (fs gs hs : List Fault) → ascending fault_cmp gs ≡ ascending fault_cmp hs → ascending fault_cmp (fs ++ gs) ≡ ascending fault_cmp (fs ++ hs)
behind [] gs hs e = e
behind (f ∷ fs) gs hs e = ap (λ l. insert_key fault_cmp l f) (behind fs gs hs e)

-- the fault of a left row, where there is one
abbrev pub own : Bool → Row → List Fault
own b l = cond b (wide l ∷ []) []

-- the faults of a left row are one, as often as they come
once : (l : Row) (rs : List Row) (rest : List Fault)
    → ascending fault_cmp (filter_map fault_in (map (side_by_side l) rs) ++ rest) ≡ ascending fault_cmp (own (is_filled (filter_map fault_in (map (side_by_side l) rs))) l ++ rest)
once l [] rest = refl
once l (r ∷ rs) rest = go (nat_le (length (l ++ drop 1 r)) 16) refl (once l rs rest)
  where
    joins : (b : Bool) → insert_key fault_cmp (ascending fault_cmp (own b l ++ rest)) (wide l) ≡ insert_key fault_cmp (ascending fault_cmp rest) (wide l)
    joins true = twice fault_cmp fault_strict.total (wide l) (ascending fault_cmp rest)
    joins false = refl

    go : (b : Bool) → nat_le (length (l ++ drop 1 r)) 16 ≡ b → ascending fault_cmp (filter_map fault_in (map (side_by_side l) rs) ++ rest) ≡ ascending fault_cmp (own (is_filled (filter_map fault_in (map (side_by_side l) rs))) l ++ rest)
        → ascending fault_cmp (filter_map fault_in (side_by_side l r ∷ map (side_by_side l) rs) ++ rest) ≡ ascending fault_cmp (own (is_filled (filter_map fault_in (side_by_side l r ∷ map (side_by_side l) rs))) l ++ rest)
    go true e ih =
        let p = pair_by l r true e in
        ap (λ (a : Answer). ascending fault_cmp (filter_map fault_in (a ∷ map (side_by_side l) rs) ++ rest)) p ∙ ih
        ∙ sym (ap (λ (a : Answer). ascending fault_cmp (own (is_filled (filter_map fault_in (a ∷ map (side_by_side l) rs))) l ++ rest)) p)
    go false e ih =
        let p = pair_by l r false e in
        ap (λ (a : Answer). ascending fault_cmp (filter_map fault_in (a ∷ map (side_by_side l) rs) ++ rest)) p
        ∙ ap (λ x. insert_key fault_cmp x (wide l)) ih ∙ joins (is_filled (filter_map fault_in (map (side_by_side l) rs)))
        ∙ sym (ap (λ (a : Answer). ascending fault_cmp (own (is_filled (filter_map fault_in (a ∷ map (side_by_side l) rs))) l ++ rest)) p)

module _ (right left : List Row) (i : ℕ) (x : Row) (within : i < length left) (is : x ≡ get_or left i x) (found : List Row) (answers : joined first_key first_key right x ≡ map (side_by_side x) found) where
  next : flat_map (joined first_key first_key right) (drop i left) ≡ map (side_by_side x) found ++ flat_map (joined first_key first_key right) (drop (i + 1) left)
  next =
      ap (flat_map (joined first_key first_key right)) (drop_more left i x within ∙ ap (λ y. y ∷ drop (i + 1) left) (sym is)) ∙ flat_map-cons (joined first_key first_key right) x (drop (i + 1) left)
      ∙ ap (λ given. given ++ flat_map (joined first_key first_key right) (drop (i + 1) left)) answers

  -- the rows with those of one left row more
  pub rows_more : (rows after all : List Row) → after ≡ rows ++ rows_in (map (side_by_side x) found) → rows ++ rows_in (flat_map (joined first_key first_key right) (drop i left)) ≡ all
      → after ++ rows_in (flat_map (joined first_key first_key right) (drop (i + 1) left)) ≡ all
  rows_more rows after all a h =
      let rest = flat_map (joined first_key first_key right) (drop (i + 1) left) in
      ap (λ xs. xs ++ rows_in rest) a ∙ append_assoc rows (rows_in (map (side_by_side x) found)) (rows_in rest)
      ∙ sym (ap (λ given. rows ++ rows_in given) next ∙ ap (λ xs. rows ++ xs) (filter_map-append row_in (map (side_by_side x) found) rest)) ∙ h

  -- the faults with that of one left row more
  pub faults_more : (faults after all : List Fault) (b : Bool) → b ≡ is_filled (filter_map fault_in (map (side_by_side x) found)) → after ≡ faults ++ own b x
      → ascending fault_cmp (faults ++ filter_map fault_in (flat_map (joined first_key first_key right) (drop i left))) ≡ all
      → ascending fault_cmp (after ++ filter_map fault_in (flat_map (joined first_key first_key right) (drop (i + 1) left))) ≡ all
  faults_more faults after all b w a h =
      let rest = filter_map fault_in (flat_map (joined first_key first_key right) (drop (i + 1) left)) in
      let own_faults = filter_map fault_in (map (side_by_side x) found) in
      ap (λ fs. ascending fault_cmp (fs ++ rest)) (a ∙ ap (λ c. faults ++ own c x) w)
      ∙ ap (ascending fault_cmp) (append_assoc faults (own (is_filled own_faults) x) rest)
      ∙ behind faults (own (is_filled own_faults) x ++ rest) (own_faults ++ rest) (sym (once x found rest))
      ∙ sym (ap (λ given. ascending fault_cmp (faults ++ filter_map fault_in given)) next
      ∙ ap (λ fs. ascending fault_cmp (faults ++ fs)) (filter_map-append fault_in (map (side_by_side x) found) (flat_map (joined first_key first_key right) (drop (i + 1) left)))) ∙ h
