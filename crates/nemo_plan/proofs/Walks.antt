-- Steps of walks along ports and edges.
use Rattle.std.proofs.Common.{arith, ◌≡◌, ◌∙◌, ap, sym, refl, ℕ, ◌+◌, ◌-◌, ◌<◌, ◌≤◌, ◌&&◌, ◌==◌, Bool, true, false, cond, List, [], ◌∷◌, get_or, length, max, nat_le, slice_index_or, take, ◌++◌, append_assoc, append-nil, filter, map, Option, Some, None, not, ◌||◌}
use Rattle.std.proofs.lemmas.Bool.{leb-false, leb-true}
use Rattle.std.proofs.lemmas.List.{map-append}
use Rattle.std.proofs.lemmas.List.Folds.{list_any-append}
use Rattle.std.specs.List.{cons_option, filter_map, list_all, list_any}
use Rattle.nemo_base.specs.Places.{or_else}
use Rattle.nemo_ir.specs.Along.{below, counted, passes}
use Rattle.nemo_plan.specs.Graph.{greatest, is_any, read_along, reads_into}
use Rattle.nemo_plan.specs.Stages.{first_joined, stage_at}
use Rattle.nemo_plan.specs.Making.{marked, ports_at}
use Rattle.nemo_ir.specs.Flat.{FlatForm}
use Rattle.nemo_ir.specs.Nodes.{edge_at}
use Rattle.nemo_ir.specs.declared.dag.IrDag.{IrDag}
use Rattle.nemo_ir.specs.declared.dag.IrEdge.{IrEdge}
use Rattle.nemo_ir.specs.declared.dag.IrVertex.{IrVertex}
use Rattle.nemo_ir.proofs.Places.{or_true}
use Rattle.nemo_ir.proofs.Tables.{changed_at, equal, front_more, unequal}
use Rattle.nemo_plan.proofs.Memberships.{map_same}
use Rattle.nemo_plan.proofs.Lists.{left_counted}

or_false : (b : Bool) → (b || false) ≡ b
or_false true = refl
or_false false = refl

---- the ports that are left

first_some : (f : ℕ → Option ℕ) (p : ℕ) (ps : List ℕ) (s : ℕ) → f p ≡ Some s → first_joined f (p ∷ ps) ≡ Some s
first_some f p ps s e = go (f p) e
  where
    go : (o : Option ℕ) → o ≡ Some s → or_else o (first_joined f ps) ≡ Some s
    go (Some t) g = g
    go None g = cc

first_none : (f : ℕ → Option ℕ) (p : ℕ) (ps : List ℕ) → f p ≡ None → first_joined f (p ∷ ps) ≡ first_joined f ps
first_none f p ps e = go (f p) e
  where
    go : (o : Option ℕ) → o ≡ None → or_else o (first_joined f ps) ≡ first_joined f ps
    go (Some t) g = cc
    go None g = refl

module _ (f : ℕ → Option ℕ) (i n : ℕ) (less : i < n) where
  pub first_here : (s : ℕ) → f i ≡ Some s → first_joined f (counted i (n - i)) ≡ Some s
  first_here s e = ap (first_joined f) (left_counted i n less) ∙ first_some f i (counted (i + 1) (n - (i + 1))) s e

  pub first_past : f i ≡ None → first_joined f (counted (i + 1) (n - (i + 1))) ≡ first_joined f (counted i (n - i))
  first_past e = sym (ap (first_joined f) (left_counted i n less) ∙ first_none f i (counted (i + 1) (n - (i + 1))) e)

module _ {Y : Type 0} (f : ℕ → Option Y) (all : List Y) (i n : ℕ) (less : i < n) where
  pub chosen_here : (y : Y) → f i ≡ Some y → (all ++ y ∷ []) ++ filter_map f (counted (i + 1) (n - (i + 1))) ≡ all ++ filter_map f (counted i (n - i))
  chosen_here y e =
      append_assoc all (y ∷ []) (filter_map f (counted (i + 1) (n - (i + 1))))
      ∙ ap (λ l. all ++ l) (sym (ap (filter_map f) (left_counted i n less) ∙ ap (λ o. cons_option o (filter_map f (counted (i + 1) (n - (i + 1))))) e))

  pub none_here : f i ≡ None → all ++ filter_map f (counted (i + 1) (n - (i + 1))) ≡ all ++ filter_map f (counted i (n - i))
  none_here e = ap (λ l. all ++ l) (sym (ap (filter_map f) (left_counted i n less) ∙ ap (λ o. cons_option o (filter_map f (counted (i + 1) (n - (i + 1))))) e))

-- none are left
pub none_left : {Y : Type 0} (f : ℕ → Option Y) (all : List Y) (i n : ℕ) → n ≤ i → all ++ filter_map f (counted i (n - i)) ≡ all
none_left f all i n l = let z : n - i ≡ 0 = omega arith in ap (λ k. all ++ filter_map f (counted i k)) z ∙ append-nil all

---- the edges that leave

module _ {X : Type 0} (q p : X → Bool) where
  pub any_filtered : (xs : List X) → list_any p (filter q xs) ≡ list_any (λ x. q x && p x) xs
  any_filtered [] = refl
  any_filtered (x ∷ xs) = go (q x) (any_filtered xs)
    where
      go : (b : Bool) → list_any p (filter q xs) ≡ list_any (λ y. q y && p y) xs → list_any p (cond b (x ∷ filter q xs) (filter q xs)) ≡ ((b && p x) || list_any (λ y. q y && p y) xs)
      go true ih = ap (λ r. p x || r) ih
      go false ih = ih

  pub all_filtered : (xs : List X) → list_all p (filter q xs) ≡ list_all (λ x. not (q x) || p x) xs
  all_filtered [] = refl
  all_filtered (x ∷ xs) = go (q x) (all_filtered xs)
    where
      go : (b : Bool) → list_all p (filter q xs) ≡ list_all (λ y. not (q y) || p y) xs → list_all p (cond b (x ∷ filter q xs) (filter q xs)) ≡ ((not b || p x) && list_all (λ y. not (q y) || p y) xs)
      go true ih = ap (λ r. p x && r) ih
      go false ih = ih

pub is_any_filtered : {X : Type 0} (q : X → Bool) (xs : List X) → is_any (filter q xs) ≡ list_any q xs
is_any_filtered q [] = refl
is_any_filtered q (x ∷ xs) = go (q x) (is_any_filtered q xs)
  where
    go : (b : Bool) → is_any (filter q xs) ≡ list_any q xs → is_any (cond b (x ∷ filter q xs) (filter q xs)) ≡ (b || list_any q xs)
    go true ih = refl
    go false ih = ih

---- the greatest

pub greatest_more : (ns : List ℕ) (n : ℕ) → greatest (ns ++ n ∷ []) ≡ max (greatest ns) n
greatest_more [] n = go (nat_le n 0) refl
  where
    go : (b : Bool) → nat_le n 0 ≡ b → cond b 0 n ≡ max 0 n
    go true h = let l : n ≤ 0 = leb-true n 0 h in omega arith
    go false h = omega arith
greatest_more (k ∷ ks) n = go (nat_le k (greatest (ks ++ n ∷ []))) (nat_le k (greatest ks)) refl refl (greatest_more ks n)
  where
    go : (b c : Bool) → nat_le k (greatest (ks ++ n ∷ [])) ≡ b → nat_le k (greatest ks) ≡ c → greatest (ks ++ n ∷ []) ≡ max (greatest ks) n
        → cond b (greatest (ks ++ n ∷ [])) k ≡ max (cond c (greatest ks) k) n
    go true true h g ih = let l : k ≤ greatest ks = leb-true k (greatest ks) g in ih
    go true false h g ih = let l : greatest ks < k = leb-false k (greatest ks) g in let m : k ≤ greatest (ks ++ n ∷ []) = leb-true k (greatest (ks ++ n ∷ [])) h in omega arith
    go false true h g ih = let l : k ≤ greatest ks = leb-true k (greatest ks) g in let m : greatest (ks ++ n ∷ []) < k = leb-false k (greatest (ks ++ n ∷ [])) h in omega arith
    go false false h g ih = let l : greatest ks < k = leb-false k (greatest ks) g in let m : greatest (ks ++ n ∷ []) < k = leb-false k (greatest (ks ++ n ∷ [])) h in omega arith

pub greatest_next : {X : Type 0} (f : X → ℕ) (xs : List X) (i : ℕ) (d : X) → i < length xs → greatest (map f (take (i + 1) xs)) ≡ max (greatest (map f (take i xs))) (f (get_or xs i d))
greatest_next f xs i d l = ap (λ ys. greatest (map f ys)) (front_more xs i d l) ∙ ap greatest (map-append f (take i xs) (get_or xs i d ∷ [])) ∙ greatest_more (map f (take i xs)) (f (get_or xs i d))

---- what a vertex reads

pub reads_are : (flat : FlatForm) (dag : IrDag) (stages : List ℕ) (v : ℕ) (o : Option IrVertex)
    → filter_map (λ port. read_along stages (edge_at dag.edges v port)) (below (ports_at flat o)) ≡ reads_into flat dag stages v o
reads_are flat dag stages v (Some u) = refl
reads_are flat dag stages v None = refl

---- the stages from which edges come

pub marked_next : (stages : List ℕ) (n i : ℕ) (es : List IrEdge) (d : IrEdge) (old new : List Bool) → i < length es
    → old ≡ map (λ s. list_any (λ e. passes (λ a. a == s) (stage_at stages e.from)) (take i es)) (below n) → new ≡ marked old (stage_at stages (slice_index_or es i d).from)
    → new ≡ map (λ s. list_any (λ e. passes (λ a. a == s) (stage_at stages e.from)) (take (i + 1) es)) (below n)
marked_next stages n i es d old new l was is =
    is ∙ ap (λ t. marked t (stage_at stages e.from)) was ∙ go (stage_at stages e.from) refl ∙ sym (ap (λ xs. map (λ s. list_any (comes s) xs) (below n)) (front_more es i d l))
  where
    e : IrEdge
    e = slice_index_or es i d

    comes : ℕ → IrEdge → Bool
    comes s f = passes (λ a. a == s) (stage_at stages f.from)

    more : (s : ℕ) → list_any (comes s) (take i es ++ e ∷ []) ≡ (list_any (comes s) (take i es) || (comes s e || false))
    more s = list_any-append (comes s) (take i es) (e ∷ [])

    go : (o : Option ℕ) → stage_at stages e.from ≡ o → marked (map (λ s. list_any (comes s) (take i es)) (below n)) o ≡ map (λ s. list_any (comes s) (take i es ++ e ∷ [])) (below n)
    go None g = map_same (λ s. list_any (comes s) (take i es)) (λ s. list_any (comes s) (take i es ++ e ∷ [])) (below n) (λ s m. sym (more s ∙ ap (λ q. list_any (comes s) (take i es) || (passes (λ a. a == s) q || false)) g ∙ or_false (list_any (comes s) (take i es))))
    go (Some t) g =
        changed_at (λ s. list_any (comes s) (take i es)) (λ s. list_any (comes s) (take i es ++ e ∷ [])) (λ b. true) n t
        (λ s d. sym (more s ∙ ap (λ q. list_any (comes s) (take i es) || (passes (λ a. a == s) q || false)) g ∙ ap (λ q. list_any (comes s) (take i es) || (q || false)) (unequal t s (λ q. d (sym q))) ∙ or_false (list_any (comes s) (take i es))))
        (more t ∙ ap (λ q. list_any (comes t) (take i es) || (passes (λ a. a == t) q || false)) g ∙ ap (λ q. list_any (comes t) (take i es) || (q || false)) (equal t) ∙ or_true (list_any (comes t) (take i es)))

pub both_filtered : {X : Type 0} (p q : X → Bool) (xs : List X) → filter q (filter p xs) ≡ filter (λ x. p x && q x) xs
both_filtered p q [] = refl
both_filtered p q (x ∷ xs) = go (p x) (both_filtered p q xs)
  where
    go : (b : Bool) → filter q (filter p xs) ≡ filter (λ y. p y && q y) xs → filter q (cond b (x ∷ filter p xs) (filter p xs)) ≡ cond (b && q x) (x ∷ filter (λ y. p y && q y) xs) (filter (λ y. p y && q y) xs)
    go true ih = ap (λ r. cond (q x) (x ∷ r) r) ih
    go false ih = ih
