-- Tables by number: a change at one place, tables that grow edge by edge, and what stands in them.
use Rattle.std.proofs.Common.{◌≡◌, ◌≢◌, refl, sym, ap, ◌∙◌, ℕ, zero, suc, ◌+◌, ◌<◌, ◌==◌, Bool, true, false, List, [], ◌∷◌, ◌++◌, map, filter, length, Option, Some, None, slice_get, replicate, subst, arith, append-nil, cond, inl, inr, take, slice_index_or, get_or, if◌then◌else◌, ◌&&◌}
use Rattle.std.specs.List.{find}
use Rattle.std.proofs.Math.Seq.{take-suc}
use Rattle.std.proofs.lemmas.Bool.Decides.{eqb_tells}
use Rattle.std.proofs.lemmas.List.Elements.{filter-append}
use Rattle.nemo_ir.specs.Along.{counted, below}
use Rattle.nemo_ir.specs.Nodes.{edge_at}
use Rattle.nemo_ir.specs.Index.{changed, changed_where, edge_lists, edges_at, end_of, with_edge}
use Rattle.nemo_ir.specs.declared.dag.IrEdge.{IrEdge}
use Rattle.nemo_ir.specs.declared.index.End.{End}

pub equal : (a : ℕ) → (a == a) ≡ true
equal a = elim (eqb_tells a a) [ inl p ↦ p.0 | inr p ↦ absurd (p.1 refl) ]

pub unequal : (a b : ℕ) → a ≢ b → (a == b) ≡ false
unequal a b d = elim (eqb_tells a b) [ inl p ↦ absurd (d p.1) | inr p ↦ p.0 ]

past_one : {A : Type 0} (h : A → A) (x : A) (xs : List A) (i : ℕ) (o : Option A) → o ≡ slice_get xs i → changed_where h (x ∷ xs) (suc i) o ≡ x ∷ changed_where h xs i o
past_one h x xs i (Some y) e = refl
past_one h x xs i None e = refl

agree : {A : Type 0} (f g : ℕ → A) (k n p : ℕ) → p < k → ((v : ℕ) → v ≢ p → f v ≡ g v) → map f (counted k n) ≡ map g (counted k n)
agree f g k zero p l same = refl
agree f g k (suc n) p l same =
    let here : k ≢ p = λ e. absurd (omega arith) in
    let rest = agree f g (suc k) n p (omega arith) same in
    λ i. same k here i ∷ rest i

step : {A : Type 0} (f g : ℕ → A) (h : A → A) (k n t p : ℕ) → p ≡ k + t → ((v : ℕ) → v ≢ p → f v ≡ g v) → g p ≡ h (f p) → changed h (map f (counted k n)) t ≡ map g (counted k n)
step f g h k zero t p e same at = refl
step f g h k (suc n) zero p e same at =
    let here : p ≡ k = omega arith in
    let first : h (f k) ≡ g k = subst (λ q. h (f q) ≡ g q) here (sym at) in
    let rest = agree f g (suc k) n p (omega arith) same in
    λ i. first i ∷ rest i
step f g h k (suc n) (suc t) p e same at =
    let here : k ≢ p = λ q. absurd (omega arith) in
    let rest = step f g h (suc k) n t p (omega arith) same at in
    past_one h (f k) (map f (counted (suc k) n)) t _ refl ∙ (λ i. same k here i ∷ rest i)

-- a table of the numbers below n, changed at one
pub changed_at : {A : Type 0} (f g : ℕ → A) (h : A → A) (n p : ℕ) → ((v : ℕ) → v ≢ p → f v ≡ g v) → g p ≡ h (f p) → changed h (map f (below n)) p ≡ map g (below n)
changed_at f g h n p same at = step f g h 0 n p p (omega arith) same at

each_same : {A : Type 0} (x : A) (k n : ℕ) → map (λ v. x) (counted k n) ≡ replicate n x
each_same x k zero = refl
each_same x k (suc n) = λ i. x ∷ each_same x (suc k) n i

pub below_same : {A : Type 0} (x : A) (n : ℕ) → map (λ v. x) (below n) ≡ replicate n x
below_same x n = each_same x 0 n

left_out : {X : Type 0} (b : Bool) (x : X) → b ≡ false → cond b (x ∷ []) [] ≡ []
left_out false x h = refl
left_out true x h = absurd (cc h)

taken : {X : Type 0} (b : Bool) (x : X) → b ≡ true → cond b (x ∷ []) [] ≡ x ∷ []
taken true x h = refl
taken false x h = absurd (cc h)

kept_more : {X : Type 0} (p : X → Bool) (xs : List X) (x : X) → p x ≡ false → filter p xs ≡ filter p (xs ++ x ∷ [])
kept_more p xs x h = sym (filter-append p xs (x ∷ []) ∙ ap (λ l. filter p xs ++ l) (left_out (p x) x h) ∙ append-nil (filter p xs))

kept_here : {X : Type 0} (p : X → Bool) (xs : List X) (x : X) → p x ≡ true → filter p (xs ++ x ∷ []) ≡ filter p xs ++ x ∷ []
kept_here p xs x h = filter-append p xs (x ∷ []) ∙ ap (λ l. filter p xs ++ l) (taken (p x) x h)

---- one edge more

edge_more : (end : End) (n : ℕ) (es : List IrEdge) (e : IrEdge) → with_edge (edge_lists end n es) (end_of end e) e ≡ edge_lists end n (es ++ e ∷ [])
edge_more end n es e =
    changed_at (edges_at end es) (edges_at end (es ++ e ∷ [])) (λ l. l ++ e ∷ []) n (end_of end e)
    (λ v d. kept_more (λ o. end_of end o == v) es e (unequal (end_of end e) v (λ q. d (sym q)))) (kept_here (λ o. end_of end o == end_of end e) es e (equal (end_of end e)))

---- one turn of a loop more

pub front_more : {X : Type 0} (xs : List X) (i : ℕ) (d : X) → i < length xs → take (i + 1) xs ≡ take i xs ++ slice_index_or xs i d ∷ []
front_more xs i d l =
    let next : suc i ≡ i + 1 = omega arith in
    subst (λ n. take n xs ≡ take i xs ++ slice_index_or xs i d ∷ []) next (take-suc xs i d l)

pub edge_next : (end : End) (n i v : ℕ) (es : List IrEdge) (d : IrEdge) (old new : List (List IrEdge)) → i < length es → old ≡ edge_lists end n (take i es) → v ≡ end_of end (slice_index_or es i d)
    → new ≡ with_edge old v (slice_index_or es i d) → new ≡ edge_lists end n (take (i + 1) es)
edge_next end n i v es d old new l e at f =
    f ∙ (λ j. with_edge (e j) (at j) (slice_index_or es i d)) ∙ edge_more end n (take i es) (slice_index_or es i d) ∙ ap (edge_lists end n) (sym (front_more es i d l))

---- what stands in a table

at_counted : {A : Type 0} (f : ℕ → A) (k n v : ℕ) (d : A) → v < n → get_or (map f (counted k n)) v d ≡ f (k + v)
at_counted f k zero v d l = absurd (omega arith)
at_counted f k (suc n) zero d l = ap f (omega arith)
at_counted f k (suc n) (suc v) d l = at_counted f (suc k) n v d (omega arith) ∙ ap f (omega arith)

pub at_below : {A : Type 0} (f : ℕ → A) (n v : ℕ) (d : A) → v < n → get_or (map f (below n)) v d ≡ f v
at_below f n v d l = at_counted f 0 n v d l ∙ ap f (omega arith)

long_counted : {A : Type 0} (f : ℕ → A) (k n : ℕ) → length (map f (counted k n)) ≡ n
long_counted f k zero = refl
long_counted f k (suc n) = ap suc (long_counted f (suc k) n)

pub long_below : {A : Type 0} (f : ℕ → A) (n : ℕ) → length (map f (below n)) ≡ n
long_below f n = long_counted f 0 n

pub within_table : {A : Type 0} (f : ℕ → A) (n v : ℕ) (table : List A) → table ≡ map f (below n) → v < n → v < length table
within_table f n v table e l = subst (λ t. v < length t) (sym e) (subst (λ m. v < m) (sym (long_below f n)) l)

pub in_table : {A : Type 0} (f : ℕ → A) (n v : ℕ) (d : A) (table : List A) → table ≡ map f (below n) → v < n → slice_index_or table v d ≡ f v
in_table f n v d table e l = subst (λ t. slice_index_or t v d ≡ f v) (sym e) (at_below f n v d l)

pub edge_lists_long : (end : End) (n : ℕ) (es : List IrEdge) → length (edge_lists end n es) ≡ n
edge_lists_long end n es = long_below (edges_at end es) n

pub edge_lists_at : (end : End) (n : ℕ) (es : List IrEdge) (v : ℕ) (d : List IrEdge) → v < n → get_or (edge_lists end n es) v d ≡ edges_at end es v
edge_lists_at end n es v d l = at_below (edges_at end es) n v d l

---- the edge into a port

find_one : (e : IrEdge) (es : List IrEdge) (v port : ℕ) (here : Bool) (ins : List IrEdge) → here ≡ (e.to == v) → find (λ o. o.port == port) ins ≡ edge_at es v port
    → find (λ o. o.port == port) (cond here (e ∷ ins) ins) ≡ (if here && (e.port == port) then Some e else edge_at es v port)
find_one e es v port true ins h ih = go (e.port == port)
  where
    go : (fits : Bool) → cond fits (Some e) (find (λ o. o.port == port) ins) ≡ (if true && fits then Some e else edge_at es v port)
    go true = refl
    go false = ih
find_one e es v port false ins h ih = ih

pub edge_at_port : (es : List IrEdge) (v port : ℕ) → find (λ o. o.port == port) (filter (λ o. o.to == v) es) ≡ edge_at es v port
edge_at_port [] v port = refl
edge_at_port (e ∷ es) v port = find_one e es v port (e.to == v) (filter (λ o. o.to == v) es) refl (edge_at_port es v port)
