-- The copies that are kept are those that a later one, or the end, is noted for.
use Rattle.std.proofs.Common.{arith, ◌≡◌, ◌≢◌, ◌∙◌, ap, sym, refl, ℕ, zero, suc, ◌+◌, ◌<◌, ◌≤◌, ◌⊎◌, inl, inr, List, [], ◌∷◌, length, map, slice_get, Bool, true, false, ◌==◌, ◌||◌, cond, drop, get_or, Option, Some, None}
use Rattle.std.specs.List.{list_any}
use Rattle.std.proofs.lemmas.Bool.{eqb-true, ne_eqb}
use Rattle.std.proofs.lemmas.List.{length-map}
use Rattle.std.proofs.lemmas.Option.{slice_get-map, slice_get_read, slice_get_within}
use Rattle.std.specs.Option.{is_some, option_map}
use Rattle.nemo_value.proofs.Members.{In}
use Rattle.nemo_job.specs.ByPlace.{Placed}
use Rattle.nemo_job.specs.Held.{IsLast, IsLower, IsTaken, node_of}
use Rattle.nemo_transform.specs.Sinks.{does_sink}
use Rattle.nemo_job.specs.Nodes.{copy_of}
use Rattle.nemo_job.specs.Unrolled.{Copy, placed_copy}
use Rattle.nemo_job.specs.declared.copies.Node.{Node}
use Rattle.nemo_ir.proofs.Places.{got, same_item}
use Rattle.nemo_flat.specs.Flattened.{Numbered, is_taken, kept, kept_from}
use Rattle.nemo_flat.specs.Keeping.{is_wanted}
use Rattle.nemo_flat.proofs.KeptCopies.{KeptAt, at_in, copy_at, input_kept, reason_kept, sink_kept}

---- the copies kept from a place on

drop_at : {X : Type 0} (xs : List X) (i : ℕ) (x : X) → slice_get xs i ≡ Some x → drop i xs ≡ x ∷ drop (i + 1) xs
drop_at [] i x e = cc
drop_at (y ∷ ys) zero x e = ap (λ z. z ∷ ys) (same_item y x e)
drop_at (y ∷ ys) (suc i) x e = let n : suc (i + 1) ≡ suc i + 1 = omega arith in drop_at ys i x e ∙ ap (λ k. x ∷ drop k (y ∷ ys)) n

-- the copies kept from a place on
pub kept_at : (cs : List Copy) (i : ℕ) (c : Copy) → slice_get cs i ≡ Some c
    → kept_from i (drop i cs) ≡ cond (is_wanted (kept_from (i + 1) (drop (i + 1) cs)) i c) (record { place = i; copy = c } ∷ kept_from (i + 1) (drop (i + 1) cs)) (kept_from (i + 1) (drop (i + 1) cs))
kept_at cs i c e = ap (kept_from i) (drop_at cs i c e)

---- the copy of a node

pub node_at : (nodes : List Node) (i : ℕ) (n : Node) → i < length nodes → n ≡ get_or nodes i n → slice_get (map copy_of nodes) i ≡ Some (copy_of n)
node_at nodes i n l is = slice_get-map copy_of nodes i ∙ ap (option_map copy_of) (slice_get_read nodes (length nodes) i n refl l is)

pub nodes_placed : (nodes : List Node) → map node_of nodes ≡ map placed_copy (map copy_of nodes)
nodes_placed [] = refl
nodes_placed (n ∷ nodes) = ap (λ ps. node_of n ∷ ps) (nodes_placed nodes)

-- where copies take those before them
pub placed_lower : (cs : List Copy) → ((i k j : ℕ) (c : Copy) → slice_get cs i ≡ Some c → slice_get c.inputs k ≡ Some j → j < i) → IsLower (map placed_copy cs)
placed_lower cs lower i p k j at e =
    let within : i < length (map placed_copy cs) = slice_get_within (map placed_copy cs) i p at in
    let size : length (map placed_copy cs) ≡ length cs = length-map cs placed_copy in
    let g = got cs i (omega arith) in
    let same : p ≡ placed_copy g.0 = same_item p (placed_copy g.0) (sym at ∙ slice_get-map placed_copy cs i ∙ ap (option_map placed_copy) g.1) in
    lower i k j g.0 g.1 (sym (ap (λ q. slice_get q.inputs k) same) ∙ e)

---- what is noted is kept

any_out : {X : Type 0} (p : X → Bool) (xs : List X) → list_any p xs ≡ true → (k : ℕ) × (x : X) × (slice_get xs k ≡ Some x) × (p x ≡ true)
any_out p [] h = cc
any_out {X = X} p (x ∷ xs) h = go (p x) refl (any_out p xs) h
  where
    go : (b : Bool) → p x ≡ b → (list_any p xs ≡ true → (k : ℕ) × (y : X) × (slice_get xs k ≡ Some y) × (p y ≡ true)) → (b || list_any p xs) ≡ true
        → (k : ℕ) × (y : X) × (slice_get (x ∷ xs) k ≡ Some y) × (p y ≡ true)
    go true e more t = (0, x, refl, e)
    go false e more t = let r = more t in (suc r.0, r.1, r.2, r.3)

module _ (cs : List Copy) (last : List (Option ℕ)) (lower : IsLower (map placed_copy cs)) (l : IsLast (map placed_copy cs) last) where
  placed_at : (i : ℕ) (c : Copy) → slice_get cs i ≡ Some c → slice_get (map placed_copy cs) i ≡ Some (placed_copy c)
  placed_at i c e = slice_get-map placed_copy cs i ∙ ap (option_map placed_copy) e

  marked_kept : (fuel i u : ℕ) (c : Copy) → length cs ≤ i + fuel → slice_get cs i ≡ Some c → slice_get last i ≡ Some (Some u) → KeptAt (kept cs) i
  marked_kept zero i u c f e mark = let inside : i < length cs = slice_get_within cs i c e in absurd (omega arith)
  marked_kept (suc fuel) i u c f e mark = go (marked_kept fuel) (l.only i u (placed_copy c) (placed_at i c e) mark)
    where
      go : ((j v : ℕ) (d : Copy) → length cs ≤ j + fuel → slice_get cs j ≡ Some d → slice_get last j ≡ Some (Some v) → KeptAt (kept cs) j)
          → (does_sink c.transform ≡ true) ⊎ IsTaken (map placed_copy cs) last i u → KeptAt (kept cs) i
      go ih (inl sink) = (record { place = i; copy = c }, sink_kept cs i c e sink, refl)
      go ih (inr t) =
          let q : Placed = t.0 in
          let at : slice_get (map placed_copy cs) u ≡ Some q = t.3 in
          let within : u < length (map placed_copy cs) = slice_get_within (map placed_copy cs) u q at in
          let size : length (map placed_copy cs) ≡ length cs = length-map cs placed_copy in
          let g = got cs u (omega arith) in
          let same : q ≡ placed_copy g.0 = same_item q (placed_copy g.0) (sym at ∙ placed_at u g.0 g.1) in
          let later : i < u = lower u q t.1 i at t.4 in
          let by = ih u t.2 g.0 (omega arith) g.1 t.5 in
          let n : Numbered = by.0 in
          let copy : n.copy ≡ g.0 = same_item n.copy g.0 (sym (copy_at cs n by.1) ∙ ap (slice_get cs) by.2 ∙ g.1) in
          let input : slice_get n.copy.inputs t.1 ≡ Some i = ap (λ (d : Copy). slice_get d.inputs t.1) copy ∙ sym (ap (λ (p : Placed). slice_get p.inputs t.1) same) ∙ t.4 in
          (input_kept cs lower n by.1 t.1 i input).1

  wanted_marked : (fuel i : ℕ) (c : Copy) → length cs ≤ i + fuel → slice_get cs i ≡ Some c → is_wanted (kept cs) i c ≡ true → (u : ℕ) × (slice_get last i ≡ Some (Some u))
  wanted_marked zero i c f e w = let inside : i < length cs = slice_get_within cs i c e in absurd (omega arith)
  wanted_marked (suc fuel) i c f e w = go (wanted_marked fuel) (does_sink c.transform) refl w
    where
      go : ((j : ℕ) (d : Copy) → length cs ≤ j + fuel → slice_get cs j ≡ Some d → is_wanted (kept cs) j d ≡ true → (v : ℕ) × (slice_get last j ≡ Some (Some v)))
          → (b : Bool) → does_sink c.transform ≡ b → (b || is_taken i (kept cs)) ≡ true → (u : ℕ) × (slice_get last i ≡ Some (Some u))
      go ih true sink t = (length (map placed_copy cs), l.sinks i (placed_copy c) (placed_at i c e) sink)
      go ih false sink t =
          let a = any_out (λ (n : Numbered). list_any (λ j. j == i) n.copy.inputs) (kept cs) t in
          let n : Numbered = a.1 in
          let m : In n (kept cs) = at_in (kept cs) a.0 n a.2 in
          let b = any_out (λ j. j == i) n.copy.inputs a.3 in
          let is : b.1 ≡ i = eqb-true b.1 i b.3 in
          let input : slice_get n.copy.inputs b.0 ≡ Some i = b.2 ∙ ap Some is in
          let later : i < n.place = (input_kept cs lower n m b.0 i input).0 in
          let by = ih n.place n.copy (omega arith) (copy_at cs n m) (reason_kept cs n m) in
          let r = l.inputs n.place (placed_copy n.copy) b.0 i by.0 (placed_at n.place n.copy (copy_at cs n m)) input by.1 in
          (r.0, r.1)

  whole : (i : ℕ) (c : Copy) (o : Option ℕ) → slice_get cs i ≡ Some c → slice_get last i ≡ Some o → is_wanted (kept cs) i c ≡ is_some o
  whole i c (Some u) e read =
      let by = marked_kept (length cs) i u c (omega arith) e read in
      let n : Numbered = by.0 in
      let copy : n.copy ≡ c = same_item n.copy c (sym (copy_at cs n by.1) ∙ ap (slice_get cs) by.2 ∙ e) in
      sym (λ k. is_wanted (kept cs) (by.2 k) (copy k)) ∙ reason_kept cs n by.1
  whole i c None e read = go (is_wanted (kept cs) i c) refl
    where
      go : (b : Bool) → is_wanted (kept cs) i c ≡ b → is_wanted (kept cs) i c ≡ false
      go true w = let by = wanted_marked (length cs) i c (omega arith) e w in let both : Some None ≡ Some (Some by.0) = sym read ∙ by.1 in cc
      go false w = w

---- by those after it

none_at : (xs : List ℕ) (m i : ℕ) → ((k j : ℕ) → slice_get xs k ≡ Some j → j < m) → m ≤ i → list_any (λ j. j == i) xs ≡ false
none_at [] m i low le = refl
none_at (x ∷ xs) m i low le =
    let less : x < m = low 0 x refl in
    let differs : x ≢ i = omega arith in
    ap (λ b. b || list_any (λ j. j == i) xs) (ne_eqb x i differs) ∙ none_at xs m i (λ k j e. low (suc k) j e) le

-- no copy up to one takes it
pub taken_after : (cs : List Copy) (i d m : ℕ) → ((n k j : ℕ) (c : Copy) → slice_get cs n ≡ Some c → slice_get c.inputs k ≡ Some j → j < n) → i < length cs → m + d ≡ i + 1
    → is_taken i (kept_from m (drop m cs)) ≡ is_taken i (kept_from (i + 1) (drop (i + 1) cs))
taken_after cs i zero m lower l is = let same : m ≡ i + 1 = omega arith in ap (λ n. is_taken i (kept_from n (drop n cs))) same
taken_after cs i (suc d) m lower l is =
    let g = got cs m (omega arith) in
    let rest = kept_from (m + 1) (drop (m + 1) cs) in
    let none : list_any (λ j. j == i) g.0.inputs ≡ false = none_at g.0.inputs m i (λ k j e. lower m k j g.0 g.1 e) (omega arith) in
    ap (is_taken i) (kept_at cs m g.0 g.1) ∙ skip (is_wanted rest m g.0) m g.0 rest none ∙ taken_after cs i d (m + 1) lower l (omega arith)
  where
    skip : (b : Bool) (n : ℕ) (c : Copy) (rest : List Numbered) → list_any (λ j. j == i) c.inputs ≡ false → is_taken i (cond b (record { place = n; copy = c } ∷ rest) rest) ≡ is_taken i rest
    skip true n c rest none = ap (λ b. b || is_taken i rest) none
    skip false n c rest none = refl

pub is_final : (cs : List Copy) (last : List (Option ℕ)) (i : ℕ) (c : Copy) (o : Option ℕ) → ((n k j : ℕ) (d : Copy) → slice_get cs n ≡ Some d → slice_get d.inputs k ≡ Some j → j < n)
    → IsLast (map placed_copy cs) last → slice_get cs i ≡ Some c → i < length last → o ≡ get_or last i o → is_wanted (kept_from (i + 1) (drop (i + 1) cs)) i c ≡ is_some o
is_final cs last i c o lower l e inside is =
    ap (λ t. does_sink c.transform || t) (sym (taken_after cs i (i + 1) 0 lower (slice_get_within cs i c e) (omega arith)))
    ∙ whole cs last (placed_lower cs lower) l i c o e (slice_get_read last (length last) i o refl inside is)
