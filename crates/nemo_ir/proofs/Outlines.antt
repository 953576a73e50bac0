-- What the nine clauses read of a DAG: a pass that sets other properties keeps them.
use Rattle.std.proofs.Common.{arith, ◌≡◌, ◌∙◌, ap, sym, subst, refl, ℕ, zero, suc, ◌+◌, ◌<◌, ◌==◌, ◌&&◌, ◌||◌, Bool, true, false, cond, not, nat_lt, List, [], ◌∷◌, ◌++◌, append-nil, append_assoc, length, map, take, drop, get_or, slice_get, Option, Some, None}
use Rattle.std.specs.Prelude.{◌↔◌, IsTrue, filter, slice_index_or, option_map}
use Rattle.std.specs.List.{list_any}
use Rattle.std.proofs.lemmas.List.{drop-set-lt, length-map, map-append, take_more_set}
use Rattle.std.proofs.Math.ListN.{set}
use Rattle.std.proofs.Math.Seq.{drop-cons}
use Rattle.nemo_base.specs.declared.annotation.Class.TheVariants.{Transient}
use Rattle.nemo_base.specs.declared.annotation.Flow.TheVariants.{Pull}
use Rattle.nemo_base.specs.declared.annotation.Keep.TheVariants.{Keep}
use Rattle.nemo_base.specs.declared.annotation.Pattern.{Pattern}
use Rattle.nemo_base.specs.declared.annotation.Pattern.TheVariants.{OneToOne}
use Rattle.nemo_transform.specs.declared.shape.PortKind.{PortKind}
use Rattle.nemo_ir.specs.Along.{along, passes}
use Rattle.nemo_ir.specs.Flat.{FlatForm}
use Rattle.nemo_ir.specs.Nodes.{deed_of, edge_at, feed_of, feeds_from, is_utility, kinds_in, nodes_from, producer, resolve, resolve_step}
use Rattle.nemo_ir.specs.Valid.{HasRep, Holds, IsFirst, StandsFor, Valid, V1, V2, V3, V4, V5, V6, V7, V8, V9, is_counted, is_fed, is_hash, is_level, is_one_to_one, is_rep, is_taken, is_trigger, is_used, is_within, kinds_at, names_each, ports_named, rises, takes}
use Rattle.nemo_ir.specs.declared.dag.IrDag.{IrDag}
use Rattle.nemo_ir.specs.declared.dag.IrEdge.{IrEdge}
use Rattle.nemo_ir.specs.declared.dag.IrVertex.{IrVertex}
use Rattle.nemo_ir.specs.declared.flat.FlatVertex.{FlatVertex}

---- lists

pub passes_map : {A B : Type 0} (h : A → B) (p : B → Bool) (q : A → Bool) → ((x : A) → p (h x) ≡ q x) → (xs : List A) (i : ℕ) → passes p (slice_get (map h xs) i) ≡ passes q (slice_get xs i)
passes_map h p q e [] i = refl
passes_map h p q e (x ∷ xs) zero = e x
passes_map h p q e (x ∷ xs) (suc i) = passes_map h p q e xs i

-- a test at each place of a list, and at each of what is made of it
both : {A B : Type 0} (h : A → B) (p : ℕ → B → Bool) (q : ℕ → A → Bool) → ((i : ℕ) (x : A) → p i (h x) ≡ q i x) → (xs : List A)
    → ((i : ℕ) → i < length (map h xs) → IsTrue (passes (p i) (slice_get (map h xs) i))) ↔ ((i : ℕ) → i < length xs → IsTrue (passes (q i) (slice_get xs i)))
both h p q e xs = (
  (λ f i l. sym (passes_map h (p i) (q i) (e i) xs i) ∙ f i (subst (λ n. i < n) (sym (length-map xs h)) l)),
  (λ f i l. passes_map h (p i) (q i) (e i) xs i ∙ f i (subst (λ n. i < n) (length-map xs h) l)),
)

-- where each entry agrees with that of which it is made, all do
pub map_along : {A B : Type 0} (f : A → B) (step : List A → A → A) → ((done : List A) (x : A) → f (step done x) ≡ f x) → (done xs : List A) → map f (along step done xs) ≡ map f done ++ map f xs
map_along f step e done [] = sym (append-nil (map f done))
map_along f step e done (x ∷ xs) =
    map_along f step e (done ++ step done x ∷ []) xs
    ∙ ap (λ l. l ++ map f xs) (map-append f done (step done x ∷ []) ∙ ap (λ y. map f done ++ y ∷ []) (e done x))
    ∙ append_assoc (map f done) (f x ∷ []) (map f xs)

-- one more entry is written over that of which it is made
pub along_set : {A : Type 0} (step : List A → A → A) (xs : List A) (v : ℕ) (y d : A) → v < length xs → y ≡ step (take v xs) (get_or xs v d)
    → along step (take (v + 1) (set xs v y)) (drop (v + 1) (set xs v y)) ≡ along step (take v xs) (drop v xs)
along_set step xs v y d h is =
    let next : suc v ≡ v + 1 = omega arith in
    let made : take (v + 1) (set xs v y) ≡ take v xs ++ step (take v xs) (get_or xs v d) ∷ [] = take_more_set xs v y h ∙ ap (λ z. take v xs ++ z ∷ []) is in
    let left : drop (v + 1) (set xs v y) ≡ drop (suc v) xs = drop-set-lt (v + 1) xs v y (omega arith) ∙ ap (λ n. drop n xs) (sym next) in
    (λ i. along step (made i) (left i)) ∙ ap (along step (take v xs)) (sym (drop-cons xs v d h))

pub map_each : {A B C : Type 0} (f : B → C) (g : A → C) (h : A → B) → ((x : A) → f (h x) ≡ g x) → (xs : List A) → map f (map h xs) ≡ map g xs
map_each f g h e [] = refl
map_each f g h e (x ∷ xs) = λ i. e x i ∷ map_each f g h e xs i

---- a DAG without classes, flows and keeps, and with other parallelisms and patterns

module _ (tasks : ℕ → ℕ) (pattern : Pattern → Pattern) where
  abbrev pub bare : IrVertex → IrVertex
  bare u = record { kind = u.kind; class = Transient; parallelism = tasks u.parallelism }

  abbrev pub ends : IrEdge → IrEdge
  ends e = record { from = e.from; to = e.to; port = e.port; pattern = pattern e.pattern; flow = Pull; keep = Keep }

  abbrev pub bared : IrDag → IrDag
  bared dag = record { vertices = map bare dag.vertices; edges = map ends dag.edges; rep = dag.rep }

  edge_turn : (b : Bool) (e : IrEdge) (o p : Option IrEdge) → o ≡ option_map ends p → cond b (Some (ends e)) o ≡ option_map ends (cond b (Some e) p)
  edge_turn true e o p h = refl
  edge_turn false e o p h = h

  edge_ends : (es : List IrEdge) (v port : ℕ) → edge_at (map ends es) v port ≡ option_map ends (edge_at es v port)
  edge_ends [] v port = refl
  edge_ends (e ∷ es) v port = edge_turn (e.to == v && e.port == port) e (edge_at (map ends es) v port) (edge_at es v port) (edge_ends es v port)

  producer_ends : (o : Option IrEdge) → producer (option_map ends o) ≡ producer o
  producer_ends (Some e) = refl
  producer_ends None = refl

  from_ends : (o : Option IrEdge) → (feed_of (option_map ends o)).from ≡ (feed_of o).from
  from_ends (Some e) = refl
  from_ends None = refl

  resolve_ends : (es : List IrEdge) (done : List ℕ) (u : IrVertex) → resolve_step (map ends es) done (bare u) ≡ resolve_step es done u
  resolve_ends es done u = ap (λ n. cond (is_utility u.kind) (slice_index_or done n 0) (length done)) (ap producer (edge_ends es (length done) 0) ∙ producer_ends (edge_at es (length done) 0))

  resolved_from : (es : List IrEdge) (done : List ℕ) (us : List IrVertex) → along (resolve_step (map ends es)) done (map bare us) ≡ along (resolve_step es) done us
  resolved_from es done [] = refl
  resolved_from es done (u ∷ us) =
      ap (λ n. along (resolve_step (map ends es)) (done ++ n ∷ []) (map bare us)) (resolve_ends es done u) ∙ resolved_from es (done ++ resolve_step es done u ∷ []) us

  resolve_bared : (dag : IrDag) (v : ℕ) → resolve (bared dag) v ≡ resolve dag v
  resolve_bared dag v = ap (λ l. slice_index_or l v 0) (resolved_from dag.edges [] dag.vertices)

  feeds_bared : (dag : IrDag) (v port : ℕ) (ks : List PortKind) → map (λ f. resolve (bared dag) f.from) (feeds_from (map ends dag.edges) v port ks) ≡ map (λ f. resolve dag f.from) (feeds_from dag.edges v port ks)
  feeds_bared dag v port [] = refl
  feeds_bared dag v port (k ∷ ks) =
      let here : resolve (bared dag) (feed_of (edge_at (map ends dag.edges) v port)).from ≡ resolve dag (feed_of (edge_at dag.edges v port)).from =
      ap (λ o. resolve (bared dag) (feed_of o).from) (edge_ends dag.edges v port) ∙ ap (resolve (bared dag)) (from_ends (edge_at dag.edges v port)) ∙ resolve_bared dag (feed_of (edge_at dag.edges v port)).from in
      λ i. here i ∷ feeds_bared dag v (port + 1) ks i

  ports_turn : (b : Bool) (e : IrEdge) (xs ys : List IrEdge) → map (λ d. d.port) xs ≡ map (λ d. d.port) ys → map (λ d. d.port) (cond b (ends e ∷ xs) xs) ≡ map (λ d. d.port) (cond b (e ∷ ys) ys)
  ports_turn true e xs ys h = ap (λ ps. e.port ∷ ps) h
  ports_turn false e xs ys h = h

  ports_ends : (es : List IrEdge) (v : ℕ) → ports_named (map ends es) v ≡ ports_named es v
  ports_ends [] v = refl
  ports_ends (e ∷ es) v = ports_turn (e.to == v) e (filter (λ d. d.to == v) (map ends es)) (filter (λ d. d.to == v) es) (ports_ends es v)

  outs_ends : (es : List IrEdge) (v : ℕ) → list_any (λ e. e.from == v) (map ends es) ≡ list_any (λ e. e.from == v) es
  outs_ends [] v = refl
  outs_ends (e ∷ es) v = ap (λ b. (e.from == v) || b) (outs_ends es v)

  ---- the first five clauses read neither parallelisms nor patterns

  pub bared_v1 : (flat : FlatForm) (dag : IrDag) → Holds flat (bared dag) V1 ↔ Holds flat dag V1
  bared_v1 flat dag = both ends (λ i. rises (bared dag)) (λ i. rises dag) (λ i e. ap (λ n. nat_lt e.from e.to && nat_lt e.to n) (length-map dag.vertices bare)) dag.edges

  pub bared_v2 : (flat : FlatForm) (dag : IrDag) → Holds flat (bared dag) V2 ↔ Holds flat dag V2
  bared_v2 flat dag = both bare (is_used (bared dag)) (is_used dag) (λ v u. ap (λ b. not (is_utility u.kind) || b) (outs_ends dag.edges v)) dag.vertices

  pub bared_v3 : (flat : FlatForm) (dag : IrDag) → Holds flat (bared dag) V3 ↔ Holds flat dag V3
  bared_v3 flat dag = both bare (is_fed flat (bared dag)) (is_fed flat dag) (λ v u. ap (names_each (length (kinds_at flat u))) (ports_ends dag.edges v)) dag.vertices

  stands : (flat : FlatForm) (dag : IrDag) (x : FlatVertex) (k : ℕ) (us : List IrVertex) (v : ℕ)
      → StandsFor flat (bared dag) x (slice_get (nodes_from flat.transforms (map ends dag.edges) k (map bare us)) v) ↔ StandsFor flat dag x (slice_get (nodes_from flat.transforms dag.edges k us) v)
  stands flat dag x k [] v = ((λ h. h), (λ h. h))
  stands flat dag x k (u ∷ us) zero =
      let same = feeds_bared dag k 0 (kinds_in (deed_of flat.transforms u.kind)) in
      ((λ h. (h.0, sym same ∙ h.1)), (λ h. (h.0, same ∙ h.1)))
  stands flat dag x k (u ∷ us) (suc v) = stands flat dag x (k + 1) us v

  has_rep : (flat : FlatForm) (dag : IrDag) (o : Option FlatVertex) (r : Option ℕ) → HasRep flat (bared dag) o r ↔ HasRep flat dag o r
  has_rep flat dag (Some x) (Some v) = stands flat dag x 0 dag.vertices v
  has_rep flat dag (Some x) None = ((λ h. h), (λ h. h))
  has_rep flat dag None (Some v) = ((λ h. h), (λ h. h))
  has_rep flat dag None None = ((λ h. h), (λ h. h))

  pub bared_v4 : (flat : FlatForm) (dag : IrDag) → Holds flat (bared dag) V4 ↔ Holds flat dag V4
  bared_v4 flat dag = (
    (λ f i l. (has_rep flat dag (slice_get flat.vertices i) (slice_get dag.rep i)).0 (f i l)),
    (λ f i l. (has_rep flat dag (slice_get flat.vertices i) (slice_get dag.rep i)).1 (f i l)),
  )

  pub bared_v5 : (flat : FlatForm) (dag : IrDag) → Holds flat (bared dag) V5 ↔ Holds flat dag V5
  bared_v5 flat dag = both bare (is_rep (bared dag)) (is_rep dag) (λ v u. refl) dag.vertices

---- V6 reads patterns, V7 parallelisms too, and no clause reads classes, flows and keeps

abbrev pub alike : {A : Type 0} → A → A
alike x = x

bared_v6 : (tasks : ℕ → ℕ) (flat : FlatForm) (dag : IrDag) → Holds flat (bared tasks alike dag) V6 ↔ Holds flat dag V6
bared_v6 tasks flat dag =
    both (ends tasks alike) (λ i. is_taken flat (bared tasks alike dag)) (λ i. is_taken flat dag)
    (λ i e. let test = λ (u : IrVertex). passes (λ k. takes k e.pattern) (slice_get (kinds_at flat u) e.port) in passes_map (bare tasks alike) test test (λ u. refl) dag.vertices e.to) dag.edges

-- a DAG without classes, flows and keeps
abbrev pub unplaced : IrDag → IrDag
unplaced = bared alike alike

unplaced_v7 : (flat : FlatForm) (dag : IrDag) → Holds flat (unplaced dag) V7 ↔ Holds flat dag V7
unplaced_v7 flat dag =
    both (ends alike alike) (λ i. is_level (unplaced dag)) (λ i. is_level dag)
    (λ i e.
    let level = λ (us : List IrVertex) (u : IrVertex). passes (λ w. u.parallelism == w.parallelism) (slice_get us e.to) in
    ap (λ b. not (is_one_to_one e.pattern) || b)
    (passes_map (bare alike alike) (level (map (bare alike alike) dag.vertices)) (level dag.vertices)
    (λ u. let same = λ (w : IrVertex). u.parallelism == w.parallelism in passes_map (bare alike alike) same same (λ w. refl) dag.vertices e.to) dag.vertices e.from)) dag.edges

unplaced_v8 : (flat : FlatForm) (dag : IrDag) → Holds flat (unplaced dag) V8 ↔ Holds flat dag V8
unplaced_v8 flat dag =
    both (ends alike alike) (λ i. is_counted (unplaced dag)) (λ i. is_counted dag)
    (λ i e. let test = λ (u : IrVertex). not (is_trigger u.kind) in ap (λ b. is_hash e.pattern || b) (passes_map (bare alike alike) test test (λ u. refl) dag.vertices e.from)) dag.edges

unplaced_v9 : (flat : FlatForm) (dag : IrDag) → Holds flat (unplaced dag) V9 ↔ Holds flat dag V9
unplaced_v9 flat dag = both (bare alike alike) is_within is_within (λ v u. refl) dag.vertices

---- what passes keep

carried : (P : IrDag → Type 0) (b : IrDag → IrDag) → ((dag : IrDag) → P (b dag) ↔ P dag) → (old new : IrDag) → b old ≡ b new → P old → P new
carried P b e old new same h = (e new).0 (subst P same ((e old).1 h))

-- nothing differs but classes, flows and keeps
pub keeps_valid : (flat : FlatForm) (old new : IrDag) → unplaced old ≡ unplaced new → Valid flat old → Valid flat new
keeps_valid flat old new same h = record {
  v1 = carried (λ d. Holds flat d V1) unplaced (bared_v1 alike alike flat) old new same h.v1;
  v2 = carried (λ d. Holds flat d V2) unplaced (bared_v2 alike alike flat) old new same h.v2;
  v3 = carried (λ d. Holds flat d V3) unplaced (bared_v3 alike alike flat) old new same h.v3;
  v4 = carried (λ d. Holds flat d V4) unplaced (bared_v4 alike alike flat) old new same h.v4;
  v5 = carried (λ d. Holds flat d V5) unplaced (bared_v5 alike alike flat) old new same h.v5;
  v6 = carried (λ d. Holds flat d V6) unplaced (bared_v6 alike flat) old new same h.v6;
  v7 = carried (λ d. Holds flat d V7) unplaced (unplaced_v7 flat) old new same h.v7;
  v8 = carried (λ d. Holds flat d V8) unplaced (unplaced_v8 flat) old new same h.v8;
  v9 = carried (λ d. Holds flat d V9) unplaced (unplaced_v9 flat) old new same h.v9;
}

-- a DAG without classes, flows, keeps and parallelisms
abbrev pub wiring : IrDag → IrDag
wiring = bared (λ n. 1) alike

pub keeps_first : (flat : FlatForm) (old new : IrDag) → wiring old ≡ wiring new → IsFirst flat old → IsFirst flat new
keeps_first flat old new same h = record {
  v1 = carried (λ d. Holds flat d V1) wiring (bared_v1 (λ n. 1) alike flat) old new same h.v1;
  v2 = carried (λ d. Holds flat d V2) wiring (bared_v2 (λ n. 1) alike flat) old new same h.v2;
  v3 = carried (λ d. Holds flat d V3) wiring (bared_v3 (λ n. 1) alike flat) old new same h.v3;
  v4 = carried (λ d. Holds flat d V4) wiring (bared_v4 (λ n. 1) alike flat) old new same h.v4;
  v5 = carried (λ d. Holds flat d V5) wiring (bared_v5 (λ n. 1) alike flat) old new same h.v5;
  v6 = carried (λ d. Holds flat d V6) wiring (bared_v6 (λ n. 1) flat) old new same h.v6;
}

-- a DAG without properties: its kinds, and the ends of its edges
abbrev pub outline : IrDag → IrDag
outline = bared (λ n. 1) (λ p. OneToOne)

-- where the properties alone differ, the first five clauses stay
pub record IsOutlined (flat : FlatForm) (dag : IrDag) : Type 0 where
  pub v1 : Holds flat dag V1
  pub v2 : Holds flat dag V2
  pub v3 : Holds flat dag V3
  pub v4 : Holds flat dag V4
  pub v5 : Holds flat dag V5

pub keeps_outline : (flat : FlatForm) (old new : IrDag) → outline old ≡ outline new → IsFirst flat old → IsOutlined flat new
keeps_outline flat old new same h = record {
  v1 = carried (λ d. Holds flat d V1) outline (bared_v1 (λ n. 1) (λ p. OneToOne) flat) old new same h.v1;
  v2 = carried (λ d. Holds flat d V2) outline (bared_v2 (λ n. 1) (λ p. OneToOne) flat) old new same h.v2;
  v3 = carried (λ d. Holds flat d V3) outline (bared_v3 (λ n. 1) (λ p. OneToOne) flat) old new same h.v3;
  v4 = carried (λ d. Holds flat d V4) outline (bared_v4 (λ n. 1) (λ p. OneToOne) flat) old new same h.v4;
  v5 = carried (λ d. Holds flat d V5) outline (bared_v5 (λ n. 1) (λ p. OneToOne) flat) old new same h.v5;
}
