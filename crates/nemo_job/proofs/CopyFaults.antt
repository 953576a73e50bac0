-- The faults of a job, by the copies where they arose.
use Rattle.std.proofs.Common.{arith, ◌≡◌, ◌∙◌, refl, sym, ap, subst, ℕ, zero, suc, ◌+◌, ◌<◌, List, [], ◌∷◌, ◌++◌, Bool, true, false, cond, length, map, slice_get, option_map, None, length-append, zero-add, Ordering, Less, Equal, Greater}
use Rattle.std.proofs.lemmas.List.{length-map, map-append}
use Rattle.std.proofs.lemmas.Option.{slice_get-map}
use Rattle.std.specs.BTreeSet.{insert_key}
use Rattle.std.specs.List.{flat_map}
use Rattle.std.specs.Ordering.{match_ordering, nat_cmp, ordering_then}
use Rattle.nemo_value.specs.Ascending.{ascending}
use Rattle.nemo_value.specs.KindOrder.{kind_cmp}
use Rattle.nemo_value.specs.Order.{record_cmp}
use Rattle.nemo_transform.specs.Brought.{Arisen, all_faults, arisen, at, blocking, brought_by, first_rows, port}
use Rattle.nemo_transform.specs.Gives.{Answer, answers, own_faults}
use Rattle.nemo_transform.specs.Ports.{kinds_of}
use Rattle.nemo_transform.specs.declared.fault.Fault.{Fault}
use Rattle.nemo_transform.specs.declared.transform.Transform.{Transform}
use Rattle.nemo_transform.specs.FirstFault.{first_fault}
use Rattle.nemo_transform.specs.ArisenOrder.{place_cmp}
use Rattle.nemo_transform.specs.Sinks.{does_sink}
use Rattle.nemo_job.specs.ByPlace.{ByPlace, Placed, value_after, values, values_from}
use Rattle.nemo_job.specs.Ends.{by_path}
use Rattle.nemo_job.specs.Held.{faults_given}
use Rattle.nemo_job.specs.Mean.{mean}
use Rattle.nemo_job.specs.Paths.{paths}
use Rattle.nemo_job.specs.Refusals.{IsJob}
use Rattle.nemo_job.specs.Sinks.{arisen_cmp, job_faults, place_of, reaching, sinks_of}
use Rattle.nemo_job.specs.Unrolled.{at_start, path_at, placed_copies, placed_copy, unroll_all, unrolled}
use Rattle.nemo_job.specs.declared.vertex.JobVertex.{JobVertex}
use Rattle.nemo_job.proofs.Aligned.{Aligned, none, other, copy, sink, aligned}
use Rattle.nemo_job.proofs.Natural.{renamed_fault}
use Rattle.nemo_job.proofs.UnrolledMean.{entry_in}

---- where faults arise

-- the vertex of each fault is below n
abbrev pub Below : ℕ → List (Arisen ℕ) → Type 0
Below n [] = Unit {0}
Below n (a ∷ faults) = (a.vertex < n) × Below n faults

abbrev pub EachBelow : ℕ → List ByPlace → Type 0
EachBelow n [] = Unit {0}
EachBelow n (b ∷ bs) = Below n b.faults × EachBelow n bs

module _ (n : ℕ) where
  both_below : (xs ys : List (Arisen ℕ)) → Below n xs → Below n ys → Below n (xs ++ ys)
  both_below [] ys h g = g
  both_below (x ∷ xs) ys h g = (h.0, both_below xs ys h.1 g)

  all_below : (bs : List ByPlace) → EachBelow n bs → Below n (all_faults bs)
  all_below [] h = tt
  all_below (b ∷ bs) h = both_below b.faults (all_faults bs) h.0 (all_below bs h.1)

  own_below : (x : ℕ) (faults : List Fault) → x < n → Below n (map (arisen x) faults)
  own_below x [] low = tt
  own_below x (a ∷ faults) low = (low, own_below x faults low)

  brought_below : (x : ℕ) (blocked passed : List (Arisen ℕ)) (given : List Answer) → x < n → Below n passed → Below n (brought_by x blocked passed given).faults
  brought_below x [] passed given low h = both_below passed (map (arisen x) (own_faults given)) h (own_below x (own_faults given) low)
  brought_below x (b ∷ bs) passed given low h = h

  at_below : (x : ℕ) (t : Transform) (ports : List ByPlace) → x < n → EachBelow n ports → Below n (at x t ports).faults
  at_below x t ports low h = brought_below x (blocking (kinds_of t) ports) (all_faults ports) (answers t (first_rows t ports) (port ports 1).rows) low (all_below ports h)

  port_below : (bs : List ByPlace) (k : ℕ) → EachBelow n bs → Below n (port bs k).faults
  port_below [] k h = tt
  port_below (b ∷ bs) zero h = h.0
  port_below (b ∷ bs) (suc k) h = port_below bs k h.1

  ports_below : (bs : List ByPlace) (inputs : List ℕ) → EachBelow n bs → EachBelow n (map (port bs) inputs)
  ports_below bs [] h = tt
  ports_below bs (k ∷ inputs) h = (port_below bs k h, ports_below bs inputs h)

  more_below : (bs : List ByPlace) (b : ByPlace) → EachBelow n bs → Below n b.faults → EachBelow n (bs ++ b ∷ [])
  more_below [] b h g = (g, tt)
  more_below (c ∷ bs) b h g = (h.0, more_below bs b h.1 g)

  values_from_below : (bs : List ByPlace) (ps : List Placed) → length bs + length ps ≡ n → EachBelow n bs → EachBelow n (values_from bs ps)
  values_from_below bs [] size h = h
  values_from_below bs (p ∷ ps) size h =
      let b : ByPlace = value_after bs p in
      let more : length (bs ++ b ∷ []) ≡ length bs + 1 = length-append bs (b ∷ []) in
      let all : length bs + suc (length ps) ≡ n = size in
      values_from_below (bs ++ b ∷ []) ps (omega arith) (more_below bs b h (at_below (length bs) p.transform (map (port bs) p.inputs) (omega arith) (ports_below bs p.inputs h)))

  given_below : (ps : List Placed) (bs : List ByPlace) → EachBelow n bs → Below n (faults_given ps bs)
  given_below [] bs h = tt
  given_below (p ∷ ps) [] h = tt
  given_below (p ∷ ps) (b ∷ bs) h = both_below (cond (does_sink p.transform) b.faults []) (faults_given ps bs) (go (does_sink p.transform)) (given_below ps bs h.1)
    where
      go : (c : Bool) → Below n (cond c b.faults [])
      go true = h.0
      go false = tt

-- each fault of a value arose at one of the vertices
values_below : (ps : List Placed) → EachBelow (length ps) (values ps)
values_below ps = values_from_below (length ps) [] ps (zero-add (length ps)) tt

---- the order of faults

-- orders that agree on what arose below n give one list
module _ {Y : Type 0} (n : ℕ) (R : Arisen ℕ → Arisen ℕ → Ordering) (Q : Y → Y → Ordering) (g : Arisen ℕ → Y) (same : (a b : Arisen ℕ) → a.vertex < n → b.vertex < n → Q (g a) (g b) ≡ R a b) where
  put_below : (l : List (Arisen ℕ)) (x : Arisen ℕ) → x.vertex < n → Below n l → Below n (insert_key R l x)
  put_below [] x low h = (low, tt)
  put_below (y ∷ l) x low h = go (R x y) (put_below l x low h.1)
    where
      go : (r : Ordering) → Below n (insert_key R l x) → Below n (match_ordering r (x ∷ y ∷ l) (y ∷ l) (y ∷ insert_key R l x))
      go Less ih = (low, h)
      go Equal ih = h
      go Greater ih = (h.0, ih)

  ascending_below : (l : List (Arisen ℕ)) → Below n l → Below n (ascending R l)
  ascending_below [] h = tt
  ascending_below (x ∷ l) h = put_below (ascending R l) x h.0 (ascending_below l h.1)

  put_mapped : (l : List (Arisen ℕ)) (x : Arisen ℕ) → x.vertex < n → Below n l → insert_key Q (map g l) (g x) ≡ map g (insert_key R l x)
  put_mapped [] x low h = refl
  put_mapped (y ∷ l) x low h =
      (λ i. match_ordering (same x y low h.0 i) (g x ∷ g y ∷ map g l) (g y ∷ map g l) (g y ∷ put_mapped l x low h.1 i)) ∙ go (R x y)
    where
      go : (r : Ordering) → match_ordering r (g x ∷ g y ∷ map g l) (g y ∷ map g l) (g y ∷ map g (insert_key R l x)) ≡ map g (match_ordering r (x ∷ y ∷ l) (y ∷ l) (y ∷ insert_key R l x))
      go Less = refl
      go Equal = refl
      go Greater = refl

  ascending_mapped : (l : List (Arisen ℕ)) → Below n l → ascending Q (map g l) ≡ map g (ascending R l)
  ascending_mapped [] h = refl
  ascending_mapped (x ∷ l) h = ap (λ m. insert_key Q m (g x)) (ascending_mapped l h.1) ∙ put_mapped (ascending R l) x h.0 (ascending_below l h.1)

---- the faults of the sinks

faults_along : (all : List JobVertex) (f : ℕ → List ℕ) {vs : List JobVertex} {ps : List Placed} {bs : List ByPlace} → Aligned (reaching all) f vs ps bs
    → flat_map (λ v. (reaching all v).faults) (sinks_of vs) ≡ map (renamed_fault f) (faults_given ps bs)
faults_along all f (none bs) = refl
faults_along all f (other v {vs} isnt a) = ap (λ is. flat_map (λ v. (reaching all v).faults) (cond is (v ∷ sinks_of vs) (sinks_of vs))) isnt ∙ faults_along all f a
faults_along all f (copy p b {vs} {ps} {bs} isnt a) =
    faults_along all f a ∙ ap (λ is. map (renamed_fault f) (cond is b.faults [] ++ faults_given ps bs)) (sym isnt)
faults_along all f (sink v p b {vs} {ps} {bs} is named reach a) =
    ap (λ c. flat_map (λ v. (reaching all v).faults) (cond c (v ∷ sinks_of vs) (sinks_of vs))) is
    ∙ (λ i. (reach i).faults ++ faults_along all f a i)
    ∙ sym (map-append (renamed_fault f) b.faults (faults_given ps bs))
    ∙ ap (λ t. map (renamed_fault f) (cond (does_sink t) b.faults [] ++ faults_given ps bs)) (sym named)

module _ (vs : List JobVertex) (h : IsJob vs) (meant : mean vs ≡ map (entry_in (path_at vs) (values (placed_copies vs))) (unroll_all vs [] at_start).names) where
  pub faults_copied : flat_map (λ v. (reaching vs v).faults) (sinks_of vs) ≡ map (by_path vs) (faults_given (placed_copies vs) (values (placed_copies vs)))
  faults_copied = faults_along vs (path_at vs) (aligned vs h meant)

  pub low_faults : Below (length (unrolled vs)) (faults_given (placed_copies vs) (values (placed_copies vs)))
  low_faults =
      subst (λ n. Below n (faults_given (placed_copies vs) (values (placed_copies vs)))) (length-map (unrolled vs) placed_copy)
      (given_below (length (placed_copies vs)) (placed_copies vs) (values (placed_copies vs)) (values_below (placed_copies vs)))

  module _ (apart : (k : ℕ) → k < length (unrolled vs) → place_of (paths vs) (path_at vs k) ≡ k) where
    same_order : (a b : Arisen ℕ) → a.vertex < length (unrolled vs) → b.vertex < length (unrolled vs)
        → arisen_cmp (paths vs) (by_path vs a) (by_path vs b) ≡ place_cmp a b
    same_order a b p q = λ i. ordering_then (nat_cmp (apart a.vertex p i) (apart b.vertex q i)) (ordering_then (kind_cmp a.kind b.kind) (record_cmp a.rec b.rec))

    pub faults_placed : job_faults vs ≡ map (by_path vs) (ascending place_cmp (faults_given (placed_copies vs) (values (placed_copies vs))))
    faults_placed =
        ap (ascending (arisen_cmp (paths vs))) faults_copied
        ∙ ascending_mapped (length (unrolled vs)) place_cmp (arisen_cmp (paths vs)) (by_path vs) same_order
        (faults_given (placed_copies vs) (values (placed_copies vs))) low_faults

    pub first_copied : slice_get (job_faults vs) 0 ≡ option_map (by_path vs) (first_fault (faults_given (placed_copies vs) (values (placed_copies vs))))
    first_copied =
        ap (λ faults. slice_get faults 0) faults_placed
        ∙ slice_get-map (by_path vs) (ascending place_cmp (faults_given (placed_copies vs) (values (placed_copies vs)))) 0

    pub none_copied : first_fault (faults_given (placed_copies vs) (values (placed_copies vs))) ≡ None → job_faults vs ≡ []
    none_copied clean = faults_placed ∙ ap (map (by_path vs)) (empty (ascending place_cmp (faults_given (placed_copies vs) (values (placed_copies vs)))) clean)
      where
        empty : {X : Type 0} (xs : List X) → slice_get xs 0 ≡ None → xs ≡ []
        empty [] e = refl
        empty (x ∷ xs) e = cc
