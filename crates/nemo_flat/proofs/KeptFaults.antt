-- Where the faults arise that come to sinks: at copies that are kept.
use Rattle.std.proofs.Common.{arith, ◌≡◌, ◌∙◌, refl, sym, ap, subst, ℕ, zero, suc, ◌+◌, ◌<◌, ◌||◌, List, [], ◌∷◌, ◌++◌, Bool, true, false, cond, length, map, option_map, slice_get, Some, add-zero, zero-add, inl, inr}
use Rattle.std.proofs.lemmas.List.{length-map}
use Rattle.std.proofs.lemmas.Option.{slice_get-map}
use Rattle.std.specs.List.{flat_map}
use Rattle.nemo_base.specs.Numbered.{map_at}
use Rattle.nemo_value.proofs.Members.{In}
use Rattle.nemo_transform.specs.Brought.{Arisen, all_faults, arisen, at, blocking, brought_by, first_rows, port, second_rows}
use Rattle.nemo_transform.specs.Gives.{Answer, answers, own_faults}
use Rattle.nemo_transform.specs.Ports.{kinds_of}
use Rattle.nemo_transform.specs.declared.fault.Fault.{Fault}
use Rattle.nemo_transform.specs.declared.transform.Transform.{Transform}
use Rattle.nemo_job.specs.ByPlace.{ByPlace, values}
use Rattle.nemo_job.specs.Held.{IsLower, faults_given}
use Rattle.nemo_transform.specs.Sinks.{does_sink}
use Rattle.nemo_job.specs.Unrolled.{Copy, placed_copy}
use Rattle.nemo_job.proofs.Values.{length_values, value_is}
use Rattle.nemo_flat.specs.Flattened.{Numbered, is_taken, kept, kept_from}
use Rattle.nemo_flat.proofs.KeptCopies.{KeptAt, copy_at, input_kept}

---- what faults have where they arise

module _ (P : ℕ → Type 0) where
  abbrev pub Arise : List (Arisen ℕ) → Type 0
  Arise [] = Unit {0}
  Arise (a ∷ faults) = P a.vertex × Arise faults

  abbrev AllArise : List ByPlace → Type 0
  AllArise [] = Unit {0}
  AllArise (b ∷ bs) = Arise b.faults × AllArise bs

  both_arise : (xs ys : List (Arisen ℕ)) → Arise xs → Arise ys → Arise (xs ++ ys)
  both_arise [] ys h g = g
  both_arise (x ∷ xs) ys h g = (h.0, both_arise xs ys h.1 g)

  all_arise : (bs : List ByPlace) → AllArise bs → Arise (all_faults bs)
  all_arise [] h = tt
  all_arise (b ∷ bs) h = both_arise b.faults (all_faults bs) h.0 (all_arise bs h.1)

  own_arise : (x : ℕ) (faults : List Fault) → P x → Arise (map (arisen x) faults)
  own_arise x [] p = tt
  own_arise x (a ∷ faults) p = (p, own_arise x faults p)

  brought_arise : (x : ℕ) (blocked passed : List (Arisen ℕ)) (given : List Answer) → P x → Arise passed → Arise (brought_by x blocked passed given).faults
  brought_arise x [] passed given p h = both_arise passed (map (arisen x) (own_faults given)) h (own_arise x (own_faults given) p)
  brought_arise x (b ∷ bs) passed given p h = h

  at_arise : (x : ℕ) (t : Transform) (ports : List ByPlace) → P x → AllArise ports → Arise (at x t ports).faults
  at_arise x t ports p h = brought_arise x (blocking (kinds_of t) ports) (all_faults ports) (answers t (first_rows t ports) (second_rows ports)) p (all_arise ports h)

  ports_arise : (all : List ByPlace) (inputs : List ℕ) → ((k j : ℕ) → slice_get inputs k ≡ Some j → Arise (port all j).faults) → AllArise (map (port all) inputs)
  ports_arise all [] h = tt
  ports_arise all (j ∷ inputs) h = (h 0 j refl, ports_arise all inputs (λ k i e. h (suc k) i e))

  flat_arise : (g : Numbered → List (Arisen ℕ)) (ns : List Numbered) → ((n : Numbered) → In n ns → Arise (g n)) → Arise (flat_map g ns)
  flat_arise g [] h = tt
  flat_arise g (n ∷ ns) h = both_arise (g n) (flat_map g ns) (h n (inl refl)) (flat_arise g ns (λ m i. h m (inr i)))

---- what goes to sinks comes from kept copies

abbrev pub numbered : ℕ → Copy → Numbered
numbered place c = record { place = place; copy = c }

-- what sinks alone have is the same of the kept copies and of all
module _ {A : Type 0} (g : Numbered → List A) (none : (n : Numbered) → does_sink n.copy.transform ≡ false → g n ≡ []) where
  pub flat_kept : (place : ℕ) (cs : List Copy) → flat_map g (kept_from place cs) ≡ flat_map g (map_at numbered place cs)
  flat_kept place [] = refl
  flat_kept place (c ∷ cs) = go (does_sink c.transform) (is_taken place rest) refl ∙ ap (λ l. g own ++ l) (flat_kept (place + 1) cs)
    where
      rest : List Numbered
      rest = kept_from (place + 1) cs

      own : Numbered
      own = record { place = place; copy = c }

      go : (s t : Bool) → does_sink c.transform ≡ s → flat_map g (cond (s || t) (own ∷ rest) rest) ≡ g own ++ flat_map g rest
      go true t e = refl
      go false true e = refl
      go false false e = ap (λ l. l ++ flat_map g rest) (sym (none own e))

pub valued : (cs : List Copy) → length (values (map placed_copy cs)) ≡ length cs
valued cs = length_values [] (map placed_copy cs) ∙ zero-add (length (map placed_copy cs)) ∙ length-map cs placed_copy

module _ (cs : List Copy) (lower : IsLower (map placed_copy cs)) where
  -- the faults of a kept copy arise at kept copies
  value_arise : (bound : ℕ) (n : Numbered) → In n (kept cs) → n.place < bound → Arise (KeptAt (kept cs)) (port (values (map placed_copy cs)) n.place).faults
  value_arise zero n m lt = absurd (omega arith)
  value_arise (suc bound) n m lt =
      let all : List ByPlace = values (map placed_copy cs) in
      let here : slice_get (map placed_copy cs) n.place ≡ Some (placed_copy n.copy) = slice_get-map placed_copy cs n.place ∙ ap (option_map placed_copy) (copy_at cs n m) in
      let inputs : (k j : ℕ) → slice_get n.copy.inputs k ≡ Some j → Arise (KeptAt (kept cs)) (port all j).faults =
      λ k j e.
      let i = input_kept cs lower n m k j e in
      let source : Numbered = i.1.0 in
      let is : source.place ≡ j = i.1.2 in
      let low : j < n.place = i.0 in
      subst (λ l. Arise (KeptAt (kept cs)) (port all l).faults) is (value_arise bound source i.1.1 (omega arith)) in
      subst (λ (v : ByPlace). Arise (KeptAt (kept cs)) v.faults) (sym (value_is (map placed_copy cs) n.place (placed_copy n.copy) lower here))
      (at_arise (KeptAt (kept cs)) n.place n.copy.transform (map (port all) n.copy.inputs) (n, m, refl) (ports_arise (KeptAt (kept cs)) all n.copy.inputs inputs))

  -- the faults that come to a copy that is a sink
  abbrev pub sink_faults : Numbered → List (Arisen ℕ)
  sink_faults n = cond (does_sink n.copy.transform) (port (values (map placed_copy cs)) n.place).faults []

  sink_arise : (n : Numbered) → In n (kept cs) → Arise (KeptAt (kept cs)) (sink_faults n)
  sink_arise n m = go (does_sink n.copy.transform)
    where
      go : (b : Bool) → Arise (KeptAt (kept cs)) (cond b (port (values (map placed_copy cs)) n.place).faults [])
      go true = value_arise (suc n.place) n m (omega arith)
      go false = tt

  faults_from : (place : ℕ) (rest : List Copy) (fs : List ByPlace) → length fs ≡ length rest → ((k : ℕ) → port fs k ≡ port (values (map placed_copy cs)) (place + k))
      → faults_given (map placed_copy rest) fs ≡ flat_map sink_faults (map_at numbered place rest)
  faults_from place [] fs size same = refl
  faults_from place (c ∷ rest) [] size same = cc
  faults_from place (c ∷ rest) (b ∷ fs) size same =
      let all : List ByPlace = values (map placed_copy cs) in
      let here : b ≡ port all place = same 0 ∙ ap (port all) (add-zero place) in
      let next : (k : ℕ) → port fs k ≡ port all (place + 1 + k) = λ k. let step : place + suc k ≡ place + 1 + k = omega arith in same (suc k) ∙ ap (port all) step in
      λ i. cond (does_sink c.transform) (here i).faults [] ++ faults_from (place + 1) rest fs (omega arith) next i

  pub faults_are : faults_given (map placed_copy cs) (values (map placed_copy cs)) ≡ flat_map sink_faults (kept cs)
  faults_are =
      faults_from 0 cs (values (map placed_copy cs)) (valued cs) (λ k. ap (port (values (map placed_copy cs))) (sym (zero-add k)))
      ∙ sym (flat_kept sink_faults (λ n e. ap (λ b. cond b (port (values (map placed_copy cs)) n.place).faults []) e) 0 cs)

  pub faults_kept : Arise (KeptAt (kept cs)) (faults_given (map placed_copy cs) (values (map placed_copy cs)))
  faults_kept = subst (Arise (KeptAt (kept cs))) (sym faults_are) (flat_arise (KeptAt (kept cs)) sink_faults (kept cs) sink_arise)
