-- The flat job of a job gives to its sinks what the job gives.
use Rattle.std.proofs.Common.{arith, ◌≡◌, ◌∙◌, refl, sym, ap, ℕ, suc, ◌+◌, List, [], ◌∷◌, ◌++◌, false, cond, length, map, slice_get, Option, Some, add-zero, zero-add, true≢false}
use Rattle.std.proofs.lemmas.List.{map-append}
use Rattle.std.specs.List.{cons_option, filter_map, flat_map}
use Rattle.std.specs.Prelude.{option_to_list}
use Rattle.nemo_base.specs.Numbered.{map_at}
use Rattle.nemo_value.specs.Ascending.{ascending}
use Rattle.nemo_value.specs.declared.record.SinkRows.{SinkRows}
use Rattle.nemo_transform.specs.Brought.{Arisen, port}
use Rattle.nemo_transform.specs.Gives.{Row}
use Rattle.nemo_transform.specs.declared.transform.Transform.{Transform}
use Rattle.nemo_transform.specs.declared.transform.Transform.TheVariants.{Sink}
use Rattle.nemo_ir.specs.Flat.{sink_name, transform_of}
use Rattle.nemo_ir.specs.Value.{value}
use Rattle.nemo_ir.specs.declared.flat.FlatVertex.{FlatVertex}
use Rattle.nemo_job.specs.ByPlace.{ByPlace, values}
use Rattle.nemo_transform.specs.ArisenOrder.{place_cmp}
use Rattle.nemo_job.specs.Ends as ends
use Rattle.nemo_job.specs.Held.{IsPlaced, faults_given, sink_at, sinks_given}
use Rattle.nemo_transform.specs.Sinks.{does_sink}
use Rattle.nemo_job.specs.Refusals.{IsJob}
use Rattle.nemo_job.specs.Sinks.{job_faults, sinks_reached}
use Rattle.nemo_job.specs.Unrolled.{Copy, placed_copies, placed_copy, unrolled}
use Rattle.nemo_job.specs.declared.vertex.JobVertex.{JobVertex}
use Rattle.nemo_job.proofs.Natural.{renamed, renamed_fault}
use Rattle.nemo_flat.specs.Flattened.{Numbered, flat_vertex, flattened, kept, number_of}
use Rattle.nemo_ir.specs.Meaning.{Reached, by_path, flat_faults, flat_reached, reached, under}
use Rattle.nemo_flat.proofs.KeptCopies.{KeptAt, at_in, copy_at}
use Rattle.nemo_flat.proofs.KeptFaults.{Arise, faults_are, faults_kept as faults_arise, flat_kept, numbered, valued}
use Rattle.nemo_flat.proofs.KeptOrder.{ascending_arise, ascending_mapped, same_order, same_paths}
use Rattle.nemo_flat.proofs.KeptValues.{value_kept}
use Rattle.nemo_flat.proofs.OperationTable.{table_is}

---- what reaches the sinks

-- as lists whose items are taken with their places, and without
chosen_at : {X Y Z : Type 0} (make : ℕ → Y → Option Z) (h : X → Y) (p : X → Option Z) (k : ℕ) (xs : List X) → ((i : ℕ) (x : X) → slice_get xs i ≡ Some x → make (k + i) (h x) ≡ p x)
    → filter_map (λ r. r) (map_at make k (map h xs)) ≡ filter_map p xs
chosen_at make h p k [] same = refl
chosen_at make h p k (x ∷ xs) same =
    let here : make k (h x) ≡ p x = ap (λ i. make i (h x)) (sym (add-zero k)) ∙ same 0 x refl in
    λ j. cons_option (here j)
    (chosen_at make h p (k + 1) xs (λ i y e. let next : k + 1 + i ≡ k + suc i = omega arith in ap (λ l. make l (h y)) next ∙ same (suc i) y e) j)

abbrev rows_of : Reached → SinkRows
rows_of r = record { name = r.name; rows = r.brought.rows }

abbrev faults_of : Reached → List (Arisen ℕ)
faults_of r = r.brought.faults

module _ (f : ℕ → ℕ) (all : List ByPlace) where
  -- what reaches the sink that a copy is
  abbrev reaches : Numbered → Option Reached
  reaches n = under (renamed f (port all n.place)) (sink_name (Some n.copy.transform))

  one_row : (t : Transform) (b : ByPlace) (rs : List Reached) → map rows_of (cons_option (under (renamed f b) (sink_name (Some t))) rs) ≡ option_to_list (sink_at t b.rows) ++ map rows_of rs
  one_row (Sink name) b rs = refl
  one_row _ b rs = refl

  rows_reached : (ns : List Numbered) → map rows_of (filter_map reaches ns) ≡ flat_map (λ n. option_to_list (sink_at n.copy.transform (port all n.place).rows)) ns
  rows_reached [] = refl
  rows_reached (n ∷ ns) =
      one_row n.copy.transform (port all n.place) (filter_map reaches ns) ∙ ap (λ l. option_to_list (sink_at n.copy.transform (port all n.place).rows) ++ l) (rows_reached ns)

  one_fault : (t : Transform) (b : ByPlace) (rs : List Reached)
      → flat_map faults_of (cons_option (under (renamed f b) (sink_name (Some t))) rs) ≡ map (renamed_fault f) (cond (does_sink t) b.faults []) ++ flat_map faults_of rs
  one_fault (Sink name) b rs = refl
  one_fault _ b rs = refl

  faults_reached : (ns : List Numbered) → flat_map faults_of (filter_map reaches ns) ≡ map (renamed_fault f) (flat_map (λ n. cond (does_sink n.copy.transform) (port all n.place).faults []) ns)
  faults_reached [] = refl
  faults_reached (n ∷ ns) =
      let own = cond (does_sink n.copy.transform) (port all n.place).faults [] in
      one_fault n.copy.transform (port all n.place) (filter_map reaches ns) ∙ ap (λ l. map (renamed_fault f) own ++ l) (faults_reached ns)
      ∙ sym (map-append (renamed_fault f) own (flat_map (λ m. cond (does_sink m.copy.transform) (port all m.place).faults []) ns))

-- the rows of the sinks among all copies
module _ (all : List ByPlace) where
  sinks_from : (place : ℕ) (rest : List Copy) (fs : List ByPlace) → length fs ≡ length rest → ((k : ℕ) → port fs k ≡ port all (place + k))
      → sinks_given (map placed_copy rest) fs ≡ flat_map (λ n. option_to_list (sink_at n.copy.transform (port all n.place).rows)) (map_at numbered place rest)
  sinks_from place [] fs size same = refl
  sinks_from place (c ∷ rest) [] size same = cc
  sinks_from place (c ∷ rest) (b ∷ fs) size same =
      let here : b ≡ port all place = same 0 ∙ ap (port all) (add-zero place) in
      let next : (k : ℕ) → port fs k ≡ port all (place + 1 + k) = λ k. let step : place + suc k ≡ place + 1 + k = omega arith in same (suc k) ∙ ap (port all) step in
      λ i. option_to_list (sink_at c.transform (here i).rows) ++ sinks_from (place + 1) rest fs (omega arith) next i

no_sink : (t : Transform) (rows : List Row) → does_sink t ≡ false → option_to_list (sink_at t rows) ≡ []
no_sink (Sink name) rows e = absurd (true≢false e)
no_sink _ rows e = refl

sinks_are : (cs : List Copy) → sinks_given (map placed_copy cs) (values (map placed_copy cs)) ≡ flat_map (λ n. option_to_list (sink_at n.copy.transform (port (values (map placed_copy cs)) n.place).rows)) (kept cs)
sinks_are cs =
    let all : List ByPlace = values (map placed_copy cs) in
    sinks_from all 0 cs all (valued cs) (λ k. ap (port all) (sym (zero-add k)))
    ∙ sym (flat_kept (λ n. option_to_list (sink_at n.copy.transform (port all n.place).rows)) (λ n e. no_sink n.copy.transform (port all n.place).rows e) 0 cs)

module _ (vs : List JobVertex) (h : IsJob vs) (placed : IsPlaced (placed_copies vs)) where
  reached_are : reached (flattened vs) ≡ filter_map (reaches (number_of (kept (unrolled vs))) (values (placed_copies vs))) (kept (unrolled vs))
  reached_are =
      let ks : List Numbered = kept (unrolled vs) in
      let make : ℕ → FlatVertex → Option Reached = λ i x. under (value (flattened vs) i) (sink_name (transform_of (flattened vs) x)) in
      chosen_at make (flat_vertex ks) (reaches (number_of ks) (values (placed_copies vs))) 0 ks
      (λ i n e.
      let here : slice_get (unrolled vs) n.place ≡ Some n.copy = copy_at (unrolled vs) n (at_in ks i n e) in
      ap (λ k. make k (flat_vertex ks n)) (zero-add i)
      ∙ (λ j. under (value_kept vs h placed i n e j) (sink_name (table_is vs h n.place n.copy here j))))

  module _ (sinks_copied : sinks_reached vs ≡ sinks_given (placed_copies vs) (values (placed_copies vs))) where
    pub reached_kept : flat_reached (flattened vs) ≡ sinks_reached vs
    reached_kept =
        ap (map rows_of) reached_are
        ∙ rows_reached (number_of (kept (unrolled vs))) (values (placed_copies vs)) (kept (unrolled vs)) ∙ sym (sinks_are (unrolled vs)) ∙ sym sinks_copied

  module _ (faults_placed : job_faults vs ≡ map (ends.by_path vs) (ascending place_cmp (faults_given (placed_copies vs) (values (placed_copies vs))))) where
    pub faults_kept : flat_faults (flattened vs) ≡ job_faults vs
    faults_kept =
        let ks : List Numbered = kept (unrolled vs) in
        let f : ℕ → ℕ = number_of ks in
        let all : List ByPlace = values (placed_copies vs) in
        let faults : List (Arisen ℕ) = faults_given (placed_copies vs) all in
        let own : Arise (KeptAt ks) faults = faults_arise (unrolled vs) placed.lower in
        let reached_faults : flat_map faults_of (reached (flattened vs)) ≡ map (renamed_fault f) faults =
        ap (flat_map faults_of) reached_are ∙ faults_reached f all ks ∙ ap (map (renamed_fault f)) (sym (faults_are (unrolled vs) placed.lower)) in
        ap (λ l. map (by_path (flattened vs)) (ascending place_cmp l)) reached_faults
        ∙ ap (map (by_path (flattened vs))) (ascending_mapped (KeptAt ks) place_cmp place_cmp (renamed_fault f) (same_order vs) faults own)
        ∙ same_paths vs (ascending place_cmp faults) (ascending_arise (KeptAt ks) place_cmp faults own)
        ∙ sym faults_placed
