-- What the kept copies give in the flat job: what they give among all copies, with copies called by their numbers.
use Rattle.std.proofs.Common.{arith, ◌≡◌, ◌∙◌, refl, sym, ap, subst, ℕ, suc, ◌<◌, List, [], ◌∷◌, ◌++◌, add-zero, append-nil, append_assoc, length, map, option_map, slice_get, Some}
use Rattle.std.proofs.lemmas.List.{length-map, map-append}
use Rattle.std.proofs.lemmas.Option.{get_or_from_slice_get, slice_get-map}
use Rattle.nemo_value.proofs.Members.{In}
use Rattle.nemo_transform.specs.Brought.{nothing, port}
use Rattle.nemo_ir.specs.Along.{along}
use Rattle.nemo_ir.specs.Value.{ByNumber, at_or_nothing, value, value_step, values as flat_values}
use Rattle.nemo_job.specs.ByPlace.{ByPlace, values}
use Rattle.nemo_job.specs.Held.{IsPlaced}
use Rattle.nemo_job.specs.Refusals.{IsJob}
use Rattle.nemo_job.specs.Unrolled.{placed_copies, placed_copy, unrolled}
use Rattle.nemo_job.specs.declared.vertex.JobVertex.{JobVertex}
use Rattle.nemo_job.proofs.Natural.{at_renamed, renamed}
use Rattle.nemo_job.proofs.Values.{value_is}
use Rattle.nemo_flat.specs.Flattened.{Numbered, flat_vertex, flattened, kept, number_of}
use Rattle.nemo_flat.proofs.KeptCopies.{copy_at, at_in, input_kept, number_at, number_below, stands_at}
use Rattle.nemo_flat.proofs.OperationTable.{at_before, at_behind, table_is}

at_seam : {X : Type 0} (xs : List X) (x : X) (ys : List X) → slice_get (xs ++ x ∷ ys) (length xs) ≡ Some x
at_seam xs x ys = ap (slice_get (xs ++ x ∷ ys)) (sym (add-zero (length xs))) ∙ at_behind xs (x ∷ ys) 0

fed : (f : ℕ → ℕ) (done : List ByNumber) (all : List ByPlace) (inputs : List ℕ) → ((k j : ℕ) → slice_get inputs k ≡ Some j → port done (f j) ≡ renamed f (port all j))
    → map (port done) (map f inputs) ≡ map (renamed f) (map (port all) inputs)
fed f done all [] h = refl
fed f done all (j ∷ inputs) h = λ i. h 0 j refl i ∷ fed f done all inputs (λ k l e. h (suc k) l e) i

module _ (vs : List JobVertex) (h : IsJob vs) (placed : IsPlaced (placed_copies vs)) where
  -- what a copy gives, with copies called by their numbers
  abbrev pub numbered_value : Numbered → ByNumber
  numbered_value n = renamed (number_of (kept (unrolled vs))) (port (values (placed_copies vs)) n.place)

  -- those that a copy takes stand before it
  before : (done rest : List Numbered) (n : Numbered) → done ++ n ∷ rest ≡ kept (unrolled vs) → (k j : ℕ) → slice_get n.copy.inputs k ≡ Some j
      → port (map numbered_value done) (number_of (kept (unrolled vs)) j) ≡ renamed (number_of (kept (unrolled vs))) (port (values (placed_copies vs)) j)
  before done rest n e k j fed_by =
      let ks : List Numbered = kept (unrolled vs) in
      let here : slice_get ks (length done) ≡ Some n = ap (λ l. slice_get l (length done)) (sym e) ∙ at_seam done n rest in
      let taken = input_kept (unrolled vs) placed.lower n (at_in ks (length done) n here) k j fed_by in
      let m : Numbered = taken.1.0 in
      let is : m.place ≡ j = taken.1.2 in
      let number : number_of ks n.place ≡ length done = number_at (unrolled vs) (length done) n here in
      let lower : j < n.place = taken.0 in
      let low : number_of ks m.place < number_of ks n.place = number_below ks m n.place taken.1.1 (omega arith) in
      let there : slice_get done (number_of ks m.place) ≡ Some m =
      sym (at_before done (n ∷ rest) (number_of ks m.place) (omega arith)) ∙ ap (λ l. slice_get l (number_of ks m.place)) e ∙ stands_at (unrolled vs) m taken.1.1 in
      subst (λ i. port (map numbered_value done) (number_of ks i) ≡ renamed (number_of ks) (port (values (placed_copies vs)) i)) is
      (get_or_from_slice_get (map numbered_value done) (number_of ks m.place) (numbered_value m) nothing
      (slice_get-map numbered_value done (number_of ks m.place) ∙ ap (option_map numbered_value) there))

  step_gives : (done rest : List Numbered) (n : Numbered) → done ++ n ∷ rest ≡ kept (unrolled vs) → value_step (flattened vs) (map numbered_value done) (flat_vertex (kept (unrolled vs)) n) ≡ numbered_value n
  step_gives done rest n e =
      let ks : List Numbered = kept (unrolled vs) in
      let f : ℕ → ℕ = number_of ks in
      let all : List ByPlace = values (placed_copies vs) in
      let here : slice_get ks (length done) ≡ Some n = ap (λ l. slice_get l (length done)) (sym e) ∙ at_seam done n rest in
      let m : In n ks = at_in ks (length done) n here in
      let copy : slice_get (unrolled vs) n.place ≡ Some n.copy = copy_at (unrolled vs) n m in
      let place : slice_get (placed_copies vs) n.place ≡ Some (placed_copy n.copy) = slice_get-map placed_copy (unrolled vs) n.place ∙ ap (option_map placed_copy) copy in
      let size : length (map numbered_value done) ≡ f n.place = length-map done numbered_value ∙ sym (number_at (unrolled vs) (length done) n here) in
      let t = n.copy.transform in
      (λ i. at_or_nothing (size i) (table_is vs h n.place n.copy copy i) (fed f (map numbered_value done) all n.copy.inputs (before done rest n e) i))
      ∙ at_renamed f n.place t (map (port all) n.copy.inputs) ∙ ap (renamed f) (sym (value_is (placed_copies vs) n.place (placed_copy n.copy) placed.lower place))

  along_kept : (done rest : List Numbered) → done ++ rest ≡ kept (unrolled vs)
      → along (value_step (flattened vs)) (map numbered_value done) (map (flat_vertex (kept (unrolled vs))) rest) ≡ map numbered_value (kept (unrolled vs))
  along_kept done [] e = ap (map numbered_value) (sym (append-nil done) ∙ e)
  along_kept done (n ∷ rest) e =
      let more = along (value_step (flattened vs)) in
      let others = map (flat_vertex (kept (unrolled vs))) rest in
      ap (λ v. more (map numbered_value done ++ v ∷ []) others) (step_gives done rest n e)
      ∙ ap (λ d. more d others) (sym (map-append numbered_value done (n ∷ [])))
      ∙ along_kept (done ++ n ∷ []) rest (append_assoc done (n ∷ []) rest ∙ e)

  pub values_kept : flat_values (flattened vs) ≡ map numbered_value (kept (unrolled vs))
  values_kept = along_kept [] (kept (unrolled vs)) refl

  pub value_kept : (k : ℕ) (n : Numbered) → slice_get (kept (unrolled vs)) k ≡ Some n → value (flattened vs) k ≡ numbered_value n
  value_kept k n e =
      ap (λ all. port all k) values_kept
      ∙ get_or_from_slice_get (map numbered_value (kept (unrolled vs))) k (numbered_value n) nothing (slice_get-map numbered_value (kept (unrolled vs)) k ∙ ap (option_map numbered_value) e)

  -- the same by its place
  pub place_value : (n : Numbered) → In n (kept (unrolled vs)) → value (flattened vs) (number_of (kept (unrolled vs)) n.place) ≡ numbered_value n
  place_value n m = value_kept (number_of (kept (unrolled vs)) n.place) n (stands_at (unrolled vs) n m)
