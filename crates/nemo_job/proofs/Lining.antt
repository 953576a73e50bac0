-- The copies of a line, and what is held of them.
use Rattle.std.proofs.Common.{◌≡◌, ◌∙◌, sym, ap, subst, ℕ, zero, suc, ◌+◌, ◌-◌, ◌<◌, ◌≤◌, List, [], ◌∷◌, ◌++◌, length, map, take, drop, get_or, replicate, true, Option, Some, inl, inr, arith, append_assoc}
use Rattle.std.specs.Prelude.{All, IsTrue, option_map, slice_get}
use Rattle.std.proofs.lemmas.Bool.{cases_eq}
use Rattle.std.proofs.lemmas.List.{get_or-drop, get_or-take, length-drop, length-replicate, length-take-le, map-append, replicate-append-replicate}
use Rattle.std.proofs.lemmas.Option.{get_or_from_slice_get, slice_get-get_or, slice_get-map, slice_get_within}
use Rattle.nemo_transform.specs.Brought.{port}
use Rattle.nemo_transform.specs.Soundness.{is_sound}
use Rattle.nemo_transform.specs.Through.{Batch, all_through, clean}
use Rattle.nemo_transform.specs.RowByRow.{goes_by_row}
use Rattle.nemo_job.specs.ByPlace.{values}
use Rattle.nemo_job.specs.Held.{IsHeld, IsLast, IsPlaced, IsReleased, known, known_value, node_of, transform_of}
use Rattle.nemo_job.specs.Lines.{IsJoined, IsLineOf, Joins}
use Rattle.nemo_job.specs.declared.copies.Node.{Node}
use Rattle.nemo_job.specs.declared.held.Held.{Held}
use Rattle.nemo_job.proofs.Feeding.{some_one}
use Rattle.nemo_job.proofs.Holding.{held_line}
use Rattle.nemo_job.proofs.LineValues.{IsLine, line_value, no_sink, one_kind}

-- one copy more joins the line
pub joined_more : (nodes : List Node) (last : List (Option ℕ)) (place end : ℕ) → IsJoined nodes last place end → Joins nodes last end → IsJoined nodes last place (end + 1)
joined_more nodes last place end h j k low high = elim (cases_eq k end) [
  | inl e ↦ subst (Joins nodes last) (sym e) j
  | inr d ↦ h k low (omega arith)
]

pub only_one : (inputs : List ℕ) (j i : ℕ) → length inputs ≡ 1 → slice_get inputs i ≡ Some j → inputs ≡ j ∷ []
only_one [] j i h e = absurd (omega arith)
only_one (x ∷ []) j zero h e = let same : x ≡ j = cc in ap (λ y. y ∷ []) same
only_one (x ∷ []) j (suc i) h e = cc
only_one (x ∷ y ∷ inputs) j i h e = absurd (omega arith)

-- one more that nothing is held of
pub pushed_one : (held more : List Held) (h : Held) (base : List Batch) (n : ℕ) → map known held ≡ base ++ replicate n (clean []) → more ≡ held ++ h ∷ [] → known h ≡ clean [] → map known more ≡ base ++ replicate (n + 1) (clean [])
pushed_one held more h base n so put none =
    ap (map known) put ∙ map-append known held (h ∷ []) ∙ (λ i. so i ++ none i ∷ []) ∙ append_assoc base (replicate n (clean [])) (clean [] ∷ [])
    ∙ ap (λ l. base ++ l) (replicate-append-replicate n 1 (clean []))

module _ (nodes : List Node) (last : List (Option ℕ)) (place end : ℕ) (placed : IsPlaced (map node_of nodes)) (lasts : IsLast (map node_of nodes) last) (so : IsLineOf nodes last place end) where
  abbrev pub line : List Node
  line = take (end - place) (drop place nodes)

  pub line_size : length line ≡ end - place
  line_size = let d = length-drop place nodes in let w = so.within in length-take-le (end - place) (drop place nodes) (omega arith)

  node_in : (k : ℕ) (n : Node) → slice_get line k ≡ Some n → (k < end - place) × (slice_get nodes (place + k) ≡ Some n)
  node_in k n e =
      let size = line_size in
      let more = so.more in
      let until = so.within in
      let here = slice_get_within line k n e in
      let low : k < end - place = omega arith in
      let there : n ≡ get_or nodes (place + k) n = sym (get_or_from_slice_get line k n n e) ∙ get_or-take (end - place) (drop place nodes) k n low ∙ get_or-drop place nodes k n in
      let within : place + k < length nodes = omega arith in
      (low, slice_get-get_or nodes (place + k) n within ∙ ap Some (sym there))

  placed_in : (k : ℕ) (n : Node) → slice_get line k ≡ Some n → slice_get (map node_of nodes) (place + k) ≡ Some (node_of n)
  placed_in k n e = slice_get-map node_of nodes (place + k) ∙ ap (option_map node_of) (node_in k n e).1

  by_row_at : (k : ℕ) (n : Node) → slice_get line k ≡ Some n → goes_by_row (transform_of n) ≡ true
  by_row_at k n e =
      let low = (node_in k n e).0 in
      elim (cases_eq k 0) [
        | inl z ↦ let here : place + k ≡ place = omega arith in so.first (node_of n) (subst (λ p. slice_get (map node_of nodes) p ≡ Some (node_of n)) here (placed_in k n e))
        | inr d ↦ (so.joined (place + k) (omega arith) (omega arith)).1 (node_of n) (placed_in k n e)
      ]

  pub by_row_all : All (λ n. goes_by_row n.transform.now ≡ true) line
  by_row_all k d low = by_row_at k (get_or line k d) (slice_get-get_or line k d low)

  pub sound_all : All (λ n. IsTrue (is_sound n.transform.now)) line
  sound_all k d low = placed.sound (place + k) (node_of (get_or line k d)) (placed_in k (get_or line k d) (slice_get-get_or line k d low))

  pub one_input : (k : ℕ) (n : Node) → slice_get line k ≡ Some n → length n.inputs ≡ 1
  one_input k n e = placed.ports (place + k) (node_of n) (placed_in k n e) ∙ one_kind (transform_of n) (by_row_at k n e)

  takes_before : (k : ℕ) (n : Node) → slice_get line (suc k) ≡ Some n → n.inputs ≡ (place + k) ∷ []
  takes_before k n e =
      let at = placed_in (suc k) n e in
      let low = (node_in (suc k) n e).0 in
      let here = slice_get_within line (suc k) n e in
      let joins = so.joined (place + suc k) (omega arith) (omega arith) in
      let back : (place + suc k) - 1 ≡ place + k = omega arith in
      let reads : slice_get last (place + k) ≡ Some (Some (place + suc k)) = subst (λ p. slice_get last p ≡ Some (Some (place + suc k))) back joins.0 in
      let before = get_or line k n in
      let be : slice_get line k ≡ Some before = slice_get-get_or line k n (omega arith) in
      elim (lasts.only (place + k) (place + suc k) (node_of before) (placed_in k before be) reads) [
        | inl sink ↦ absurd (no_sink (transform_of before) (by_row_at k before be) sink)
        | inr t ↦
            let same : t.0 ≡ node_of n = some_one _ _ (sym t.3 ∙ at) in
            only_one n.inputs (place + k) t.1 (one_input (suc k) n e) (subst (λ p. slice_get p.inputs t.1 ≡ Some (place + k)) same t.4)
      ]

  value_of_line : (l : List Node) (input : ℕ) → 1 ≤ length l → IsLine (map node_of nodes) placed.lower input place l
      → all_through place (map transform_of l) (known_value (port (values (map node_of nodes)) input)) ≡ known_value (port (values (map node_of nodes)) (place + (length l - 1)))
  value_of_line [] input some h = absurd (omega arith)
  value_of_line (n ∷ l) input some h =
      let less : length l ≡ length (n ∷ l) - 1 = omega arith in
      line_value (map node_of nodes) placed.lower l input place n h ∙ ap (λ k. known_value (port (values (map node_of nodes)) (place + k))) less

  -- the first copy of the line, which takes this input
  module _ (n : Node) (input : ℕ) (here : slice_get line 0 ≡ Some n) (takes : n.inputs ≡ input ∷ []) where
    there : slice_get (map node_of nodes) place ≡ Some (node_of n)
    there = let z : place + 0 ≡ place = omega arith in subst (λ p. slice_get (map node_of nodes) p ≡ Some (node_of n)) z (placed_in 0 n here)

    reads : slice_get n.inputs 0 ≡ Some input
    reads = ap (λ l. slice_get l 0) takes

    pub input_below : input < place
    input_below = placed.lower place (node_of n) 0 input there reads

    is_line : IsLine (map node_of nodes) placed.lower input place line
    is_line = record { there = placed_in; by_row = by_row_at; first = λ m e. ap (λ x. x.inputs) (some_one m n (sym e ∙ here)) ∙ takes; others = takes_before }

    pub line_held : (held new all : List Batch) (given : Batch) → IsHeld (values (map node_of nodes)) last place held → IsReleased last place held new
        → ((k : Batch) → slice_get held input ≡ Some k → given ≡ all_through place (map transform_of line) k)
        → all ≡ (new ++ replicate (length line - 1) (clean [])) ++ given ∷ [] → IsHeld (values (map node_of nodes)) last end all
    line_held held new all given is_held let_go gives put =
        let vals = values (map node_of nodes) in
        let size = line_size in
        let more = so.more in
        let within = so.within in
        let low = input_below in
        let known_size = is_held.size in
        let by = lasts.inputs place (node_of n) 0 input so.reached.0 there reads so.reached.1 in
        let at : slice_get held input ≡ Some (get_or held input (clean [])) = slice_get-get_or held input (clean []) (omega arith) in
        let value = is_held.given input by.0 (get_or held input (clean [])) at by.1 by.2 in
        let mids = replicate (length line - 1) (clean []) in
        let count : length mids ≡ length line - 1 = length-replicate (length line - 1) (clean []) in
        let made : given ≡ known_value (port vals (place + length mids)) =
        gives (get_or held input (clean [])) at ∙ ap (all_through place (map transform_of line)) value
        ∙ value_of_line line input (omega arith) is_line ∙ ap (λ c. known_value (port vals (place + c))) (sym count) in
        let next : (k : ℕ) → place ≤ k → k < place + length mids → slice_get last k ≡ Some (Some (suc k)) =
        λ k past below. let less : suc k - 1 ≡ k = omega arith in subst (λ p. slice_get last p ≡ Some (Some (suc k))) less (so.joined (suc k) (omega arith) (omega arith)).0 in
        let finish : place + length mids + 1 ≡ end = omega arith in
        subst (λ e. IsHeld vals last e all) finish (subst (IsHeld vals last (place + length mids + 1)) (sym put) (held_line vals last place held new mids given is_held let_go next (λ u e. made)))
