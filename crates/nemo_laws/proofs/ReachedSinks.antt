-- A fault of a flat vertex reaches a sink, and a fault of a task is one of a flat vertex.
use Rattle.std.proofs.Common.{arith, ◌≡◌, ◌∙◌, ap, sym, subst, refl, ℕ, zero, suc, ◌+◌, ◌<◌, ◌≤◌, ◌==◌, ◌||◌, List, [], ◌∷◌, length, map, take, slice_get, Bool, true, false, Option, Some, None, ◌⊎◌, inl, inr}
use Rattle.std.proofs.lemmas.Bool.{eqb-true}
use Rattle.std.proofs.lemmas.Option.{slice_get_within}
use Rattle.std.specs.Cmp.{second_so}
use Rattle.std.specs.List.{flat_map, list_all, list_any}
use Rattle.nemo_value.proofs.MemberLists.{either, flat_in, map_in}
use Rattle.nemo_value.proofs.AscendingLists.{in_ascending}
use Rattle.nemo_value.specs.Members.{In}
use Rattle.nemo_transform.proofs.FirstFaults.{place_strict}
use Rattle.nemo_transform.specs.ArisenOrder.{place_cmp}
use Rattle.nemo_transform.specs.Brought.{Arisen, all_faults, arisen, blocking, brought_by, first_rows, port, second_rows}
use Rattle.nemo_transform.specs.Gives.{Answer, answers, own_faults}
use Rattle.nemo_transform.specs.Ports.{kinds_of}
use Rattle.nemo_transform.specs.declared.transform.Transform.{Transform}
use Rattle.nemo_transform.specs.declared.transform.Transform.TheVariants.{Sink}
use Rattle.nemo_ir.specs.Flat.{FlatForm, IsFlat, feeds_one, is_input, is_sink, sink_name, transform_of}
use Rattle.nemo_ir.specs.Meaning.{Reached, flat_arisen, reached, under}
use Rattle.nemo_ir.specs.Value.{ByNumber, at_or_nothing, value, values}
use Rattle.nemo_ir.specs.declared.flat.FlatVertex.{FlatVertex}
use Rattle.nemo_ir.proofs.FlatPlaces.{has_transform}
use Rattle.nemo_ir.proofs.Places.{all_at-at, from_none, got}
use Rattle.nemo_ir.proofs.Reps.{are_inputs, first_low}
use Rattle.nemo_ir.proofs.Steps.{inputs_bring, value_at, value_before}
use Rattle.nemo_plan.proofs.Lists.{list_any-some}
use Rattle.nemo_plan.proofs.Memberships.{at_in}
use Rattle.nemo_laws.proofs.SinksByName.{chosen_there}

---- one vertex

-- a fault that the ports bring is passed on
passes_on : (x : ℕ) (blocks passed : List (Arisen ℕ)) (given : List Answer) (a : Arisen ℕ) → In a passed → In a (brought_by x blocks passed given).faults
passes_on x [] passed given a m = (either a passed (map (arisen x) (own_faults given))).1 (inl m)
passes_on x (b ∷ bs) passed given a m = m

-- a fault of a vertex was passed on, or is its own
passed_or_own : (x : ℕ) (blocks passed : List (Arisen ℕ)) (given : List Answer) (a : Arisen ℕ) → In a (brought_by x blocks passed given).faults → In a passed ⊎ (a.vertex ≡ x)
passed_or_own x [] passed given a m = elim ((either a passed (map (arisen x) (own_faults given))).0 m) [
  | inl before ↦ inl before
  | inr own ↦ inr (ap (λ (z : Arisen ℕ). z.vertex) (map_in (arisen x) a (own_faults given) own).2)
]
passed_or_own x (b ∷ bs) passed given a m = inl m

brought_or_own : (x : ℕ) (o : Option Transform) (ports : List ByNumber) (a : Arisen ℕ) → In a (at_or_nothing x o ports).faults → In a (all_faults ports) ⊎ (a.vertex ≡ x)
brought_or_own x None ports a m = absurd m
brought_or_own x (Some t) ports a m = passed_or_own x (blocking (kinds_of t) ports) (all_faults ports) (answers t (first_rows t ports) (second_rows ports)) a m

module _ (flat : FlatForm) where
  bring_in : (y : ℕ) (zs : List ℕ) (z : ℕ) (a : Arisen ℕ) → In z zs → list_all (is_input flat y) zs ≡ true → In a (value flat z).faults → In a (all_faults (inputs_bring flat y zs))
  bring_in y [] z a n l m = absurd n
  bring_in y (w ∷ ws) z a (inl e) l m =
      let low : w < y = first_low flat y w ws l in
      (either a (port (take y (values flat)) w).faults (all_faults (inputs_bring flat y ws))).1 (inl (subst (λ (b : ByNumber). In a b.faults) (ap (value flat) e ∙ sym (value_before flat y w low)) m))
  bring_in y (w ∷ ws) z a (inr n) l m =
      (either a (port (take y (values flat)) w).faults (all_faults (inputs_bring flat y ws))).1 (inr (bring_in y ws z a n (second_so (is_input flat y w) (list_all (is_input flat y) ws) l) m))

  input_low : (y : ℕ) (zs : List ℕ) (z : ℕ) → In z zs → list_all (is_input flat y) zs ≡ true → z < y
  input_low y [] z n l = absurd n
  input_low y (w ∷ ws) z (inl e) l = let low : w < y = first_low flat y w ws l in omega (arith, low, e)
  input_low y (w ∷ ws) z (inr n) l = input_low y ws z n (second_so (is_input flat y w) (list_all (is_input flat y) ws) l)

  -- a fault that an input brings
  from_inputs : (x : ℕ) (zs : List ℕ) (a : Arisen ℕ) → list_all (is_input flat x) zs ≡ true → In a (all_faults (inputs_bring flat x zs)) → (z : ℕ) × (z < x) × In a (value flat z).faults
  from_inputs x [] a l m = absurd m
  from_inputs x (z ∷ zs) a l m =
      let low : z < x = first_low flat x z zs l in
      elim ((either a (port (take x (values flat)) z).faults (all_faults (inputs_bring flat x zs))).0 m) [
        | inl here ↦ (z, low, subst (λ (b : ByNumber). In a b.faults) (value_before flat x z low) here)
        | inr later ↦ from_inputs x zs a (second_so (is_input flat x z) (list_all (is_input flat x) zs) l) later
      ]

  module _ (fine : IsFlat flat) where
    -- a vertex has the faults of its inputs
    passed_on : (y : ℕ) (v : FlatVertex) (z : ℕ) (a : Arisen ℕ) → slice_get flat.vertices y ≡ Some v → In z v.inputs → In a (value flat z).faults → In a (value flat y).faults
    passed_on y v z a g n m =
        let t = has_transform flat fine y v g in
        let ports = inputs_bring flat y v.inputs in
        subst (λ (b : ByNumber). In a b.faults) (sym (value_at flat y v g ∙ ap (λ o. at_or_nothing y o ports) t.is))
        (passes_on y (blocking (kinds_of t.transform) ports) (all_faults ports) (answers t.transform (first_rows t.transform ports) (second_rows ports)) a
        (bring_in y v.inputs z a n (are_inputs flat fine y v g) m))

    ---- where a fault arose

    arose_below : (k x : ℕ) → x < k → x < length flat.vertices → (a : Arisen ℕ) → In a (value flat x).faults → (a.vertex ≤ x) × In a (value flat a.vertex).faults
    arose_below zero x h l a m = absurd (omega arith)
    arose_below (suc k) x h l a m =
        let y = got flat.vertices x l in
        elim (brought_or_own x (transform_of flat y.0) (inputs_bring flat x y.0.inputs) a (subst (λ (b : ByNumber). In a b.faults) (value_at flat x y.0 y.1) m)) [
          | inl passed ↦
              let from = from_inputs x y.0.inputs a (are_inputs flat fine x y.0 y.1) passed in
              let low : from.0 < x = from.1 in
              let before = arose_below k from.0 (omega arith) (omega arith) a from.2 in
              let named : a.vertex ≤ from.0 = before.0 in
              (omega arith, before.1)
          | inr own ↦ (omega arith, subst (λ n. In a (value flat n).faults) (sym own) m)
        ]

    -- a fault is one of the vertex that it names, which isn't later
    pub arose : (x : ℕ) → x < length flat.vertices → (a : Arisen ℕ) → In a (value flat x).faults → (a.vertex ≤ x) × In a (value flat a.vertex).faults
    arose x l a m = arose_below (suc x) x (omega arith) l a m

    ---- sinks

    abbrev all_reached : List (Arisen ℕ)
    all_reached = flat_map (λ r. r.brought.faults) (reached flat)

    abbrev pub reaching : ℕ → FlatVertex → Option Reached
    reaching i x = under (value flat i) (sink_name (transform_of flat x))

    name_is : (o : Option Transform) → is_sink o ≡ true → (name : List ℕ) × (sink_name o ≡ Some name)
    name_is (Some (Sink name)) h = (name, refl)
    name_is (Some t) h = cc
    name_is None h = cc

    at_sink : (x : ℕ) (v : FlatVertex) (a : Arisen ℕ) → slice_get flat.vertices x ≡ Some v → is_sink (transform_of flat v) ≡ true → In a (value flat x).faults → In a all_reached
    at_sink x v a g h m =
        let n = name_is (transform_of flat v) h in
        flat_in (λ (r : Reached). r.brought.faults) a (record { name = n.0; brought = value flat x }) (reached flat)
        (chosen_there reaching flat.vertices x v (record { name = n.0; brought = value flat x }) g (ap (under (value flat x)) n.1)) m

    or_else : (b c : Bool) → (b || c) ≡ true → (b ≡ true) ⊎ (c ≡ true)
    or_else true c h = inl refl
    or_else false c h = inr h

    -- who takes what the vertex gives
    record Feeds (x : ℕ) : Type 0 where
      number : ℕ
      taker : FlatVertex
      there : slice_get flat.vertices number ≡ Some taker
      input : In x taker.inputs

    feeds : (x : ℕ) → feeds_one flat x ≡ true → Feeds x
    feeds x h =
        let p = list_any-some (λ y. list_any (λ input. input == x) y.inputs) flat.vertices h in
        let q = list_any-some (λ input. input == x) p.item.inputs p.passes in
        record { number = p.place; taker = p.item; there = p.is; input = subst (λ n. In n p.item.inputs) (eqb-true q.item x q.passes) (at_in p.item.inputs q.place q.item q.is) }

    reaches : (k x : ℕ) → length flat.vertices ≤ x + k → x < length flat.vertices → (a : Arisen ℕ) → In a (value flat x).faults → In a all_reached
    reaches zero x h l a m = absurd (omega arith)
    reaches (suc k) x h l a m =
        let v = got flat.vertices x l in
        let ends : (is_sink (transform_of flat v.0) || feeds_one flat x) ≡ true =
        ap (λ n. is_sink (transform_of flat v.0) || feeds_one flat n) (sym (from_none x)) ∙ all_at-at (λ number y. is_sink (transform_of flat y) || feeds_one flat number) 0 flat.vertices x v.0 v.1 fine.ends in
        elim (or_else (is_sink (transform_of flat v.0)) (feeds_one flat x) ends) [
          | inl sink ↦ at_sink x v.0 a v.1 sink m
          | inr feeding ↦
              let f = feeds x feeding in
              let up : x < f.number = input_low f.number f.taker.inputs x f.input (are_inputs flat fine f.number f.taker f.there) in
              let within : f.number < length flat.vertices = slice_get_within flat.vertices f.number f.taker f.there in
              reaches k f.number (omega arith) within a (passed_on f.number f.taker x a f.there f.input m)
        ]

    -- a fault of a flat vertex is one that reaches a sink
    pub reaches_sink : (x : ℕ) → x < length flat.vertices → (a : Arisen ℕ) → In a (value flat x).faults → In a (flat_arisen flat)
    reaches_sink x l a m = (in_ascending place_cmp place_strict all_reached a).1 (reaches (length flat.vertices) x (omega arith) l a m)
