-- The one sink of a line, and what reaches it.
use Rattle.std.proofs.Common.{arith, ◌≡◌, ◌∙◌, ap, sym, refl, ℕ, suc, ◌-◌, ◌<◌, ◌≤◌, List, [], ◌∷◌, ◌++◌, length, map, slice_get, true, false, Option, Some, None, Ordering}
use Rattle.std.specs.BTreeSet.{insert_key}
use Rattle.std.specs.Ordering.{match_ordering}
use Rattle.std.specs.declared.cmp.Ordering.TheVariants.{Less, Equal, Greater}
use Rattle.std.specs.List.{flat_map}
use Rattle.nemo_value.specs.Ascending.{ascending}
use Rattle.nemo_transform.specs.Brought.{Arisen}
use Rattle.nemo_transform.specs.declared.transform.Transform.{Transform}
use Rattle.nemo_transform.specs.declared.transform.Transform.TheVariants.{Sink}
use Rattle.nemo_ir.specs.Flat.{is_sink, sink_name, transform_of}
use Rattle.nemo_ir.specs.Value.{value}
use Rattle.nemo_ir.specs.declared.flat.FlatVertex.{FlatVertex}
use Rattle.nemo_ir.proofs.Places.{from_none, last_only, same_item}
use Rattle.nemo_transform.specs.ArisenOrder.{place_cmp}
use Rattle.nemo_ir.specs.Meaning.{Reached, by_path, flat_arisen, flat_faults, reached, under}
use Rattle.nemo_plan.specs.Form.{PlanForm}
use Rattle.nemo_plan.proofs.Ends.{last_sink, no_sink}
use Rattle.nemo_replay.specs.StageRun.{IsOneStage}
use Rattle.nemo_replay.proofs.OneStage.{count, stage_plan, stands}

---- the sink of a line

nameless : (o : Option Transform) → is_sink o ≡ false → sink_name o ≡ None
nameless (Some (Sink name)) h = cc
nameless (Some t) h = refl
nameless None h = refl

named : (o : Option Transform) → is_sink o ≡ true → (name : List ℕ) × (o ≡ Some (Sink name))
named (Some (Sink name)) h = (name, refl)
named (Some t) h = cc
named None h = cc

-- the last vertex with its name
pub record HasEnd (p : PlanForm) : Type 0 where
  pub name : List ℕ
  pub inner : (v : ℕ) (x : FlatVertex) → slice_get p.flat.vertices v ≡ Some x → suc v < count p → sink_name (transform_of p.flat x) ≡ None
  pub last : (v : ℕ) (x : FlatVertex) → slice_get p.flat.vertices v ≡ Some x → suc v ≡ count p → transform_of p.flat x ≡ Some (Sink name)

pub end_of : (p : PlanForm) → IsOneStage p → HasEnd p
end_of p o =
    let plan = stage_plan p o in
    let size : length p.flat.vertices ≡ count p = plan.flat_count in
    let some : 1 ≤ count p = plan.some in
    let at_end : suc (count p - 1) ≡ count p = omega arith in
    let s = stands p o (count p - 1) (omega arith) in
    let sink = named (transform_of p.flat s.copy) (last_sink p.flat o.flat o.line (count p - 1) s.copy s.copy_at (omega arith)) in
    record {
      name = sink.0;
      inner = λ v x e l. nameless (transform_of p.flat x) (no_sink p.flat o.flat o.line v x e (omega arith));
      last = λ v x e l.
          let here : v ≡ count p - 1 = omega arith in
          ap (transform_of p.flat) (same_item x s.copy (sym e ∙ ap (slice_get p.flat.vertices) here ∙ s.copy_at)) ∙ sink.1;
    }

---- what reaches it

-- what reaches the one sink
pub one_reached : (p : PlanForm) (o : IsOneStage p) → reached p.flat ≡ record { name = (end_of p o).name; brought = value p.flat (count p - 1) } ∷ []
one_reached p o =
    let flat = p.flat in
    let size : length flat.vertices ≡ count p = (stage_plan p o).flat_count in
    let some : 1 ≤ count p = (stage_plan p o).some in
    let end = end_of p o in
    let make : ℕ → FlatVertex → Option Reached = λ i x. under (value flat i) (sink_name (transform_of flat x)) in
    last_only make 0 flat.vertices (record { name = end.name; brought = value flat (count p - 1) })
    (λ i x e l. ap (λ j. make j x) (from_none i) ∙ ap (under (value flat i)) (end.inner i x e (omega arith)))
    (λ i x e l.
    let here : i ≡ count p - 1 = omega arith in
    ap (λ j. make j x) (from_none i) ∙ ap (λ t. under (value flat i) (sink_name t)) (end.last i x e (omega arith)) ∙ ap (λ j. Some (record { name = end.name; brought = value flat j })) here)
    (omega arith)

placed_some : {X : Type 0} (R : X → X → Ordering) (l : List X) (x : X) → insert_key R l x ≡ [] → ⊥
placed_some R [] x e = cc
placed_some R (y ∷ ys) x e = go (R x y) e
  where
    go : (r : Ordering) → match_ordering r (x ∷ y ∷ ys) (y ∷ ys) (y ∷ insert_key R ys x) ≡ [] → ⊥
    go Less h = cc
    go Equal h = cc
    go Greater h = cc

none_ascends : {X : Type 0} (R : X → X → Ordering) (xs : List X) → ascending R xs ≡ [] → xs ≡ []
none_ascends R [] e = refl
none_ascends R (x ∷ xs) e = absurd (placed_some R (ascending R xs) x e)

none_mapped : {X Y : Type 0} (f : X → Y) (xs : List X) → map f xs ≡ [] → xs ≡ []
none_mapped f [] e = refl
none_mapped f (x ∷ xs) e = cc

none_joined : {X : Type 0} (xs : List X) → xs ++ [] ≡ [] → xs ≡ []
none_joined [] e = refl
none_joined (x ∷ xs) e = cc

-- where no fault reaches a sink, the last vertex has none
pub end_clean : (p : PlanForm) (o : IsOneStage p) → flat_faults p.flat ≡ [] → (value p.flat (count p - 1)).faults ≡ []
end_clean p o e =
    let all : List Reached → List (Arisen ℕ) = λ rs. flat_map (λ r. r.brought.faults) rs in
    none_joined (value p.flat (count p - 1)).faults
    (sym (ap all (one_reached p o)) ∙ none_ascends place_cmp (all (reached p.flat)) (none_mapped (by_path p.flat) (flat_arisen p.flat) e))
