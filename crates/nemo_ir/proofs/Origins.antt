-- The least flat vertex that an Op stands for, and the flat vertices that faults name.
use Rattle.std.proofs.Common.{arith, ◌≡◌, ◌∙◌, ap, sym, subst, ℕ, zero, suc, ◌<◌, ◌≤◌, ◌==◌, List, [], ◌∷◌, length, map, take, refl, Bool, true, false, Option, Some, None, inl, inr, eq-eqb}
use Rattle.std.proofs.lemmas.Bool.{cases_lt, cond-true, eqb-true, lt-ltb}
use Rattle.std.proofs.lemmas.List.Sums.{fails_before_first, passes_at_first}
use Rattle.std.specs.Cmp.{second_so}
use Rattle.std.specs.List.{list_all, position_or_len}
use Rattle.std.specs.Prelude.{◌⊎◌, nat_lt, unwrap_or}
use Rattle.nemo_value.proofs.MemberLists.{either, map_in}
use Rattle.nemo_value.specs.Members.{In}
use Rattle.nemo_transform.specs.Brought.{Arisen, all_faults, arisen, blocking, brought_by, first_rows, port, second_rows}
use Rattle.nemo_transform.specs.Gives.{Answer, answers, own_faults}
use Rattle.nemo_transform.specs.Ports.{kinds_of}
use Rattle.nemo_transform.specs.declared.transform.Transform.{Transform}
use Rattle.nemo_ir.specs.Flat.{FlatForm, IsFlat, is_input, transform_of}
use Rattle.nemo_ir.specs.Nodes.{rep_of}
use Rattle.nemo_ir.specs.Rewrites.{called}
use Rattle.nemo_ir.specs.Value.{ByNumber, at_or_nothing, value, values}
use Rattle.nemo_ir.specs.declared.dag.IrDag.{IrDag}
use Rattle.nemo_ir.proofs.Places.{got}
use Rattle.nemo_ir.proofs.Reps.{are_inputs, first_low}
use Rattle.nemo_ir.proofs.Steps.{inputs_bring, value_at, value_before}

---- names

-- the Op that stands for x stands for the flat vertex by which x is called, which isn't later
pub record IsLeast (dag : IrDag) (x : ℕ) : Type 0 where
  pub least : called dag x ≤ x
  pub stands : rep_of dag (called dag x) ≡ rep_of dag x

pub least_of : (dag : IrDag) (x : ℕ) → x < length dag.rep → IsLeast dag x
least_of dag x l =
    let v = rep_of dag x in
    let test : ℕ → Bool = λ r. r == v in
    let first : ℕ = position_or_len test dag.rep in
    let not_after : first ≤ x = elim (cases_lt x first) [
      | inl less ↦ absurd (let fails : (rep_of dag x == v) ≡ false = fails_before_first test dag.rep x 0 less in let is : (v == v) ≡ true = eq-eqb v v refl in cc)
      | inr more ↦ more
    ] in
    let inside : first < length dag.rep = omega arith in
    let is : called dag x ≡ first = ap (λ o. unwrap_or o 0) (cond-true (nat_lt first (length dag.rep)) (Some first) None (lt-ltb first (length dag.rep) inside)) in
    record {
      least = subst (λ n. n ≤ x) (sym is) not_after;
      stands = ap (rep_of dag) is ∙ eqb-true (rep_of dag first) v (passes_at_first test dag.rep 0 inside);
    }

---- faults

-- a fault of a vertex is passed on, or its own
passed_or_own : (x : ℕ) (blocks passed : List (Arisen ℕ)) (given : List Answer) (a : Arisen ℕ) → In a (brought_by x blocks passed given).faults → In a passed ⊎ (a.vertex ≡ x)
passed_or_own x [] passed given a m = elim ((either a passed (map (arisen x) (own_faults given))).0 m) [
  | inl before ↦ inl before
  | inr own ↦ inr (ap (λ (z : Arisen ℕ). z.vertex) (map_in (arisen x) a (own_faults given) own).2)
]
passed_or_own x (b ∷ bs) passed given a m = inl m

brought_or_own : (x : ℕ) (o : Option Transform) (ports : List ByNumber) (a : Arisen ℕ) → In a (at_or_nothing x o ports).faults → In a (all_faults ports) ⊎ (a.vertex ≡ x)
brought_or_own x None ports a m = absurd m
brought_or_own x (Some t) ports a m = passed_or_own x (blocking (kinds_of t) ports) (all_faults ports) (answers t (first_rows t ports) (second_rows ports)) a m

module _ (flat : FlatForm) where
  -- a fault that an input brings
  from_inputs : (x : ℕ) (zs : List ℕ) (a : Arisen ℕ) → list_all (is_input flat x) zs ≡ true → In a (all_faults (inputs_bring flat x zs)) → (z : ℕ) × (z < x) × In a (value flat z).faults
  from_inputs x [] a l m = absurd m
  from_inputs x (z ∷ zs) a l m =
      let low : z < x = first_low flat x z zs l in
      elim ((either a (port (take x (values flat)) z).faults (all_faults (inputs_bring flat x zs))).0 m) [
        | inl here ↦ (z, low, subst (λ (b : ByNumber). In a b.faults) (value_before flat x z low) here)
        | inr later ↦ from_inputs x zs a (second_so (is_input flat x z) (list_all (is_input flat x) zs) l) later
      ]

  module _ (fine : IsFlat flat) where
    names_step : (x : ℕ) → x < length flat.vertices → ((z : ℕ) → z < x → (a : Arisen ℕ) → In a (value flat z).faults → a.vertex ≤ z) → (a : Arisen ℕ) → In a (value flat x).faults → a.vertex ≤ x
    names_step x l before a m =
        let y = got flat.vertices x l in
        let ports = inputs_bring flat x y.0.inputs in
        elim (brought_or_own x (transform_of flat y.0) ports a (subst (λ (b : ByNumber). In a b.faults) (value_at flat x y.0 y.1) m)) [
          | inl passed ↦
              let from = from_inputs x y.0.inputs a (are_inputs flat fine x y.0 y.1) passed in
              let low : from.0 < x = from.1 in
              let named : a.vertex ≤ from.0 = before from.0 from.1 a from.2 in
              omega arith
          | inr own ↦ omega arith
        ]

    names_below : (k x : ℕ) → x < k → x < length flat.vertices → (a : Arisen ℕ) → In a (value flat x).faults → a.vertex ≤ x
    names_below zero x h l a m = absurd (omega arith)
    names_below (suc k) x h l a m = names_step x l (λ z g. names_below k z (omega arith) (omega arith)) a m

    -- a fault of a flat vertex names it or an earlier one
    pub names_low : (x : ℕ) → x < length flat.vertices → (a : Arisen ℕ) → In a (value flat x).faults → a.vertex ≤ x
    names_low x l a m = names_below (suc x) x (omega arith) l a m
