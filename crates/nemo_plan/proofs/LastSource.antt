-- That no other source stands behind a stage, as far as the order was walked.
use Rattle.std.proofs.Common.{arith, ◌≡◌, ◌∙◌, ap, sym, ℕ, ◌+◌, ◌<◌, ◌≤◌, ◌&&◌, Bool, true, false, List, slice_get, Some, inl, inr}
use Rattle.std.proofs.lemmas.Bool.{cases_Bool, cases_eq}
use Rattle.nemo_plan.specs.Making.{is_marked}
use Rattle.nemo_plan.specs.Order.{place}
use Rattle.nemo_plan.proofs.Orders.{place_reaches, same_place}

-- whether the stage was passed, and that no other source was met after it
pub record IsLastSoFar (order : List ℕ) (sources : List Bool) (stage i : ℕ) (passed : Bool) : Type 0 where
  pub before : passed ≡ true → place order stage < i
  pub after : passed ≡ false → i ≤ place order stage
  pub none : (a : ℕ) → is_marked sources a ≡ true → (a ≡ stage → ⊥) → place order stage ≤ place order a → i ≤ place order a

module _ (order : List ℕ) (sources : List Bool) (stage i x : ℕ) (passed : Bool) (at : slice_get order i ≡ Some x) (so : IsLastSoFar order sources stage i passed) where
  pub last_here : x ≡ stage → IsLastSoFar order sources stage (i + 1) true
  last_here same = record {
    before = λ h. let l : place order x ≤ i = place_reaches order i x at in let e : place order x ≡ place order stage = ap (place order) same in omega arith;
    after = λ h. cc;
    none = λ a m d l.
        let low : i ≤ place order a = so.none a m d l in
        elim (cases_eq (place order a) i) [ inl e ↦ absurd (d (sym (same_place order i a x at e) ∙ same)) | inr other ↦ omega arith ];
  }

  pub last_past : (x ≡ stage → ⊥) → (passed && is_marked sources x) ≡ false → IsLastSoFar order sources stage (i + 1) passed
  last_past differs unmarked = record {
    before = λ h. let l : place order stage < i = so.before h in omega arith;
    after = λ h.
        let l : i ≤ place order stage = so.after h in
        elim (cases_eq (place order stage) i) [ inl e ↦ absurd (differs (same_place order i stage x at e)) | inr other ↦ omega arith ];
    none = λ a m d l.
        let low : i ≤ place order a = so.none a m d l in
        elim (cases_eq (place order a) i) [
          | inl e ↦ (
              let is : x ≡ a = same_place order i a x at e in
              let met : is_marked sources x ≡ true = ap (is_marked sources) is ∙ m in
              elim (cases_Bool passed) [
                | inl yes_passed ↦ absurd (let both : (passed && is_marked sources x) ≡ true = ap (λ b. b && is_marked sources x) yes_passed ∙ met in cc)
                | inr not_passed ↦ absurd (let far : i ≤ place order stage = so.after not_passed in let here : place order stage ≡ i = omega arith in differs (same_place order i stage x at here))
              ])
          | inr other ↦ omega arith
        ];
  }
