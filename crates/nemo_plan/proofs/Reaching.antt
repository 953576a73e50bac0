-- Along an order of the stages in which every edge between stages goes forward, steps enough reach all that can be reached.
use Rattle.std.proofs.Common.{arith, ◌≡◌, ◌∙◌, ap, sym, subst, refl, ℕ, zero, suc, ◌+◌, ◌<◌, ◌≤◌, ◌==◌, ◌&&◌, true, List, length, Option, Some, None, inl, inr, eq-eqb}
use Rattle.std.specs.Prelude.{◌↔◌}
use Rattle.std.proofs.lemmas.Bool.{and_from, cases_eq, eqb-true, or_cases, or_left, or_right}
use Rattle.std.specs.Cmp.{first_so, second_so}
use Rattle.std.specs.List.{list_any}
use Rattle.nemo_ir.specs.Along.{passes}
use Rattle.nemo_ir.specs.declared.dag.IrEdge.{IrEdge}
pub use Rattle.nemo_plan.specs.Order.{IsForward}
use Rattle.nemo_plan.specs.Reach.{Reach, here, on}
use Rattle.nemo_plan.specs.Stages.{count_stages, is_reached, joins_stages, reached_in, stage_at}
use Rattle.nemo_ir.proofs.Places.{list_any-at}
use Rattle.nemo_plan.proofs.Lists.{list_any-some}
use Rattle.nemo_plan.proofs.Orders.{place, place_low}

---- the stages at the ends of an edge

pub stage_is : (o : Option ℕ) (s : ℕ) → passes (λ a. a == s) o ≡ true → o ≡ Some s
stage_is (Some a) s h = ap Some (eqb-true a s h)
stage_is None s h = cc

pub is_stage : (o : Option ℕ) (s : ℕ) → o ≡ Some s → passes (λ a. a == s) o ≡ true
is_stage o s e = ap (passes (λ a. a == s)) e ∙ eq-eqb s s refl

pub record JoinsStages (stages : List ℕ) (s t : ℕ) (e : IrEdge) : Type 0 where
  pub from : stage_at stages e.from ≡ Some s
  pub to : stage_at stages e.to ≡ Some t

pub joins_at : (stages : List ℕ) (s t : ℕ) (e : IrEdge) → joins_stages stages s t e ≡ true → JoinsStages stages s t e
joins_at stages s t e h = record { from = stage_is (stage_at stages e.from) s (first_so _ _ h); to = stage_is (stage_at stages e.to) t (second_so _ _ h) }

pub joins_from : (stages : List ℕ) (s t : ℕ) (e : IrEdge) → stage_at stages e.from ≡ Some s → stage_at stages e.to ≡ Some t → joins_stages stages s t e ≡ true
joins_from stages s t e a b = and_from (passes (λ c. c == s) (stage_at stages e.from)) (passes (λ c. c == t) (stage_at stages e.to)) (is_stage _ s a) (is_stage _ t b)

---- what is reached can be reached

module _ (es : List IrEdge) (stages : List ℕ) where
  reached_reach : (n s t : ℕ) → reached_in es stages n s t ≡ true → Reach es stages s t
  reached_reach zero s t h = subst (Reach es stages s) (eqb-true s t h) (here s)
  reached_reach (suc n) s t h = elim (or_cases (reached_in es stages n s t) (list_any (λ m. reached_in es stages n s m && list_any (joins_stages stages m t) es) stages) h) [
    | inl before ↦ reached_reach n s t before
    | inr more ↦
        let stage = list_any-some (λ m. reached_in es stages n s m && list_any (joins_stages stages m t) es) stages more in
        let m = stage.item in
        let edge = list_any-some (joins_stages stages m t) es (second_so (reached_in es stages n s m) (list_any (joins_stages stages m t) es) stage.passes) in
        on s m t edge.place edge.item (reached_reach n s m (first_so (reached_in es stages n s m) (list_any (joins_stages stages m t) es) stage.passes)) edge.is edge.passes
  ]

  reached_self : (n s : ℕ) → reached_in es stages n s s ≡ true
  reached_self zero s = eq-eqb s s refl
  reached_self (suc n) s = or_left (reached_in es stages n s s) (list_any (λ m. reached_in es stages n s m && list_any (joins_stages stages m s) es) stages) (reached_self n s)

module _ (es : List IrEdge) (stages order : List ℕ) (forward : IsForward es stages order) where
  -- what can be reached stands no earlier
  pub reach_rises : (s t : ℕ) → Reach es stages s t → place order s ≤ place order t
  reach_rises s t (here u) = omega arith
  reach_rises s t (on u m w i e before there joins) = elim (cases_eq m w) [
    | inl same ↦ subst (λ k. place order u ≤ place order k) same (reach_rises u m before)
    | inr other ↦
        let ends = joins_at stages m w e joins in
        let low : place order u ≤ place order m = reach_rises u m before in
        let less : place order m < place order w = forward.rises i m w e there ends.from ends.to other in
        omega arith
  ]

  pub no_circle : (s t : ℕ) → Reach es stages s t → Reach es stages t s → s ≡ t
  no_circle s t (here u) back = refl
  no_circle s t (on u m w i e before there joins) back = elim (cases_eq m w) [
    | inl same ↦ no_circle u m before (subst (λ k. Reach es stages k u) (sym same) back) ∙ same
    | inr other ↦
        let ends = joins_at stages m w e joins in
        let low : place order u ≤ place order m = reach_rises u m before in
        let less : place order m < place order w = forward.rises i m w e there ends.from ends.to other in
        let round : place order w ≤ place order u = reach_rises w u back in
        absurd (omega arith)
  ]

  reach_reached : (n s t : ℕ) → Reach es stages s t → place order t ≤ place order s + n → reached_in es stages n s t ≡ true
  reach_reached n s t (here u) l = reached_self es stages n u
  reach_reached n s t (on u m w i e before there joins) l = elim (cases_eq m w) [
    | inl same ↦ subst (λ k. reached_in es stages n u k ≡ true) same (reach_reached n u m before (subst (λ k. place order k ≤ place order u + n) (sym same) l))
    | inr other ↦
        let ends = joins_at stages m w e joins in
        let less : place order m < place order w = forward.rises i m w e there ends.from ends.to other in
        let low : place order u ≤ place order m = reach_rises u m before in
        go (λ k h. reach_reached k u m before h) n l less low ends.from
  ]
    where
      go : ((k : ℕ) → place order m ≤ place order u + k → reached_in es stages k u m ≡ true) → (k : ℕ) → place order w ≤ place order u + k → place order m < place order w → place order u ≤ place order m → stage_at stages e.from ≡ Some m → reached_in es stages k u w ≡ true
      go sooner zero l less low from = absurd (omega arith)
      go sooner (suc k) l less low from =
          let earlier : reached_in es stages k u m ≡ true = sooner k (omega arith) in
          let last : list_any (joins_stages stages m w) es ≡ true = list_any-at (joins_stages stages m w) es i e there joins in
          or_right (reached_in es stages k u w) (list_any (λ x. reached_in es stages k u x && list_any (joins_stages stages x w) es) stages)
          (list_any-at (λ x. reached_in es stages k u x && list_any (joins_stages stages x w) es) stages e.from m from
          (and_from (reached_in es stages k u m) (list_any (joins_stages stages m w) es) earlier last))

  pub reach_is : count_stages stages ≤ length stages → (s t : ℕ) → (is_reached es stages s t ≡ true) ↔ Reach es stages s t
  reach_is few s t = (
    reached_reach es stages (length stages) s t,
    λ r.
        let low : place order t ≤ length order = place_low order t in
        let size : length order ≡ count_stages stages = forward.count in
        reach_reached (length stages) s t r (omega arith),
  )
