-- What a vertex keeps that joins a stage.
use Rattle.std.proofs.Common.{◌≡◌, ◌∙◌, ap, sym, subst, refl, ℕ, suc, ◌==◌, ◌&&◌, Bool, true, false, not, cond, List, [], ◌∷◌, length, slice_get, Option, Some, None, inl, inr, eq-eqb}
use Rattle.std.specs.Prelude.{◌⊎◌}
use Rattle.std.proofs.lemmas.Bool.{eqb-true, false_from_ne_true, or_cases}
use Rattle.std.proofs.lemmas.Option.{cond_some}
use Rattle.std.specs.Cmp.{first_so, second_so}
use Rattle.std.specs.List.{list_all, list_any}
use Rattle.nemo_base.specs.Places.{or_else}
use Rattle.nemo_base.specs.declared.annotation.Class.{Class}
use Rattle.nemo_base.specs.declared.annotation.Class.TheVariants.{Reserved, Transient}
use Rattle.nemo_base.specs.declared.annotation.Flow.{Flow}
use Rattle.nemo_base.specs.declared.annotation.Flow.TheVariants.{Push, Pull}
use Rattle.nemo_base.specs.declared.annotation.Pattern.{Pattern}
use Rattle.nemo_base.specs.declared.annotation.Pattern.TheVariants.{OneToOne, Broadcast, Hash, Spread}
use Rattle.nemo_value.proofs.MemberLists.{filter_in}
use Rattle.nemo_value.specs.Members.{In}
use Rattle.nemo_ir.specs.Along.{below, passes}
use Rattle.nemo_ir.specs.Flat.{FlatForm}
use Rattle.nemo_ir.specs.Nodes.{edge_at}
use Rattle.nemo_ir.specs.Uniform.{is_pull}
use Rattle.nemo_ir.specs.Valid.{is_one_to_one, kinds_at}
use Rattle.nemo_ir.specs.declared.dag.IrDag.{IrDag}
use Rattle.nemo_ir.specs.declared.dag.IrEdge.{IrEdge}
use Rattle.nemo_ir.specs.declared.dag.IrVertex.{IrVertex}
use Rattle.nemo_plan.specs.Stages.{comes_round, count_stages, first_joined, goes_on, in_edges, is_narrow_pull, is_reached, joined_at, joins_by, or_new, same_class, source_stage, stage_at, stage_step, taken_by}
use Rattle.nemo_plan.proofs.Ends.{is_no}
use Rattle.nemo_plan.proofs.Memberships.{all_in, at_in, none_in}
use Rattle.nemo_plan.proofs.Reaching.{is_stage}

---- edges

pub record IsNarrow (e : IrEdge) : Type 0 where
  pub pattern : e.pattern ≡ OneToOne
  pub flow : e.flow ≡ Pull

pub one_to_one : (p : Pattern) → is_one_to_one p ≡ true → p ≡ OneToOne
one_to_one OneToOne h = refl
one_to_one Broadcast h = cc
one_to_one Hash h = cc
one_to_one Spread h = cc

pull : (f : Flow) → is_pull f ≡ true → f ≡ Pull
pull Push h = cc
pull Pull h = refl

pub narrow : (e : IrEdge) → is_narrow_pull e ≡ true → IsNarrow e
narrow e h = record { pattern = one_to_one e.pattern (first_so (is_one_to_one e.pattern) (is_pull e.flow) h); flow = pull e.flow (second_so (is_one_to_one e.pattern) (is_pull e.flow) h) }

one_class : (a b : Class) → same_class a b ≡ true → a ≡ b
one_class Reserved Reserved h = refl
one_class Transient Transient h = refl
one_class Reserved Transient h = cc
one_class Transient Reserved h = cc

-- the first in-edge of a port, and where it stands
pub record IsEdgeAt (es : List IrEdge) (v port : ℕ) (e : IrEdge) : Type 0 where
  pub place : ℕ
  pub there : slice_get es place ≡ Some e
  pub to : e.to ≡ v
  pub fits : e.port ≡ port

pub edge_found : (es : List IrEdge) (v port : ℕ) (e : IrEdge) → edge_at es v port ≡ Some e → IsEdgeAt es v port e
edge_found [] v port e h = cc
edge_found (d ∷ es) v port e h = go ((d.to == v) && (d.port == port)) refl h (edge_found es v port e)
  where
    go : (b : Bool) → ((d.to == v) && (d.port == port)) ≡ b → cond b (Some d) (edge_at es v port) ≡ Some e → (edge_at es v port ≡ Some e → IsEdgeAt es v port e) → IsEdgeAt (d ∷ es) v port e
    go true hit g more =
        let same : d ≡ e = cc in
        record {
          place = 0;
          there = g;
          to = ap (λ (x : IrEdge). x.to) (sym same) ∙ eqb-true d.to v (first_so (d.to == v) (d.port == port) hit);
          fits = ap (λ (x : IrEdge). x.port) (sym same) ∙ eqb-true d.port port (second_so (d.to == v) (d.port == port) hit);
        }
    go false hit g more = let r = more g in record { place = suc r.place; there = r.there; to = r.to; fits = r.fits }

pub is_in_edge : (dag : IrDag) (v i : ℕ) (e : IrEdge) → slice_get dag.edges i ≡ Some e → e.to ≡ v → In e (in_edges dag v)
is_in_edge dag v i e there to = filter_in (λ d. d.to == v) e dag.edges (at_in dag.edges i e there) (eq-eqb e.to v to)

---- the stage that a vertex joins

-- vertex v, which is u, joins stage s by an edge
pub record IsJoined (dag : IrDag) (stages : List ℕ) (v : ℕ) (u : IrVertex) (s : ℕ) : Type 0 where
  pub edge : IrEdge
  pub place : ℕ
  pub there : slice_get dag.edges place ≡ Some edge
  pub to : edge.to ≡ v
  pub from : stage_at stages edge.from ≡ Some s
  pub narrow : IsNarrow edge
  pub source : IrVertex
  pub source_at : slice_get dag.vertices edge.from ≡ Some source
  pub class : source.class ≡ u.class
  pub goes_on : (i : ℕ) (e : IrEdge) → slice_get dag.edges i ≡ Some e → e.to ≡ v → stage_at stages e.from ≡ Some s → IsNarrow e
  pub no_round : (i a : ℕ) (e : IrEdge) → slice_get dag.edges i ≡ Some e → e.to ≡ v → stage_at stages e.from ≡ Some a → (a ≡ s → ⊥) → is_reached dag.edges stages s a ≡ false

module _ (dag : IrDag) (stages : List ℕ) (v : ℕ) (u : IrVertex) (s : ℕ) where
  record HasSource (e : IrEdge) : Type 0 where
    source : IrVertex
    is : slice_get dag.vertices e.from ≡ Some source
    class : source.class ≡ u.class

  source_of : (e : IrEdge) → passes (λ x. same_class x.class u.class) (slice_get dag.vertices e.from) ≡ true → HasSource e
  source_of e h = go (slice_get dag.vertices e.from) refl h
    where
      go : (o : Option IrVertex) → slice_get dag.vertices e.from ≡ o → passes (λ x. same_class x.class u.class) o ≡ true → HasSource e
      go (Some x) is g = record { source = x; is = is; class = one_class x.class u.class g }
      go None is g = cc

  goes_narrow : (e : IrEdge) → goes_on stages s e ≡ true → stage_at stages e.from ≡ Some s → IsNarrow e
  goes_narrow e h from = elim (or_cases (is_narrow_pull e) (not (passes (λ a. a == s) (stage_at stages e.from))) h) [
    | inl is ↦ narrow e is
    | inr other ↦ absurd (let here = ap not (is_stage (stage_at stages e.from) s from) in cc)
  ]

  apart : (a : ℕ) (e : IrEdge) → comes_round dag stages s e ≡ false → stage_at stages e.from ≡ Some a → (a ≡ s → ⊥) → is_reached dag.edges stages s a ≡ false
  apart a e h from d =
      false_from_ne_true (is_reached dag.edges stages s a)
      (λ r. absurd (
      let other : not (a == s) ≡ true = ap not (false_from_ne_true (a == s) (λ g. d (eqb-true a s g))) in
      let is : comes_round dag stages s e ≡ (not (a == s) && is_reached dag.edges stages s a) = ap (passes (λ b. not (b == s) && is_reached dag.edges stages s b)) from in
      let both : (not (a == s) && is_reached dag.edges stages s a) ≡ true = ap (λ b. b && is_reached dag.edges stages s a) other ∙ r in
      cc))

  joined_by : (e : IrEdge) (place : ℕ) → slice_get dag.edges place ≡ Some e → e.to ≡ v → stage_at stages e.from ≡ Some s → joins_by dag stages v u.class s e ≡ true → IsJoined dag stages v u s
  joined_by e place there to from h =
      let pull = is_narrow_pull e in
      let same = passes (λ x. same_class x.class u.class) (slice_get dag.vertices e.from) in
      let on = list_all (goes_on stages s) (in_edges dag v) in
      let round = list_any (comes_round dag stages s) (in_edges dag v) in
      let three = first_so (pull && same && on) (not round) h in
      let two = first_so (pull && same) on three in
      let source = source_of e (second_so pull same two) in
      record {
        edge = e;
        place = place;
        there = there;
        to = to;
        from = from;
        narrow = narrow e (first_so pull same two);
        source = source.source;
        source_at = source.is;
        class = source.class;
        goes_on = λ i d at d_to d_from. goes_narrow d (all_in (goes_on stages s) (in_edges dag v) d (second_so (pull && same) on three) (is_in_edge dag v i d at d_to)) d_from;
        no_round = λ i a d at d_to d_from differs.
            apart a d (none_in (comes_round dag stages s) (in_edges dag v) d (is_no round (second_so (pull && same && on) (not round) h)) (is_in_edge dag v i d at d_to)) d_from differs;
      }

  joined : (o : Option IrEdge) (port : ℕ) → edge_at dag.edges v port ≡ o → taken_by dag stages v u.class o (source_stage stages o) ≡ Some s → IsJoined dag stages v u s
  joined None port is h = cc
  joined (Some e) port is h = go (stage_at stages e.from) refl h
    where
      go : (t : Option ℕ) → stage_at stages e.from ≡ t → taken_by dag stages v u.class (Some e) t ≡ Some s → IsJoined dag stages v u s
      go None from g = cc
      go (Some t) from g =
          let both = cond_some (joins_by dag stages v u.class t e) t s g in
          let at = edge_found dag.edges v port e is in
          joined_by e at.place at.there at.to (from ∙ ap Some both.1) (subst (λ k. joins_by dag stages v u.class k e ≡ true) both.1 both.0)

pub first_of : (dag : IrDag) (stages : List ℕ) (v : ℕ) (u : IrVertex) (s : ℕ) (ports : List ℕ) → first_joined (joined_at dag stages v u.class) ports ≡ Some s → IsJoined dag stages v u s
first_of dag stages v u s [] h = cc
first_of dag stages v u s (p ∷ ps) h = go (joined_at dag stages v u.class p) refl h (first_of dag stages v u s ps)
  where
    go : (o : Option ℕ) → joined_at dag stages v u.class p ≡ o → or_else o (first_joined (joined_at dag stages v u.class) ps) ≡ Some s
        → (first_joined (joined_at dag stages v u.class) ps ≡ Some s → IsJoined dag stages v u s) → IsJoined dag stages v u s
    go (Some t) e g more = joined dag stages v u s (edge_at dag.edges v p) p refl (e ∙ g)
    go None e g more = more g

-- the stage of the next vertex is one that it joins, or the next number
pub step_cases : (flat : FlatForm) (dag : IrDag) (stages : List ℕ) (u : IrVertex) → IsJoined dag stages (length stages) u (stage_step flat dag stages u) ⊎ (stage_step flat dag stages u ≡ count_stages stages)
step_cases flat dag stages u = go (first_joined (joined_at dag stages (length stages) u.class) (below (length (kinds_at flat u)))) refl
  where
    go : (o : Option ℕ) → first_joined (joined_at dag stages (length stages) u.class) (below (length (kinds_at flat u))) ≡ o → IsJoined dag stages (length stages) u (or_new stages o) ⊎ (or_new stages o ≡ count_stages stages)
    go (Some s) e = inl (first_of dag stages (length stages) u s (below (length (kinds_at flat u))) e)
    go None e = inr refl
