-- What a stage reads, against the in-edges of its vertices.
use Rattle.std.proofs.Common.{◌≡◌, ◌∙◌, ap, sym, subst, refl, ℕ, ◌<◌, ◌==◌, Bool, true, false, not, cond, List, length, slice_get, Option, Some, None, eq-eqb}
use Rattle.std.proofs.lemmas.Bool.{eqb-true, false_from_ne_true, not_from_false}
use Rattle.std.proofs.lemmas.Option.{slice_get_within}
use Rattle.nemo_base.specs.declared.graph.Read.{Read}
use Rattle.nemo_value.specs.Members.{In}
use Rattle.nemo_value.proofs.MemberLists.{chosen_in, filter_in, flat_in, in_chosen, in_flat, passes as passed_filter}
use Rattle.nemo_ir.specs.Along.{below, passes}
use Rattle.nemo_ir.specs.Flat.{FlatForm}
use Rattle.nemo_ir.specs.Nodes.{edge_at}
use Rattle.nemo_ir.specs.Valid.{kinds_at}
use Rattle.nemo_ir.specs.declared.dag.IrDag.{IrDag}
use Rattle.nemo_ir.specs.declared.dag.IrEdge.{IrEdge}
use Rattle.nemo_ir.specs.declared.dag.IrVertex.{IrVertex}
use Rattle.nemo_plan.specs.Graph.{leaves, read_along, reads_into, reads_of, vertices_of}
use Rattle.nemo_plan.specs.Stages.{stage_at}
use Rattle.nemo_plan.specs.Wiring.{IsReadFrom, read_by}
use Rattle.nemo_ir.proofs.Places.{same_item}
use Rattle.nemo_plan.proofs.Joining.{edge_found}
use Rattle.nemo_plan.proofs.Memberships.{below_in}
use Rattle.nemo_plan.proofs.Reaching.{is_stage, stage_is}

---- the vertices of a stage

pub vertex_in : (stages : List ℕ) (s v : ℕ) → In v (vertices_of stages s) → stage_at stages v ≡ Some s
vertex_in stages s v m = stage_is (stage_at stages v) s (passed_filter (λ w. passes (λ a. a == s) (stage_at stages w)) v (below (length stages)) m)

pub in_vertices : (stages : List ℕ) (s v : ℕ) → stage_at stages v ≡ Some s → In v (vertices_of stages s)
in_vertices stages s v e =
    filter_in (λ w. passes (λ a. a == s) (stage_at stages w)) v (below (length stages)) (below_in (length stages) v (slice_get_within stages v s e)) (is_stage (stage_at stages v) s e)

---- edges that leave a stage

-- an edge that leads from one stage to another
pub record Leaves (stages : List ℕ) (e : IrEdge) : Type 0 where
  pub before : ℕ
  pub stage : ℕ
  pub from : stage_at stages e.from ≡ Some before
  pub to : stage_at stages e.to ≡ Some stage
  pub differs : before ≡ stage → ⊥

pub leaves_from : (stages : List ℕ) (a b : ℕ) (e : IrEdge) → stage_at stages e.from ≡ Some a → stage_at stages e.to ≡ Some b → (a ≡ b → ⊥) → leaves stages e ≡ true
leaves_from stages a b e from to d =
    ap (passes (λ x. passes (λ y. not (x == y)) (stage_at stages e.to))) from ∙ ap (passes (λ y. not (a == y))) to ∙ not_from_false (a == b) (false_from_ne_true (a == b) (λ h. d (eqb-true a b h)))

pub does_leave : (stages : List ℕ) (e : IrEdge) → leaves stages e ≡ true → Leaves stages e
does_leave stages e h = go (stage_at stages e.from) (stage_at stages e.to) refl refl h
  where
    go : (o p : Option ℕ) → stage_at stages e.from ≡ o → stage_at stages e.to ≡ p → passes (λ x. passes (λ y. not (x == y)) p) o ≡ true → Leaves stages e
    go (Some a) (Some b) from to g = record { before = a; stage = b; from = from; to = to; differs = λ same. absurd (let is = ap not (eq-eqb a b same) in cc) }
    go (Some a) None from to g = cc
    go None p from to g = cc

---- reads

module _ (flat : FlatForm) (dag : IrDag) (stages : List ℕ) where
  along_edge : (s v port : ℕ) (r : Read) → stage_at stages v ≡ Some s → (o : Option IrEdge) → edge_at dag.edges v port ≡ o → read_along stages o ≡ Some r → IsReadFrom dag stages s r
  along_edge s v port r in_v None at h = cc
  along_edge s v port r in_v (Some e) at h = go (leaves stages e) refl h
    where
      go : (b : Bool) → leaves stages e ≡ b → cond b (Some (read_by e.from e.pattern)) None ≡ Some r → IsReadFrom dag stages s r
      go false l g = cc
      go true l g =
          let found = edge_found dag.edges v port e at in
          let left = does_leave stages e l in
          let in_s : left.stage ≡ s = same_item left.stage s (sym left.to ∙ ap (stage_at stages) found.to ∙ in_v) in
          record {
            edge = e;
            place = found.place;
            there = found.there;
            is = sym (same_item (read_by e.from e.pattern) r g);
            before = left.before;
            from = left.from;
            to = left.to ∙ ap Some in_s;
            differs = λ d. left.differs (d ∙ sym in_s);
          }

  into_vertex : (s v : ℕ) (r : Read) → stage_at stages v ≡ Some s → (o : Option IrVertex) → In r (reads_into flat dag stages v o) → IsReadFrom dag stages s r
  into_vertex s v r in_v None m = absurd m
  into_vertex s v r in_v (Some u) m =
      let port = in_chosen (λ p. read_along stages (edge_at dag.edges v p)) r (below (length (kinds_at flat u))) m in
      along_edge s v port.0 r in_v (edge_at dag.edges v port.0) refl port.2

  pub read_of : (s : ℕ) (r : Read) → In r (reads_of flat dag stages s) → IsReadFrom dag stages s r
  read_of s r m =
      let v = in_flat (λ w. reads_into flat dag stages w (slice_get dag.vertices w)) r (vertices_of stages s) m in
      into_vertex s v.0 r (vertex_in stages s v.0 v.1) (slice_get dag.vertices v.0) v.2

  -- an in-edge of a port that comes from another stage is read
  pub edge_read : (a s v port : ℕ) (u : IrVertex) (e : IrEdge) → slice_get dag.vertices v ≡ Some u → port < length (kinds_at flat u) → edge_at dag.edges v port ≡ Some e → e.to ≡ v
      → stage_at stages e.from ≡ Some a → stage_at stages v ≡ Some s → (a ≡ s → ⊥) → In (read_by e.from e.pattern) (reads_of flat dag stages s)
  edge_read a s v port u e at_v within at to from in_v d =
      let r = read_by e.from e.pattern in
      let left : leaves stages e ≡ true = leaves_from stages a s e from (ap (stage_at stages) to ∙ in_v) d in
      let along : read_along stages (edge_at dag.edges v port) ≡ Some r = ap (read_along stages) at ∙ ap (λ b. cond b (Some r) None) left in
      flat_in (λ w. reads_into flat dag stages w (slice_get dag.vertices w)) r v (vertices_of stages s) (in_vertices stages s v in_v)
      (subst (λ o. In r (reads_into flat dag stages v o)) (sym at_v)
      (chosen_in (λ p. read_along stages (edge_at dag.edges v p)) r port (below (length (kinds_at flat u))) (below_in (length (kinds_at flat u)) port within) along))
