-- The plain DAG of a line is valid.
use Rattle.std.proofs.Common.{◌≡◌, ◌∙◌, ap, sym, subst, refl, ℕ, zero, suc, ◌≤◌, ◌==◌, ◌||◌, List, [], ◌∷◌, map, slice_get, not, Bool, true, false, Some}
use Rattle.std.proofs.lemmas.List.{length-map}
use Rattle.nemo_base.specs.declared.annotation.Pattern.{Pattern}
use Rattle.nemo_transform.specs.declared.shape.PortKind.{PortKind}
use Rattle.nemo_transform.specs.declared.shape.PortKind.TheVariants.{Main, Keyed, Side}
use Rattle.nemo_ir.specs.Along.{along}
use Rattle.nemo_ir.specs.Flat.{FlatForm, IsFlat}
use Rattle.nemo_ir.specs.Valid.{Valid, is_one_to_one, takes}
use Rattle.nemo_ir.specs.declared.dag.IrEdge.{IrEdge}
use Rattle.nemo_ir.specs.declared.dag.IrVertex.{IrVertex}
use Rattle.nemo_flat.specs.FirstDag.{op_of}
use Rattle.nemo_ir.specs.Line.{IsLine}
use Rattle.nemo_ir.proofs.Places.{same_item}
use Rattle.nemo_policy.specs.Passes.{kind_into, pattern_by, plain_dag, set_pattern, set_tasks, parallelism_at}
use Rattle.nemo_flat.proofs.LinePath.{IsPath, edges_from, line_start}
use Rattle.nemo_flat.proofs.LineValid.{IsOps, Serves, ops_valid}
use Rattle.nemo_policy.proofs.Vertices.{stand_along}

pub parallelism_get : (us : List IrVertex) (v : ℕ) (u : IrVertex) → slice_get us v ≡ Some u → parallelism_at us v ≡ u.parallelism
parallelism_get [] v u g = cc
parallelism_get (w ∷ us) zero u g = ap (λ x. x.parallelism) (same_item w u g)
parallelism_get (w ∷ us) (suc v) u g = parallelism_get us v u g

taken : (level : Bool) (old : Pattern) (k : PortKind) → takes k (pattern_by level old (Some k)) ≡ true
taken true old Main = refl
taken false old Main = refl
taken level old Keyed = refl
taken level old Side = refl

leveled : (level : Bool) (old : Pattern) (k : PortKind) → (not (is_one_to_one (pattern_by level old (Some k))) || level) ≡ true
leveled true old Main = refl
leveled false old Main = refl
leveled level old Keyed = refl
leveled level old Side = refl

path_patterns : (flat : FlatForm) (us : List IrVertex) (k : ℕ) (es : List IrEdge) → IsPath k es → IsPath k (map (set_pattern flat us) es)
path_patterns flat us k [] h = tt
path_patterns flat us k (e ∷ es) h = (h.0, h.1, h.2, path_patterns flat us (suc k) es h.3)

-- an edge has the pattern that set_patterns gives it
pub record HasPattern (flat : FlatForm) (us : List IrVertex) (e : IrEdge) : Type 0 where
  pub old : Pattern
  pub is : e.pattern ≡ pattern_by (parallelism_at us e.from == parallelism_at us e.to) old (kind_into flat e (slice_get us e.to))

patterned : (flat : FlatForm) (us : List IrVertex) (es : List IrEdge) (i : ℕ) (e : IrEdge) → slice_get (map (set_pattern flat us) es) i ≡ Some e → HasPattern flat us e
patterned flat us [] i e g = cc
patterned flat us (d ∷ es) zero e g = subst (HasPattern flat us) (same_item (set_pattern flat us d) e g) (record { old = d.pattern; is = refl })
patterned flat us (d ∷ es) (suc i) e g = patterned flat us es i e g

plain_is : (flat : FlatForm) (p : ℕ) → IsFlat flat → IsLine flat → 1 ≤ p → p ≤ 64 → IsOps flat (plain_dag flat p)
plain_is flat p f line some few =
    let first = edges_from flat 0 flat.vertices in
    let us = along (set_tasks flat p first) [] (map op_of flat.vertices) in
    let l = line_start flat line f.some in
    record {
      stand = stand_along flat p first [] [] flat.vertices (record { some = some; few = few }) tt;
      path = path_patterns flat us 0 first l.path;
      size = ap suc (length-map first (set_pattern flat us)) ∙ l.size;
      rep = refl;
      patterns = λ i e u w k g source target kind.
          let q = patterned flat us first i e g in
          let level = parallelism_at us e.from == parallelism_at us e.to in
          let is : e.pattern ≡ pattern_by (u.parallelism == w.parallelism) q.old (Some k) =
          q.is ∙ ap (λ o. pattern_by level q.old (kind_into flat e o)) target ∙ ap (pattern_by level q.old) kind
          ∙ ap (λ n. pattern_by (n == parallelism_at us e.to) q.old (Some k)) (parallelism_get us e.from u source)
          ∙ ap (λ n. pattern_by (u.parallelism == n) q.old (Some k)) (parallelism_get us e.to w target) in
          subst (λ c. Serves c u.parallelism w.parallelism k) (sym is) (record { taken = taken (u.parallelism == w.parallelism) q.old k; level = leveled (u.parallelism == w.parallelism) q.old k });
    }

pub plain_valid : (flat : FlatForm) (p : ℕ) → IsFlat flat → IsLine flat → 1 ≤ p → p ≤ 64 → Valid flat (plain_dag flat p)
plain_valid flat p f line some few = ops_valid flat (plain_dag flat p) f line (plain_is flat p f line some few)
