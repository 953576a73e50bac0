-- The class of a vertex, edge by edge.
use Rattle.std.proofs.Common.{arith, ◌≡◌, ◌∙◌, ap, sym, refl, ℕ, ◌+◌, ◌<◌, ◌==◌, ◌&&◌, ◌||◌, Bool, true, false, cond, List, [], ◌∷◌, length, map, filter, take, drop, get_or}
use Rattle.std.proofs.Math.ListN.{set}
use Rattle.std.proofs.lemmas.List.{length-take-le}
use Rattle.std.specs.List.{list_all, list_any}
use Rattle.nemo_base.specs.declared.annotation.Class.{Class}
use Rattle.nemo_base.specs.declared.annotation.Class.TheVariants.{Reserved, Transient}
use Rattle.nemo_ir.specs.Along.{along}
use Rattle.nemo_ir.specs.Flat.{FlatForm}
use Rattle.nemo_ir.specs.Valid.{Valid}
use Rattle.nemo_ir.specs.declared.dag.IrDag.{IrDag}
use Rattle.nemo_ir.specs.declared.dag.IrEdge.{IrEdge}
use Rattle.nemo_ir.specs.declared.dag.IrVertex.{IrVertex}
use Rattle.nemo_ir.proofs.Outlines.{alike, along_set, bare, ends, keeps_valid, map_along}
use Rattle.nemo_place.specs.Classes.{IsSameButClasses, class_of, from_reserved, is_shuffle, pado_classes, with_class}

-- the class of a vertex with these in-edges and earlier ones, of which none is a shuffle: whether there are any, and
-- whether all come from Reserved vertices
abbrev pub class_with : List IrVertex → Bool → Bool → List IrEdge → Class
class_with done fed steady [] = cond (fed && steady) Reserved Transient
class_with done fed steady (e ∷ es) = cond (list_any (λ d. is_shuffle d.pattern) (e ∷ es) || (steady && list_all (from_reserved done) (e ∷ es))) Reserved Transient

pub class_start : (done : List IrVertex) (es : List IrEdge) → class_with done false true es ≡ class_of done es
class_start done [] = refl
class_start done (e ∷ es) = refl

---- a walk over vertices

pub next_class : (es into : List IrEdge) (us one two new : List IrVertex) (v : ℕ) (class : Class) (d : IrVertex) → v < length us
    → filter (λ e. e.to == v) into ≡ filter (λ e. e.to == v) es → one ≡ us → two ≡ us → class ≡ class_of (take v one) (filter (λ e. e.to == v) into)
    → new ≡ set us v (record { kind = (get_or two v d).kind; class = class; parallelism = (get_or two v d).parallelism })
    → along (with_class es) (take (v + 1) new) (drop (v + 1) new) ≡ along (with_class es) (take v us) (drop v us)
next_class es into us one two new v class d h ins one_is two_is is set_is =
    let long : length (take v us) ≡ v = length-take-le v us (omega arith) in
    let found : class ≡ class_of (take v us) (filter (λ e. e.to == length (take v us)) es) =
    is ∙ (λ i. class_of (take v (one_is i)) (ins i)) ∙ ap (λ n. class_of (take v us) (filter (λ e. e.to == n) es)) (sym long) in
    let u : IrVertex = record { kind = (get_or two v d).kind; class = class; parallelism = (get_or two v d).parallelism } in
    let same : u ≡ with_class es (take v us) (get_or us v d) = λ i. record { kind = (get_or (two_is i) v d).kind; class = found i; parallelism = (get_or (two_is i) v d).parallelism } in
    ap (λ l. along (with_class es) (take (v + 1) l) (drop (v + 1) l)) set_is ∙ along_set (with_class es) us v u d h same

---- what stays

pub classes_alone : (dag : IrDag) → IsSameButClasses dag (pado_classes dag)
classes_alone dag = record {
  kinds = map_along (λ u. u.kind) (with_class dag.edges) (λ done u. refl) [] dag.vertices;
  tasks = map_along (λ u. u.parallelism) (with_class dag.edges) (λ done u. refl) [] dag.vertices;
  edges = refl;
  rep = refl;
}

pub classes_valid : (flat : FlatForm) (dag : IrDag) → Valid flat dag → Valid flat (pado_classes dag)
classes_valid flat dag h =
    let same = map_along (bare alike alike) (with_class dag.edges) (λ done u. refl) [] dag.vertices in
    keeps_valid flat dag (pado_classes dag) (ap (λ us. record { vertices = us; edges = map (ends alike alike) dag.edges; rep = dag.rep }) (sym same)) h
