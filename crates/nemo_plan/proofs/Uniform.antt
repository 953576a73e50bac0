-- Uniform DAGs, vertex by vertex and edge by edge.
use Rattle.std.proofs.Common.{arith, ◌≡◌, ◌∙◌, ap, sym, refl, ℕ, suc, ◌+◌, ◌<◌, ◌==◌, ◌&&◌, List, [], ◌∷◌, ◌++◌, append-nil, append_assoc, length, cond, slice_get, slice_index_or, true, Some, nat_lt, length-append}
use Rattle.std.proofs.lemmas.Bool.{eqb-true, ltb-true}
use Rattle.std.proofs.lemmas.Option.{get_or_from_slice_get, slice_get_within}
use Rattle.std.specs.Cmp.{first_so, second_so}
use Rattle.std.specs.List.{list_all}
use Rattle.nemo_base.specs.declared.annotation.Class.{Class}
use Rattle.nemo_base.specs.declared.annotation.Class.TheVariants.{Reserved, Transient}
use Rattle.nemo_base.specs.declared.annotation.Flow.{Flow}
use Rattle.nemo_base.specs.declared.annotation.Flow.TheVariants.{Push, Pull}
use Rattle.nemo_base.specs.declared.annotation.Keep.{Keep as KeepOf}
use Rattle.nemo_base.specs.declared.annotation.Keep.TheVariants.{Keep, Discard}
use Rattle.nemo_base.specs.declared.annotation.Pattern.{Pattern}
use Rattle.nemo_base.specs.declared.annotation.Pattern.TheVariants.{OneToOne, Broadcast, Hash, Spread}
use Rattle.nemo_ir.specs.Along.{along, below, counted, passes}
use Rattle.nemo_ir.specs.Flat.{FlatForm}
use Rattle.nemo_ir.specs.Nodes.{edge_at, is_utility, producer, resolve, resolve_step}
use Rattle.nemo_ir.specs.Uniform.{first_tasks, is_kept, is_op, is_pull, is_transient, is_uniform, is_uniform_edge, is_uniform_op}
use Rattle.nemo_ir.specs.Valid.{Valid, is_one_to_one, rises}
use Rattle.nemo_ir.specs.declared.dag.IrDag.{IrDag}
use Rattle.nemo_ir.specs.declared.dag.IrEdge.{IrEdge}
use Rattle.nemo_ir.specs.declared.dag.IrVertex.{IrVertex}
use Rattle.nemo_ir.specs.declared.dag.VertexKind.{VertexKind}
use Rattle.nemo_ir.specs.declared.dag.VertexKind.TheVariants.{Op, Relay, Trigger}
use Rattle.nemo_ir.proofs.Places.{below_get}
use Rattle.nemo_ir.proofs.Places.{list_all-at}

---- vertices

-- an Op of n tasks on transient machines
pub record IsTransientOp (n : ℕ) (u : IrVertex) : Type 0 where
  pub number : ℕ
  pub kind : u.kind ≡ Op number
  pub class : u.class ≡ Transient
  pub tasks : u.parallelism ≡ n

op_is : (k : VertexKind) → is_op k ≡ true → (number : ℕ) × (k ≡ Op number)
op_is (Op number) h = (number, refl)
op_is Relay h = cc
op_is Trigger h = cc

class_is : (c : Class) → is_transient c ≡ true → c ≡ Transient
class_is Transient h = refl
class_is Reserved h = cc

transient_op : (n : ℕ) (u : IrVertex) → is_uniform_op n u ≡ true → IsTransientOp n u
transient_op n u h =
    let both = first_so (is_op u.kind && is_transient u.class) (u.parallelism == n) h in
    let op = op_is u.kind (first_so (is_op u.kind) (is_transient u.class) both) in
    record {
      number = op.0;
      kind = op.1;
      class = class_is u.class (second_so (is_op u.kind) (is_transient u.class) both);
      tasks = eqb-true u.parallelism n (second_so (is_op u.kind && is_transient u.class) (u.parallelism == n) h);
    }

all_ops : (dag : IrDag) → is_uniform dag ≡ true → list_all (is_uniform_op (first_tasks dag.vertices)) dag.vertices ≡ true
all_ops dag h = first_so (list_all (is_uniform_op (first_tasks dag.vertices)) dag.vertices) (list_all is_uniform_edge dag.edges) h

pub uniform_op : (dag : IrDag) → is_uniform dag ≡ true → (v : ℕ) (u : IrVertex) → slice_get dag.vertices v ≡ Some u → IsTransientOp (first_tasks dag.vertices) u
uniform_op dag h v u e = transient_op (first_tasks dag.vertices) u (list_all-at (is_uniform_op (first_tasks dag.vertices)) dag.vertices v u e (all_ops dag h))

---- edges

-- an edge that is read task by task, fetched and kept, and leads to a later vertex
pub record IsPlainEdge (count : ℕ) (e : IrEdge) : Type 0 where
  pub pattern : e.pattern ≡ OneToOne
  pub flow : e.flow ≡ Pull
  pub keep : e.keep ≡ Keep
  pub rises : e.from < e.to
  pub within : e.to < count

pattern_is : (q : Pattern) → is_one_to_one q ≡ true → q ≡ OneToOne
pattern_is OneToOne h = refl
pattern_is Broadcast h = cc
pattern_is Hash h = cc
pattern_is Spread h = cc

flow_is : (f : Flow) → is_pull f ≡ true → f ≡ Pull
flow_is Pull h = refl
flow_is Push h = cc

keep_is : (k : KeepOf) → is_kept k ≡ true → k ≡ Keep
keep_is Keep h = refl
keep_is Discard h = cc

pub plain_edge : (flat : FlatForm) (dag : IrDag) → Valid flat dag → is_uniform dag ≡ true → (i : ℕ) (e : IrEdge) → slice_get dag.edges i ≡ Some e → IsPlainEdge (length dag.vertices) e
plain_edge flat dag v h i e g =
    let all = second_so (list_all (is_uniform_op (first_tasks dag.vertices)) dag.vertices) (list_all is_uniform_edge dag.edges) h in
    let is : is_uniform_edge e ≡ true = list_all-at is_uniform_edge dag.edges i e g all in
    let two = first_so (is_one_to_one e.pattern && is_pull e.flow) (is_kept e.keep) is in
    let rise : rises dag e ≡ true = sym (ap (passes (rises dag)) g) ∙ v.v1 i (slice_get_within dag.edges i e g) in
    record {
      pattern = pattern_is e.pattern (first_so (is_one_to_one e.pattern) (is_pull e.flow) two);
      flow = flow_is e.flow (second_so (is_one_to_one e.pattern) (is_pull e.flow) two);
      keep = keep_is e.keep (second_so (is_one_to_one e.pattern && is_pull e.flow) (is_kept e.keep) is);
      rises = ltb-true e.from e.to (first_so (nat_lt e.from e.to) (nat_lt e.to (length dag.vertices)) rise);
      within = ltb-true e.to (length dag.vertices) (second_so (nat_lt e.from e.to) (nat_lt e.to (length dag.vertices)) rise);
    }

---- each Op resolves to itself

resolved_along : (n : ℕ) (es : List IrEdge) (done : List ℕ) (us : List IrVertex) → list_all (is_uniform_op n) us ≡ true → along (resolve_step es) done us ≡ done ++ counted (length done) (length us)
resolved_along n es done [] h = sym (append-nil done)
resolved_along n es done (u ∷ us) h =
    let op = transient_op n u (first_so (is_uniform_op n u) (list_all (is_uniform_op n) us) h) in
    let own : resolve_step es done u ≡ length done = ap (λ k. cond (is_utility k) (slice_index_or done (producer (edge_at es (length done) 0)) 0) (length done)) op.kind in
    let longer : length (done ++ length done ∷ []) ≡ suc (length done) = let e : length (done ++ length done ∷ []) ≡ length done + 1 = length-append done (length done ∷ []) in omega arith in
    ap (λ m. along (resolve_step es) (done ++ m ∷ []) us) own
    ∙ resolved_along n es (done ++ length done ∷ []) us (second_so (is_uniform_op n u) (list_all (is_uniform_op n) us) h)
    ∙ ap (λ m. (done ++ length done ∷ []) ++ counted m (length us)) longer
    ∙ append_assoc done (length done ∷ []) (counted (suc (length done)) (length us))

pub resolve_own : (dag : IrDag) → is_uniform dag ≡ true → (v : ℕ) → v < length dag.vertices → resolve dag v ≡ v
resolve_own dag h v l =
    ap (λ all. slice_index_or all v 0) (resolved_along (first_tasks dag.vertices) dag.edges [] dag.vertices (all_ops dag h))
    ∙ get_or_from_slice_get (below (length dag.vertices)) v v 0 (below_get (length dag.vertices) v l)
