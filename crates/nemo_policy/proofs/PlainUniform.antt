-- The plain DAG of a line is uniform where all ports are Main.
use Rattle.std.proofs.Common.{arith, ◌≡◌, ◌∙◌, ap, sym, subst, refl, ℕ, suc, ◌+◌, ◌<◌, ◌==◌, ◌&&◌, List, [], ◌∷◌, ◌++◌, append-nil, append_assoc, length, map, slice_get, Bool, true, false, Some, option_map, cond, eq-eqb, length-append}
use Rattle.std.proofs.lemmas.List.{length-map, map-append}
use Rattle.std.proofs.lemmas.List.Folds.{list_all-append, list_all-map}
use Rattle.std.proofs.lemmas.Option.{slice_get-map, slice_get_within}
use Rattle.std.specs.Cmp.{first_so, second_so}
use Rattle.std.specs.Cmp.Derive.{both_true}
use Rattle.std.specs.List.{list_all, list_any}
use Rattle.nemo_base.specs.Places.{map_at}
use Rattle.nemo_base.specs.declared.annotation.Class.TheVariants.{Transient}
use Rattle.nemo_base.specs.declared.annotation.Pattern.{Pattern}
use Rattle.nemo_transform.specs.Ports.{is_keyed, is_main, kinds_of}
use Rattle.nemo_transform.specs.declared.shape.PortKind.{PortKind}
use Rattle.nemo_transform.specs.declared.shape.PortKind.TheVariants.{Main, Keyed, Side}
use Rattle.nemo_transform.specs.declared.transform.Transform.{Transform}
use Rattle.nemo_transform.specs.declared.transform.Transform.TheVariants.{Source, Map, Filter, Emit, Words, Union, Reduce, Distinct, Join, SideJoin, Sink}
use Rattle.nemo_ir.specs.Along.{along, passes}
use Rattle.nemo_ir.specs.Flat.{FlatForm, IsFlat, transform_of}
use Rattle.nemo_ir.specs.Line.{IsLine}
use Rattle.nemo_ir.specs.Nodes.{deed_of, deed_or, edge_at, kinds_in, producer}
use Rattle.nemo_ir.specs.Uniform.{first_tasks, is_kept, is_pull, is_uniform, is_uniform_edge, is_uniform_op}
use Rattle.nemo_ir.specs.Valid.{is_one_to_one}
use Rattle.nemo_ir.specs.declared.dag.IrEdge.{IrEdge}
use Rattle.nemo_ir.specs.declared.dag.IrVertex.{IrVertex}
use Rattle.nemo_ir.specs.declared.dag.VertexKind.TheVariants.{Op}
use Rattle.nemo_ir.specs.declared.flat.FlatVertex.{FlatVertex}
use Rattle.nemo_ir.proofs.Places.{from_none, got, list_all-each}
use Rattle.nemo_flat.specs.FirstDag.{edge_into, edges_into, op_of, ports_of}
use Rattle.nemo_ir.proofs.FlatPlaces.{has_transform}
use Rattle.nemo_ir.proofs.Places.{list_all-at}
use Rattle.nemo_ir.proofs.Lines.{line_inputs}
use Rattle.nemo_flat.proofs.LinePath.{IsPath, edges_from, line_start, path_edge, path_get}
use Rattle.nemo_policy.specs.Main.{HasMainPorts, takes_main}
use Rattle.nemo_policy.specs.Passes.{kind_into, pattern_by, plain_dag, set_pattern, set_tasks, parallelism_at, parallelism_for, parallelism_of}
use Rattle.nemo_policy.proofs.PlainValid.{parallelism_get}

---- the transforms after the first

-- a vertex whose one port is Main
record OneMain (flat : FlatForm) (x : FlatVertex) : Type 0 where
  transform : Transform
  is : transform_of flat x ≡ Some transform
  main : kinds_of transform ≡ Main ∷ []

only_main : (ks : List PortKind) → length ks ≡ 1 → list_all is_main ks ≡ true → ks ≡ Main ∷ []
only_main [] n h = absurd (omega arith)
only_main (Main ∷ []) n h = refl
only_main (Keyed ∷ []) n h = cc
only_main (Side ∷ []) n h = cc
only_main (k ∷ l ∷ ks) n h = absurd (omega arith)

one_main : (flat : FlatForm) → IsFlat flat → IsLine flat → HasMainPorts flat → (i : ℕ) (x : FlatVertex) → slice_get flat.vertices (suc i) ≡ Some x → OneMain flat x
one_main flat f line main i x e =
    let t = has_transform flat f (suc i) x e in
    let all : passes takes_main (transform_of flat x) ≡ true = list_all-at (λ y. passes takes_main (transform_of flat y)) flat.vertices (suc i) x e main in
    record {
      transform = t.transform;
      is = t.is;
      main = only_main (kinds_of t.transform) (t.ports ∙ ap length (line_inputs flat line (suc i) x e)) (sym (ap (passes takes_main) t.is) ∙ all);
    }

-- such a vertex has as many tasks as the vertex before it
same_tasks : (p before : ℕ) (t : Transform) → kinds_of t ≡ Main ∷ [] → parallelism_for p before t ≡ before
same_tasks p before (Source rows) h = cc
same_tasks p before (Map out) h = refl
same_tasks p before (Filter c) h = refl
same_tasks p before (Emit outs) h = refl
same_tasks p before (Words field) h = refl
same_tasks p before (Union n) h = ap (λ ks. cond (list_any is_keyed ks) p before) h
same_tasks p before (Reduce by field) h = cc
same_tasks p before Distinct h = cc
same_tasks p before Join h = cc
same_tasks p before SideJoin h = cc
same_tasks p before (Sink name) h = refl

---- the vertices

-- a vertex of n tasks with the transform of a flat vertex
abbrev pub tasks_op : ℕ → FlatVertex → IrVertex
tasks_op n x = record { kind = Op x.transform; class = Transient; parallelism = n }

op_there : (n : ℕ) (xs : List FlatVertex) (i : ℕ) (x : FlatVertex) → slice_get xs i ≡ Some x → slice_get (map (tasks_op n) xs) i ≡ Some (tasks_op n x)
op_there n xs i x e = slice_get-map (tasks_op n) xs i ∙ ap (option_map (tasks_op n)) e

tasks_there : (n : ℕ) (xs : List FlatVertex) (i : ℕ) → i < length xs → parallelism_at (map (tasks_op n) xs) i ≡ n
tasks_there n xs i h =
    let x = got xs i h in
    parallelism_get (map (tasks_op n) xs) i (tasks_op n x.0) (op_there n xs i x.0 x.1)

-- the vertex of this number has the number before it as its producer, and one Main port
record Follows (flat : FlatForm) (es : List IrEdge) (number : ℕ) (x : FlatVertex) : Type 0 where
  back : suc (producer (edge_at es number 0)) ≡ number
  takes : OneMain flat x

one_more : (flat : FlatForm) (p n : ℕ) (es : List IrEdge) (ys : List FlatVertex) (x : FlatVertex) → Follows flat es (length ys) x → set_tasks flat p es (map (tasks_op n) ys) (op_of x) ≡ tasks_op n x
one_more flat p n es ys x f =
    let done = map (tasks_op n) ys in
    let size : length done ≡ length ys = length-map ys (tasks_op n) in
    let from = producer (edge_at es (length ys) 0) in
    let back : suc from ≡ length ys = f.back in
    let t = f.takes in
    ap (λ m. record { kind = Op x.transform; class = Transient; parallelism = m })
    (ap (λ k. parallelism_of p (parallelism_at done (producer (edge_at es k 0))) (deed_of flat.transforms (Op x.transform))) size
    ∙ ap (λ o. parallelism_of p (parallelism_at done from) (deed_or o)) t.is
    ∙ same_tasks p (parallelism_at done from) t.transform t.main
    ∙ tasks_there n ys from (omega arith))

level_along : (flat : FlatForm) (p n : ℕ) (es : List IrEdge) (ys xs : List FlatVertex) → ((i : ℕ) (x : FlatVertex) → slice_get xs i ≡ Some x → Follows flat es (length ys + i) x)
    → along (set_tasks flat p es) (map (tasks_op n) ys) (map op_of xs) ≡ map (tasks_op n) (ys ++ xs)
level_along flat p n es ys [] f = ap (map (tasks_op n)) (sym (append-nil ys))
level_along flat p n es ys (x ∷ xs) f =
    let here : length ys + 0 ≡ length ys = omega arith in
    let size : length (ys ++ x ∷ []) ≡ length ys + 1 = length-append ys (x ∷ []) in
    ap (λ u. along (set_tasks flat p es) (map (tasks_op n) ys ++ u ∷ []) (map op_of xs)) (one_more flat p n es ys x (subst (λ k. Follows flat es k x) here (f 0 x refl)))
    ∙ ap (λ done. along (set_tasks flat p es) done (map op_of xs)) (sym (map-append (tasks_op n) ys (x ∷ [])))
    ∙ level_along flat p n es (ys ++ x ∷ []) xs
    (λ i y e. let up : length ys + suc i ≡ length (ys ++ x ∷ []) + i = omega arith in subst (λ k. Follows flat es k y) up (f (suc i) y e))
    ∙ ap (map (tasks_op n)) (append_assoc ys (x ∷ []) xs)

-- the vertices are Ops of one number of tasks
record Level (flat : FlatForm) (p : ℕ) (es : List IrEdge) (xs : List FlatVertex) : Type 0 where
  tasks : ℕ
  is : along (set_tasks flat p es) [] (map op_of xs) ≡ map (tasks_op tasks) xs

level : (flat : FlatForm) (p : ℕ) (es : List IrEdge) (xs : List FlatVertex) → ((i : ℕ) (x : FlatVertex) → slice_get xs (suc i) ≡ Some x → Follows flat es (suc i) x) → Level flat p es xs
level flat p es [] f = record { tasks = 1; is = refl }
level flat p es (x ∷ xs) f =
    let n = parallelism_of p (parallelism_at [] (producer (edge_at es 0 0))) (deed_of flat.transforms (Op x.transform)) in
    record {
      tasks = n;
      is = level_along flat p n es (x ∷ []) xs (λ i y e. let up : suc i ≡ length (x ∷ []) + i = omega arith in subst (λ k. Follows flat es k y) up (f i y e));
    }

line_follows : (flat : FlatForm) (es : List IrEdge) → IsFlat flat → IsLine flat → HasMainPorts flat → IsPath 0 es → suc (length es) ≡ length flat.vertices
    → (i : ℕ) (x : FlatVertex) → slice_get flat.vertices (suc i) ≡ Some x → Follows flat es (suc i) x
line_follows flat es f line main path size i x e =
    let within : suc i < length flat.vertices = slice_get_within flat.vertices (suc i) x e in
    let g = path_edge 0 es i path (omega arith) in
    record {
      back = ap (λ k. suc (producer (edge_at es (suc k) 0))) (sym (from_none i)) ∙ ap (λ o. suc (producer o)) g.is ∙ ap suc (g.comes ∙ from_none i);
      takes = one_main flat f line main i x e;
    }

ops_uniform : (n : ℕ) (xs : List FlatVertex) → list_all (is_uniform_op (first_tasks (map (tasks_op n) xs))) (map (tasks_op n) xs) ≡ true
ops_uniform n [] = refl
ops_uniform n (x ∷ xs) = each (x ∷ xs)
  where
    each : (ys : List FlatVertex) → list_all (is_uniform_op n) (map (tasks_op n) ys) ≡ true
    each [] = refl
    each (y ∷ ys) = both_true (eq-eqb n n refl) (each ys)

---- the edges

abbrev pub is_fetched : IrEdge → Bool
is_fetched e = is_pull e.flow && is_kept e.keep

into_fetched : (kinds : List PortKind) (to port : ℕ) (inputs : List ℕ) → list_all is_fetched (map_at (edge_into kinds to) port inputs) ≡ true
into_fetched kinds to port [] = refl
into_fetched kinds to port (input ∷ inputs) = into_fetched kinds to (port + 1) inputs

-- the first edges are fetched and kept
all_fetched : (flat : FlatForm) (k : ℕ) (xs : List FlatVertex) → list_all is_fetched (edges_from flat k xs) ≡ true
all_fetched flat k [] = refl
all_fetched flat k (x ∷ xs) =
    list_all-append is_fetched (edges_into flat k x) (edges_from flat (k + 1) xs)
    ∙ both_true (into_fetched (ports_of (transform_of flat x)) k 0 x.inputs) (all_fetched flat (k + 1) xs)

one_to_one : (same : Bool) (old : Pattern) → same ≡ true → is_one_to_one (pattern_by same old (Some Main)) ≡ true
one_to_one true old h = refl
one_to_one false old h = cc

edges_uniform : (flat : FlatForm) (n : ℕ) → IsFlat flat → IsLine flat → HasMainPorts flat
    → list_all is_uniform_edge (map (set_pattern flat (map (tasks_op n) flat.vertices)) (edges_from flat 0 flat.vertices)) ≡ true
edges_uniform flat n f line main = list_all-map is_uniform_edge (set_pattern flat us) first ∙ list_all-each (λ e. is_uniform_edge (set_pattern flat us e)) first one
  where
    us : List IrVertex
    us = map (tasks_op n) flat.vertices

    first : List IrEdge
    first = edges_from flat 0 flat.vertices

    one : (i : ℕ) (e : IrEdge) → slice_get first i ≡ Some e → is_uniform_edge (set_pattern flat us e) ≡ true
    one i e g =
        let l = line_start flat line f.some in
        let size : suc (length first) ≡ length flat.vertices = l.size in
        let within : i < length first = slice_get_within first i e g in
        let s = path_get 0 first i e l.path g in
        let from : e.from ≡ i = s.from ∙ from_none i in
        let to : e.to ≡ suc i = s.to ∙ ap suc (from_none i) in
        let x = got flat.vertices (suc i) (omega arith) in
        let t = one_main flat f line main i x.0 x.1 in
        let target : slice_get us e.to ≡ Some (tasks_op n x.0) = ap (slice_get us) to ∙ op_there n flat.vertices (suc i) x.0 x.1 in
        let kind : kind_into flat e (slice_get us e.to) ≡ Some Main =
        ap (kind_into flat e) target ∙ ap (λ o. slice_get (kinds_in (deed_or o)) e.port) t.is ∙ ap (λ ks. slice_get ks e.port) t.main ∙ ap (slice_get (Main ∷ [])) s.port in
        let same : (parallelism_at us e.from == parallelism_at us e.to) ≡ true =
        eq-eqb (parallelism_at us e.from) (parallelism_at us e.to) (tasks_there n flat.vertices e.from (omega arith) ∙ sym (tasks_there n flat.vertices e.to (omega arith))) in
        let pattern : is_one_to_one (pattern_by (parallelism_at us e.from == parallelism_at us e.to) e.pattern (kind_into flat e (slice_get us e.to))) ≡ true =
        ap (λ o. is_one_to_one (pattern_by (parallelism_at us e.from == parallelism_at us e.to) e.pattern o)) kind ∙ one_to_one (parallelism_at us e.from == parallelism_at us e.to) e.pattern same in
        let fetched : is_fetched e ≡ true = list_all-at is_fetched first i e g (all_fetched flat 0 flat.vertices) in
        both_true (both_true pattern (first_so (is_pull e.flow) (is_kept e.keep) fetched)) (second_so (is_pull e.flow) (is_kept e.keep) fetched)

---- all

pub plain_uniform : (flat : FlatForm) (p : ℕ) → IsFlat flat → IsLine flat → HasMainPorts flat → is_uniform (plain_dag flat p) ≡ true
plain_uniform flat p f line main =
    let first = edges_from flat 0 flat.vertices in
    let l = line_start flat line f.some in
    let v = level flat p first flat.vertices (line_follows flat first f line main l.path l.size) in
    ap (λ us. list_all (is_uniform_op (first_tasks us)) us && list_all is_uniform_edge (map (set_pattern flat us) first)) v.is
    ∙ both_true (ops_uniform v.tasks flat.vertices) (edges_uniform flat v.tasks f line main)
