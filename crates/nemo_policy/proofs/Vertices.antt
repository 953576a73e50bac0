-- The vertices of the plain DAG: an Op for each flat vertex, of 1 to 64 tasks.
use Rattle.std.proofs.Common.{arith, sym, subst, refl, ℕ, zero, suc, ◌≤◌, List, [], ◌∷◌, ◌++◌, append-nil, append_assoc, length, map, cond, Bool, true, false}
use Rattle.std.specs.List.{list_any}
use Rattle.nemo_transform.specs.Ports.{is_keyed, kinds_of}
use Rattle.nemo_transform.specs.declared.transform.Transform.{Transform}
use Rattle.nemo_transform.specs.declared.transform.Transform.TheVariants.{Source, Map, Filter, Emit, Words, Union, Reduce, Distinct, Join, SideJoin, Sink}
use Rattle.nemo_ir.specs.Along.{along}
use Rattle.nemo_ir.specs.Flat.{FlatForm}
use Rattle.nemo_ir.specs.Nodes.{Deed, Passes, Nothing, Does, deed_of, edge_at, producer}
use Rattle.nemo_ir.specs.declared.dag.IrEdge.{IrEdge}
use Rattle.nemo_ir.specs.declared.dag.IrVertex.{IrVertex}
use Rattle.nemo_ir.specs.declared.dag.VertexKind.TheVariants.{Op}
use Rattle.nemo_ir.specs.declared.flat.FlatVertex.{FlatVertex}
use Rattle.nemo_flat.specs.FirstDag.{op_of}
use Rattle.nemo_flat.proofs.Ops.{IsOp, IsTasks, Stand, stand_more}
use Rattle.nemo_policy.specs.Passes.{set_tasks, parallelism_at, parallelism_for, parallelism_of}

pub tasks_within : (us : List IrVertex) (xs : List FlatVertex) (v : ℕ) → Stand us xs → IsTasks (parallelism_at us v)
tasks_within [] [] v h = record { some = omega arith; few = omega arith }
tasks_within (u ∷ us) (x ∷ xs) zero h = h.0.tasks
tasks_within (u ∷ us) (x ∷ xs) (suc v) h = tasks_within us xs v h.1
tasks_within [] (x ∷ xs) v h = absurd h
tasks_within (u ∷ us) [] v h = absurd h

picked : (b : Bool) (m n : ℕ) → IsTasks m → IsTasks n → IsTasks (cond b m n)
picked true m n h g = h
picked false m n h g = g

for_within : (p before : ℕ) (t : Transform) → IsTasks p → IsTasks before → IsTasks (parallelism_for p before t)
for_within p before (Source rows) h g = let few : p ≤ 64 = h.few in record { some = omega arith; few = omega arith }
for_within p before (Map out) h g = g
for_within p before (Filter c) h g = g
for_within p before (Emit outs) h g = g
for_within p before (Words field) h g = g
for_within p before (Union n) h g = picked (list_any is_keyed (kinds_of (Union n))) p before h g
for_within p before (Reduce by field) h g = h
for_within p before Distinct h g = h
for_within p before Join h g = h
for_within p before SideJoin h g = g
for_within p before (Sink name) h g = g

of_within : (p before : ℕ) (d : Deed) → IsTasks p → IsTasks before → IsTasks (parallelism_of p before d)
of_within p before (Does t) h g = for_within p before t h g
of_within p before Passes h g = g
of_within p before Nothing h g = g

-- the vertices after set_parallelism
pub stand_along : (flat : FlatForm) (p : ℕ) (es : List IrEdge) (done : List IrVertex) (ys xs : List FlatVertex) → IsTasks p → Stand done ys
    → Stand (along (set_tasks flat p es) done (map op_of xs)) (ys ++ xs)
stand_along flat p es done ys [] h s = subst (Stand done) (sym (append-nil ys)) s
stand_along flat p es done ys (x ∷ xs) h s =
    let before = parallelism_at done (producer (edge_at es (length done) 0)) in
    let u = set_tasks flat p es done (op_of x) in
    let o : IsOp u x = record { kind = refl; tasks = of_within p before (deed_of flat.transforms (Op x.transform)) h (tasks_within done ys (producer (edge_at es (length done) 0)) s) } in
    subst (Stand (along (set_tasks flat p es) (done ++ u ∷ []) (map op_of xs))) (append_assoc ys (x ∷ []) xs) (stand_along flat p es (done ++ u ∷ []) (ys ++ x ∷ []) xs h (stand_more done ys u x s o))
