-- The edges of a DAG by the vertices at their ends.
use Rattle.std.specs.Prelude.{◌≡◌, ℕ, ◌==◌, ◌++◌, ◌∷◌, [], List, length, map, filter, slice_get, slice_set, Option, Some, None}
use Rattle.nemo_ir.specs.Along.{below}
use Rattle.nemo_ir.specs.declared.dag.IrDag.{IrDag}
use Rattle.nemo_ir.specs.declared.dag.IrEdge.{IrEdge}
use Rattle.nemo_ir.specs.declared.index.End.{End}
use Rattle.nemo_ir.specs.declared.index.End.TheVariants.{From, To}

-- the table with what stands at a place changed, where something stands there
abbrev pub changed_where : {A : Type 0} → (A → A) → List A → ℕ → Option A → List A
changed_where f table i (Some x) = slice_set table i (f x)
changed_where f table i None = table

abbrev pub changed : {A : Type 0} → (A → A) → List A → ℕ → List A
changed f table i = changed_where f table i (slice_get table i)

abbrev pub with_edge : List (List IrEdge) → ℕ → IrEdge → List (List IrEdge)
with_edge lists v e = changed (λ es. es ++ e ∷ []) lists v

abbrev pub end_of : End → IrEdge → ℕ
end_of From e = e.from
end_of To e = e.to

-- the edges that have a vertex at this end, in order
abbrev pub edges_at : End → List IrEdge → ℕ → List IrEdge
edges_at end es v = filter (λ e. end_of end e == v) es

-- for each of n vertices
abbrev pub edge_lists : End → ℕ → List IrEdge → List (List IrEdge)
edge_lists end n es = map (edges_at end es) (below n)

-- the lists of an index are the in-edges and the out-edges of each vertex
pub record Indexes (dag : IrDag) (into from : List (List IrEdge)) : Type 0 where
  pub ins : into ≡ edge_lists To (length dag.vertices) dag.edges
  pub outs : from ≡ edge_lists From (length dag.vertices) dag.edges
