-- What the tasks of a plan of one stage give, vertex by vertex.
use Rattle.std.proofs.Common.{arith, ◌≡◌, ◌∙◌, ap, sym, ℕ, zero, suc, ◌<◌, List, [], ◌∷◌, length, slice_get, get_or, Option, Some, None}
use Rattle.nemo_ir.specs.Flat.{FlatForm, transform_of}
use Rattle.nemo_ir.specs.Nodes.{Deed, Nothing, Node, deed_or, nodes, origin}
use Rattle.nemo_ir.specs.Part.{Parts, all_parts, done_by, no_parts, part}
use Rattle.nemo_ir.specs.Value.{ByNumber}
use Rattle.nemo_ir.specs.declared.flat.FlatVertex.{FlatVertex}
use Rattle.nemo_ir.proofs.Places.{got, map_at-whole}
use Rattle.nemo_ir.proofs.Steps.{parts_before, task_at, tasks_are}
use Rattle.nemo_plan.specs.Form.{PlanForm}
use Rattle.nemo_plan.specs.LinePlan.{IsLinePlan, line_feeds, line_node}

---- what goes along a line

abbrev pub deed_in : FlatForm → Option FlatVertex → Deed
deed_in flat (Some x) = deed_or (transform_of flat x)
deed_in flat None = Nothing

-- what flat vertex v does
abbrev pub deed_at : FlatForm → ℕ → Deed
deed_at flat v = deed_in flat (slice_get flat.vertices v)

-- what task i of n gives at each vertex, from that of the vertex before it
abbrev pub line_part : PlanForm → ℕ → ℕ → ℕ → ByNumber
line_part p n i zero = done_by (origin p.dag zero) n i (deed_at p.flat zero) []
line_part p n i (suc u) = done_by (origin p.dag (suc u)) n i (deed_at p.flat (suc u)) (line_part p n i u ∷ [])

---- the parts of the tasks

module _ (p : PlanForm) (m n : ℕ) (plan : IsLinePlan p.flat p.dag m n) where
  -- vertex v does what the flat vertex of its number does
  abbrev node_of : ℕ → Node
  node_of v = record { deed = deed_at p.flat v; parallelism = n; feeds = line_feeds v }

  node_at : (v : ℕ) → v < m → slice_get (nodes p.flat.transforms p.dag) v ≡ Some (node_of v)
  node_at v l =
      let count : length p.flat.vertices ≡ m = plan.flat_count in
      let x = got p.flat.vertices v (omega arith) in
      ap (λ ns. slice_get ns v) plan.nodes_are
      ∙ map_at-whole (line_node p.flat n) p.flat.vertices v x.0 x.1
      ∙ ap (λ o. Some (record { deed = deed_in p.flat o; parallelism = n; feeds = line_feeds v })) (sym x.1)

  module _ (cuts : ℕ → List ℕ) where
    -- each vertex has n tasks
    pub count_tasks : (v : ℕ) → v < m → (get_or (all_parts p.flat p.dag cuts) v no_parts).parallelism ≡ n
    count_tasks v l = tasks_are p.flat p.dag cuts v (node_of v) (node_at v l)

    -- the part of a task at a vertex goes along the line
    pub part_is : (v i : ℕ) → v < m → part p.flat p.dag cuts v i ≡ line_part p n i v
    part_is zero i l = task_at p.flat p.dag cuts zero (node_of zero) (node_at zero l) i
    part_is (suc u) i l =
        task_at p.flat p.dag cuts (suc u) (node_of (suc u)) (node_at (suc u) l) i
        ∙ ap (λ (q : Parts). done_by (origin p.dag (suc u)) n i (deed_at p.flat (suc u)) (q.task i ∷ [])) (parts_before p.flat p.dag cuts (suc u) u (omega arith))
        ∙ ap (λ f. done_by (origin p.dag (suc u)) n i (deed_at p.flat (suc u)) (f ∷ [])) (part_is u i (omega arith))
