-- The stages made so far, and how the next vertex is put to one.
use Rattle.std.specs.Prelude.{◌≡◌, ◌≤◌, ℕ, ◌==◌, ◌&&◌, ◌||◌, not, Bool, true, List, [], ◌∷◌, ◌++◌, filter, length, map, slice_get, Option, Some, None, if◌then◌else◌}
use Rattle.std.specs.List.{list_all, list_any}
use Rattle.nemo_base.specs.declared.annotation.Class.{Class}
use Rattle.nemo_ir.specs.Along.{below, passes}
use Rattle.nemo_ir.specs.Flat.{FlatForm}
use Rattle.nemo_ir.specs.Index.{changed}
use Rattle.nemo_ir.specs.Nodes.{edge_at}
use Rattle.nemo_ir.specs.Valid.{kinds_at}
use Rattle.nemo_ir.specs.declared.dag.IrDag.{IrDag}
use Rattle.nemo_ir.specs.declared.dag.IrEdge.{IrEdge}
use Rattle.nemo_ir.specs.declared.dag.IrVertex.{IrVertex}
use Rattle.nemo_plan.specs.Graph.{vertices_of}
use Rattle.nemo_plan.specs.Order.{IsForward, place}
use Rattle.nemo_plan.specs.Stages.{comes_round, count_stages, first_joined, goes_on, in_edges, is_narrow_pull, joined_at, same_class, source_stage, stage_at}
use Rattle.nemo_plan.specs.declared.cut.Making.{Making}
use Rattle.nemo_plan.specs.declared.joins.Choice.{Choice}
use Rattle.nemo_plan.specs.declared.joins.Choice.TheVariants.{Begins, Joins, Turns}

---- tables of stages

-- a stage is marked in a table
abbrev pub is_marked : List Bool → ℕ → Bool
is_marked table s = passes (λ b. b) (slice_get table s)

-- an in-edge of vertex v comes from the stage
abbrev pub is_source : IrDag → List ℕ → ℕ → ℕ → Bool
is_source dag stages v s = list_any (λ e. passes (λ a. a == s) (stage_at stages e.from)) (in_edges dag v)

-- an in-edge of vertex v comes from another stage that can be reached from the stage
abbrev pub would_close : IrDag → List ℕ → ℕ → ℕ → Bool
would_close dag stages v s = list_any (comes_round dag stages s) (in_edges dag v)

abbrev pub sources_of : IrDag → List ℕ → ℕ → List Bool
sources_of dag stages v = map (is_source dag stages v) (below (count_stages stages))

abbrev pub closed_to : IrDag → List ℕ → ℕ → List Bool
closed_to dag stages v = map (would_close dag stages v) (below (count_stages stages))

-- an edge leads from stage s to another that is a source of the vertex or leads to one
abbrev pub leads_by : List ℕ → List Bool → List Bool → ℕ → IrEdge → Bool
leads_by stages sources closed s e = passes (λ t. not (t == s) && (is_marked sources t || is_marked closed t)) (stage_at stages e.to)

-- an edge of these vertices of stage s does so
abbrev pub leads_on : IrDag → List ℕ → List Bool → List Bool → ℕ → List ℕ → Bool
leads_on dag stages sources closed s vs = list_any (λ v. list_any (leads_by stages sources closed s) (filter (λ e. e.from == v) dag.edges)) vs

-- where the vertex joins stage s, a stage need not stand before it
abbrev pub stays_behind : List Bool → List Bool → ℕ → ℕ → Bool
stays_behind sources closed s m = not ((is_marked sources m && not (m == s)) || is_marked closed m)

-- the table with a stage marked in it
abbrev pub marked : List Bool → Option ℕ → List Bool
marked table (Some s) = changed (λ b. true) table s
marked table None = table

-- no other marked stage stands behind the stage
abbrev pub IsLast : List ℕ → List Bool → ℕ → Type 0
IsLast order sources s = (a : ℕ) → is_marked sources a ≡ true → (a ≡ s → ⊥) → place order s ≤ place order a → length order ≤ place order a

---- the choice of a stage

-- vertex v of this class joins stage s by this in-edge, unless that closes a circle
abbrev pub may_join : IrDag → List ℕ → ℕ → Class → ℕ → IrEdge → Bool
may_join dag stages v class s e = is_narrow_pull e && passes (λ u. same_class u.class class) (slice_get dag.vertices e.from) && list_all (goes_on stages s) (in_edges dag v)

abbrev pub open_by : IrDag → List ℕ → ℕ → Class → List Bool → Option IrEdge → Option ℕ → Option ℕ
open_by dag stages v class closed (Some e) (Some s) = if may_join dag stages v class s e && not (is_marked closed s) then Some s else None
open_by dag stages v class closed (Some e) None = None
open_by dag stages v class closed None s = None

-- the stage that a vertex may join by a port, where these are closed to it
abbrev pub open_at : IrDag → List ℕ → ℕ → Class → List Bool → ℕ → Option ℕ
open_at dag stages v class closed port = open_by dag stages v class closed (edge_at dag.edges v port) (source_stage stages (edge_at dag.edges v port))

-- how many ports a vertex has
abbrev pub ports_at : FlatForm → Option IrVertex → ℕ
ports_at flat (Some u) = length (kinds_at flat u)
ports_at flat None = 0

-- the stage that the next vertex joins
abbrev pub joined_by_next : FlatForm → IrDag → List ℕ → IrVertex → Option ℕ
joined_by_next flat dag stages u = first_joined (joined_at dag stages (length stages) u.class) (below (length (kinds_at flat u)))

---- what is kept

pub record IsMaking (dag : IrDag) (made : Making) : Type 0 where
  pub members : made.members.items ≡ map (vertices_of made.stages) (below (count_stages made.stages))
  pub forward : IsForward dag.edges made.stages made.order
  pub few : count_stages made.stages ≤ length made.stages
  pub within : length made.stages ≤ length dag.vertices

-- the next vertex is put to stage s
abbrev pub grown : Making → ℕ → List ℕ → Making → Type 0
grown made s order more = (more.stages ≡ made.stages ++ s ∷ []) × (more.members.items ≡ changed (λ vs. vs ++ length made.stages ∷ []) made.members.items s) × (more.order ≡ order)

-- the next vertex begins a stage, or joins one
abbrev pub IsPut : Making → Choice → Making → Type 0
IsPut made Begins more =
    (more.stages ≡ made.stages ++ length made.members.items ∷ []) × (more.members.items ≡ made.members.items ++ (length made.stages ∷ []) ∷ []) × (more.order ≡ made.order ++ length made.members.items ∷ [])
IsPut made (Joins s) more = grown made s made.order more
IsPut made (Turns s order) more = grown made s order more

-- a choice is that of the next vertex, and the order of the stages stays or becomes one that is forward
abbrev pub IsChoice : FlatForm → IrDag → Making → IrVertex → Choice → Type 0
IsChoice flat dag made u Begins = joined_by_next flat dag made.stages u ≡ None
IsChoice flat dag made u (Joins s) = (joined_by_next flat dag made.stages u ≡ Some s) × IsForward dag.edges (made.stages ++ s ∷ []) made.order
IsChoice flat dag made u (Turns s order) = (joined_by_next flat dag made.stages u ≡ Some s) × IsForward dag.edges (made.stages ++ s ∷ []) order
