-- How a DAG is cut into stages.
use Rattle.std.specs.Prelude.{ℕ, zero, suc, ◌==◌, ◌&&◌, ◌||◌, not, Bool, true, false, nat_le, List, [], ◌∷◌, length, filter, slice_get, Option, Some, None, if◌then◌else◌}
use Rattle.std.specs.List.{list_all, list_any}
use Rattle.nemo_base.specs.declared.annotation.Class.{Class}
use Rattle.nemo_base.specs.declared.annotation.Class.TheVariants.{Reserved, Transient}
use Rattle.nemo_ir.specs.Along.{along, below, passes}
use Rattle.nemo_ir.specs.Flat.{FlatForm}
use Rattle.nemo_ir.specs.Nodes.{edge_at}
use Rattle.nemo_ir.specs.Uniform.{is_pull}
use Rattle.nemo_ir.specs.Valid.{is_one_to_one, kinds_at}
use Rattle.nemo_ir.specs.declared.dag.IrDag.{IrDag}
use Rattle.nemo_ir.specs.declared.dag.IrEdge.{IrEdge}
use Rattle.nemo_ir.specs.declared.dag.IrVertex.{IrVertex}

abbrev pub same_class : Class → Class → Bool
same_class Reserved Reserved = true
same_class Transient Transient = true
same_class Reserved Transient = false
same_class Transient Reserved = false

-- an edge along which a stage may go on
abbrev pub is_narrow_pull : IrEdge → Bool
is_narrow_pull e = is_one_to_one e.pattern && is_pull e.flow

-- the stage of a vertex that has one
abbrev pub stage_at : List ℕ → ℕ → Option ℕ
stage_at stages v = slice_get stages v

-- an edge leads from stage s to stage t
abbrev pub joins_stages : List ℕ → ℕ → ℕ → IrEdge → Bool
joins_stages stages s t e = passes (λ a. a == s) (stage_at stages e.from) && passes (λ b. b == t) (stage_at stages e.to)

-- stage t can be reached from stage s in at most n steps along edges between the stages made so far
abbrev pub reached_in : List IrEdge → List ℕ → ℕ → ℕ → ℕ → Bool
reached_in es stages zero s t = s == t
reached_in es stages (suc n) s t = reached_in es stages n s t || list_any (λ m. reached_in es stages n s m && list_any (joins_stages stages m t) es) stages

abbrev pub is_reached : List IrEdge → List ℕ → ℕ → ℕ → Bool
is_reached es stages s t = reached_in es stages (length stages) s t

abbrev pub in_edges : IrDag → ℕ → List IrEdge
in_edges dag v = filter (λ e. e.to == v) dag.edges

-- an in-edge that comes from stage s is OneToOne and Pull
abbrev pub goes_on : List ℕ → ℕ → IrEdge → Bool
goes_on stages s e = is_narrow_pull e || not (passes (λ a. a == s) (stage_at stages e.from))

-- an in-edge comes from another stage that can be reached from stage s
abbrev pub comes_round : IrDag → List ℕ → ℕ → IrEdge → Bool
comes_round dag stages s e = passes (λ a. not (a == s) && is_reached dag.edges stages s a) (stage_at stages e.from)

-- vertex v of this class joins stage s by this in-edge of one of its ports
abbrev pub joins_by : IrDag → List ℕ → ℕ → Class → ℕ → IrEdge → Bool
joins_by dag stages v class s e =
    is_narrow_pull e
    && passes (λ u. same_class u.class class) (slice_get dag.vertices e.from)
    && list_all (goes_on stages s) (in_edges dag v)
    && not (list_any (comes_round dag stages s) (in_edges dag v))

abbrev pub taken_by : IrDag → List ℕ → ℕ → Class → Option IrEdge → Option ℕ → Option ℕ
taken_by dag stages v class (Some e) (Some s) = if joins_by dag stages v class s e then Some s else None
taken_by dag stages v class (Some e) None = None
taken_by dag stages v class None s = None

abbrev pub source_stage : List ℕ → Option IrEdge → Option ℕ
source_stage stages (Some e) = stage_at stages e.from
source_stage stages None = None

-- the stage that a vertex joins by a port, if it does
abbrev pub joined_at : IrDag → List ℕ → ℕ → Class → ℕ → Option ℕ
joined_at dag stages v class port = taken_by dag stages v class (edge_at dag.edges v port) (source_stage stages (edge_at dag.edges v port))

abbrev pub first_joined : (ℕ → Option ℕ) → List ℕ → Option ℕ
first_joined f [] = None
first_joined f (p ∷ ps) = else_by (f p) (first_joined f ps) where
  else_by : Option ℕ → Option ℕ → Option ℕ
  else_by (Some s) other = Some s
  else_by None other = other

-- how many stages there are: one more than the greatest number
abbrev pub count_stages : List ℕ → ℕ
count_stages [] = 0
count_stages (s ∷ ss) = if nat_le (suc s) (count_stages ss) then count_stages ss else suc s

abbrev pub or_new : List ℕ → Option ℕ → ℕ
or_new stages (Some s) = s
or_new stages None = count_stages stages

-- a vertex joins the first stage that it may, port by port, or begins a new one with the next number
abbrev pub stage_step : FlatForm → IrDag → List ℕ → IrVertex → ℕ
stage_step flat dag stages u = or_new stages (first_joined (joined_at dag stages (length stages) u.class) (below (length (kinds_at flat u))))

-- the stage of each vertex
abbrev pub stages_of : FlatForm → IrDag → List ℕ
stages_of flat dag = along (stage_step flat dag) [] dag.vertices
