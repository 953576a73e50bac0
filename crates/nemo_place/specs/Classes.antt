-- Where the tasks of each vertex run, by the rule of Pado: what is dear to make again lies on machines that stay.
use Rattle.std.specs.Prelude.{◌≡◌, ◌==◌, ◌||◌, Bool, true, false, List, [], ◌∷◌, filter, length, map, slice_get, if◌then◌else◌}
use Rattle.std.specs.List.{list_all, list_any}
use Rattle.nemo_base.specs.declared.annotation.Class.{Class}
use Rattle.nemo_base.specs.declared.annotation.Class.TheVariants.{Reserved, Transient}
use Rattle.nemo_base.specs.declared.annotation.Pattern.{Pattern}
use Rattle.nemo_base.specs.declared.annotation.Pattern.TheVariants.{OneToOne, Broadcast, Hash, Spread}
use Rattle.nemo_ir.specs.Along.{along, passes}
use Rattle.nemo_ir.specs.declared.dag.IrDag.{IrDag}
use Rattle.nemo_ir.specs.declared.dag.IrEdge.{IrEdge}
use Rattle.nemo_ir.specs.declared.dag.IrVertex.{IrVertex}

abbrev pub is_reserved : Class → Bool
is_reserved Reserved = true
is_reserved Transient = false

-- the patterns that deal the rows of each producer task out to all consumer tasks
abbrev pub is_shuffle : Pattern → Bool
is_shuffle Hash = true
is_shuffle Spread = true
is_shuffle OneToOne = false
is_shuffle Broadcast = false

-- an edge comes from a Reserved one of these vertices
abbrev pub from_reserved : List IrVertex → IrEdge → Bool
from_reserved done e = passes (λ u. is_reserved u.class) (slice_get done e.from)

-- the class of a vertex with these in-edges, after the vertices before it: Transient where there is none, Reserved where
-- one is a shuffle or all come from Reserved vertices, and Transient where neither is so
abbrev pub class_of : List IrVertex → List IrEdge → Class
class_of done [] = Transient
class_of done (e ∷ es) = if list_any (λ d. is_shuffle d.pattern) (e ∷ es) || list_all (from_reserved done) (e ∷ es) then Reserved else Transient

-- a vertex with its class, after the vertices before it
abbrev pub with_class : List IrEdge → List IrVertex → IrVertex → IrVertex
with_class es done u = record u { class = class_of done (filter (λ e. e.to == length done) es) }

abbrev pub pado_classes : IrDag → IrDag
pado_classes dag = record dag { vertices = along (with_class dag.edges) [] dag.vertices }

-- nothing differs but classes
pub record IsSameButClasses (old new : IrDag) : Type 0 where
  pub kinds : map (λ u. u.kind) new.vertices ≡ map (λ u. u.kind) old.vertices
  pub tasks : map (λ u. u.parallelism) new.vertices ≡ map (λ u. u.parallelism) old.vertices
  pub edges : new.edges ≡ old.edges
  pub rep : new.rep ≡ old.rep
