-- What a task gives, where others answer for the producers of other stages.
use Rattle.std.specs.Prelude.{◌≡◌, ◌<◌, ℕ, ◌==◌, Bool, true, List, [], length, map, slice_get, slice_index_or, Some, if◌then◌else◌}
use Rattle.nemo_base.specs.declared.annotation.Pattern.{Pattern}
use Rattle.nemo_base.specs.declared.annotation.Pattern.TheVariants.{OneToOne, Broadcast, Hash, Spread}
use Rattle.nemo_base.specs.declared.id.TaskId.{TaskId}
use Rattle.nemo_value.specs.Members.{In}
use Rattle.nemo_transform.specs.Brought.{nothing}
use Rattle.nemo_ir.specs.Along.{along, passes}
use Rattle.nemo_ir.specs.Flat.{IsFlat}
use Rattle.nemo_ir.specs.Nodes.{Feed, Node, nodes, origin}
use Rattle.nemo_ir.specs.Part.{Parts, brought, done_by, part}
use Rattle.nemo_ir.specs.Valid.{Valid}
use Rattle.nemo_ir.specs.Value.{ByNumber}
use Rattle.nemo_plan.specs.Form.{PlanForm}
use Rattle.nemo_plan.specs.Stages.{stage_at, stages_of}

abbrev pub is_of_stage : List ℕ → ℕ → ℕ → Bool
is_of_stage stages s v = passes (λ a. a == s) (stage_at stages v)

-- what an in-edge of the next vertex brings: of its own stage what the task gave there, and else what comes from outside
abbrev pub over_edge : List ℕ → TaskId → (ℕ → List ℕ) → (ℕ → Parts) → List ByNumber → ℕ → Feed → ByNumber
over_edge stages t cuts outside done n f =
    if is_of_stage stages t.stage f.from then slice_index_or done f.from nothing else brought (cuts (length done)) n (outside f.from) f.pattern t.index

-- a vertex of another stage gives nothing
abbrev pub over_step : PlanForm → List ℕ → TaskId → (ℕ → List ℕ) → (ℕ → Parts) → List ByNumber → Node → ByNumber
over_step p stages t cuts outside done node =
    if is_of_stage stages t.stage (length done)
    then done_by (origin p.dag (length done)) node.parallelism t.index node.deed (map (over_edge stages t cuts outside done node.parallelism) node.feeds)
    else nothing

-- what a task gives at each vertex of its stage, under these cuts
abbrev pub part_over : PlanForm → (ℕ → List ℕ) → (ℕ → Parts) → TaskId → ℕ → ByNumber
part_over p cuts outside t v = slice_index_or (along (over_step p (stages_of p.flat p.dag) t cuts outside) [] (nodes p.flat.transforms p.dag)) v nothing

-- what comes from outside is all that task i reads of the parts of a producer with m tasks: by OneToOne its own number, else all
abbrev pub Tells : (ℕ → ByNumber) → Parts → ℕ → Pattern → ℕ → Type 0
Tells parts outside m OneToOne i = outside.task i ≡ parts i
Tells parts outside m Broadcast i = (outside.parallelism ≡ m) × ((j : ℕ) → j < m → outside.task j ≡ parts j)
Tells parts outside m Hash i = (outside.parallelism ≡ m) × ((j : ℕ) → j < m → outside.task j ≡ parts j)
Tells parts outside m Spread i = (outside.parallelism ≡ m) × ((j : ℕ) → j < m → outside.task j ≡ parts j)

-- so it is at every in-edge of the stage that comes from another
abbrev pub TellsAll : PlanForm → (ℕ → List ℕ) → (ℕ → Parts) → TaskId → Type 0
TellsAll p cuts outside t =
    (v : ℕ) (node producer : Node) (f : Feed) → is_of_stage (stages_of p.flat p.dag) t.stage v ≡ true
    → slice_get (nodes p.flat.transforms p.dag) v ≡ Some node → In f node.feeds
    → (is_of_stage (stages_of p.flat p.dag) t.stage f.from ≡ true → ⊥)
    → slice_get (nodes p.flat.transforms p.dag) f.from ≡ Some producer
    → Tells (part p.flat p.dag cuts f.from) (outside f.from) producer.parallelism f.pattern t.index

-- A task that is told all that it reads gives its part at each vertex of its stage.
abbrev pub OverLaw : Type 0
OverLaw = (p : PlanForm) → IsFlat p.flat → Valid p.flat p.dag → (cuts : ℕ → List ℕ) (outside : ℕ → Parts) (t : TaskId) → TellsAll p cuts outside t
    → (v : ℕ) → is_of_stage (stages_of p.flat p.dag) t.stage v ≡ true → part_over p cuts outside t v ≡ part p.flat p.dag cuts v t.index
