-- What vertices say of themselves, before the bodies of loops are read.
use Rattle.std.specs.Prelude.{ℕ, ℤ, if◌then◌else◌, List, [], ◌∷◌, length, Option, Some, None, option_map, option_and_then, unwrap_or, codes}
use Rattle.std.specs.List.{find}
use Rattle.std.specs.Option.{option_or}
use Rattle.serde_json.specs.Data.{Data, Items, no_items, item}
use Rattle.serde_json.specs.Find.{get, as_str, as_array}
use Rattle.nemo_value.specs.Texts.{same_text}
use Rattle.nemo_transform.specs.Words.{folding_word}
use Rattle.nemo_transform.specs.declared.transform.Folding.{Folding}
use Rattle.nemo_transform.specs.declared.transform.Folding.TheVariants.{Sum, Min, Max, Count}
use Rattle.nemo_transform.specs.declared.transform.Output.{Output}
use Rattle.nemo_transform.specs.declared.transform.Transform.{Transform}
use Rattle.nemo_transform.specs.declared.transform.Transform.TheVariants.{Source, Map, Filter, Emit, Words, Union, Reduce, Distinct, Join, SideJoin, Sink}
use Rattle.nemo_value.specs.declared.expr.Expr.{Expr}
use Rattle.nemo_job.specs.declared.vertex.JobVertex.{JobVertex}
use Rattle.nemo_job.specs.declared.vertex.Ref.{Ref}
use Rattle.nemo_job.specs.declared.vertex.Work.{Work}
use Rattle.nemo_job.specs.declared.vertex.Work.TheVariants.{Op, Loop}
use Rattle.nemo_read.specs.Parts.{array_of, member_of, tested, is_few, record_of, name_of, number_of, place_of, small, whole_of}
use Rattle.nemo_read.specs.Exprs.{expr_of}
use Rattle.nemo_read.specs.Operations.{operation_of}
use Rattle.nemo_read.specs.declared.operation.Operation.{Operation}
use Rattle.nemo_read.specs.declared.operation.Operation.TheVariants as op

-- a port of a vertex
abbrev pub ref_with : Option (List ℕ) → Option ℕ → Option Ref
ref_with (Some name) (Some port) = Some (record { name = name; port = port })
ref_with (Some name) None = None
ref_with None port = None

-- `[name,port]`
abbrev pub ref_from : Items → Option Ref
ref_from (item name (item port no_items)) = ref_with (name_of name) (number_of port)
ref_from _ = None

-- an array, or a name alone, which names port 0
abbrev pub ref_of : Data → Option Ref
ref_of d = option_or (option_and_then ref_from (as_array d)) (ref_with (name_of d) (Some 0))

-- an array of references, which may be absent
abbrev pub inputs_in : Option Data → Option (List Ref)
inputs_in (Some d) = array_of ref_of d
inputs_in None = Some []

abbrev pub inputs_of : Data → Option (List Ref)
inputs_of d = inputs_in (get (codes "in") d)

-- an array of 1 to 16 things under a name
abbrev pub few_of : {X : Type 0} → List ℕ → (Data → Option X) → Data → Option (List X)
few_of name reads d = tested is_few (member_of name (array_of reads) d)

-- `if` and `out` of an output
abbrev pub output_with : Option Expr → Option (List Expr) → Option Output
output_with (Some cond) (Some out) = Some (record { cond = cond; out = out })
output_with (Some cond) None = None
output_with None out = None

abbrev pub output_of : Data → Option Output
output_of d = output_with (member_of (codes "if") expr_of d) (few_of (codes "out") expr_of d)

-- the member `field`
abbrev pub own_place : Data → Option ℕ
own_place d = member_of (codes "field") place_of d

-- the way to fold whose word it is
abbrev pub folding_of : List ℕ → Option Folding
folding_of word = find (λ by. same_text word (folding_word by)) (Sum ∷ Min ∷ Max ∷ Count ∷ [])

-- a count takes no field
abbrev pub reduce_by : Data → Folding → Option Transform
reduce_by d Count = Some (Reduce Count 0)
reduce_by d by = option_map (Reduce by) (own_place d)

abbrev pub reduce_of : Data → Option Transform
reduce_of d = option_and_then (reduce_by d) (option_and_then folding_of (member_of (codes "fn") as_str d))

abbrev pub source_of : Data → Option Transform
source_of d = option_map Source (member_of (codes "rows") (array_of record_of) d)

abbrev pub map_of : Data → Option Transform
map_of d = option_map Map (few_of (codes "out") expr_of d)

abbrev pub filter_of : Data → Option Transform
filter_of d = option_map Filter (member_of (codes "if") expr_of d)

abbrev pub emit_of : Data → Option Transform
emit_of d = option_map Emit (few_of (codes "outs") output_of d)

abbrev pub words_of : Data → Option Transform
words_of d = option_map Words (own_place d)

-- the transform of an operation, at a vertex of this name and of n inputs: a sink holds the name, and a union n ports
abbrev pub transform_of : List ℕ → ℕ → Data → Operation → Option Transform
transform_of name n d op.Source = source_of d
transform_of name n d op.Map = map_of d
transform_of name n d op.Filter = filter_of d
transform_of name n d op.Emit = emit_of d
transform_of name n d op.Words = words_of d
transform_of name n d op.Union = Some (Union n)
transform_of name n d op.Reduce = reduce_of d
transform_of name n d op.Distinct = Some Distinct
transform_of name n d op.Join = Some Join
transform_of name n d op.SideJoin = Some SideJoin
transform_of name n d op.Sink = Some (Sink name)

---- loops

-- a number of turns; one that is below 0 or beyond 32 bits is no number of turns that a loop may have, as is 0
abbrev pub turns_in : ℤ → ℕ
turns_in z = unwrap_or (small z) 0

-- the members of a loop, with the items of its body
pub record LoopForm : Type 0 where
  pub turns : ℕ
  pub carry : List (List ℕ)
  pub body : Items
  pub next : List Ref

abbrev pub loop_with : Option ℤ → Option Items → Option (List (List ℕ)) → Option (List Ref) → Option LoopForm
loop_with (Some turns) (Some body) (Some carry) (Some next) = Some (record { turns = turns_in turns; carry = carry; body = body; next = next })
loop_with (Some turns) (Some body) (Some carry) None = None
loop_with (Some turns) (Some body) None next = None
loop_with (Some turns) None carry next = None
loop_with None body carry next = None

abbrev pub loop_of : Data → Option LoopForm
loop_of d = loop_with (member_of (codes "turns") whole_of d) (member_of (codes "body") as_array d) (member_of (codes "carry") (array_of name_of) d) (member_of (codes "next") (array_of ref_of) d)

---- vertices

-- what a vertex does, with the items of a loop's body
pub data Form : Type 0 where
  Does : Transform → Form
  Loops : LoopForm → Form

abbrev pub form_by : List ℕ → ℕ → Data → List ℕ → Option Form
form_by name n d word = if same_text word (codes "loop") then option_map Loops (loop_of d) else option_map Does (option_and_then (transform_of name n d) (operation_of word))

-- a vertex before its body is read
pub record Head : Type 0 where
  pub name : List ℕ
  pub inputs : List Ref
  pub form : Form

abbrev pub head_with : List ℕ → List Ref → Option Form → Option Head
head_with name inputs (Some form) = Some (record { name = name; inputs = inputs; form = form })
head_with name inputs None = None

abbrev pub head_named : Data → List ℕ → Option Head
head_named d name = option_and_then (λ inputs. head_with name inputs (option_and_then (form_by name (length inputs) d) (member_of (codes "op") as_str d))) (inputs_of d)

abbrev pub head_of : Data → Option Head
head_of d = option_and_then (head_named d) (member_of (codes "name") name_of d)

-- what a vertex does, with these vertices as the body of its loop
abbrev pub loop_around : LoopForm → List JobVertex → Work
loop_around l body = Loop l.turns l.carry body l.next

abbrev pub work_around : Form → List JobVertex → Work
work_around (Does t) body = Op t
work_around (Loops l) body = loop_around l body

abbrev pub vertex_around : Head → List JobVertex → JobVertex
vertex_around h body = record { name = h.name; work = work_around h.form body; inputs = h.inputs }

-- the items of the body of its loop; an operation has none
abbrev pub body_of : Form → Items
body_of (Does t) = no_items
body_of (Loops l) = l.body
