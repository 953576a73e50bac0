-- The DAGs that JSON values stand for.
use Rattle.std.specs.Prelude.{ℕ, if◌then◌else◌, List, Option, Some, None, option_map, option_and_then, slice_get, Result, Ok, Err, codes}
use Rattle.serde_json.specs.Data.{Data, Items, no_items, item}
use Rattle.serde_json.specs.Find.{as_array, as_str}
use Rattle.nemo_base.specs.Words.{class_named, pattern_named, flow_named, keep_named}
use Rattle.nemo_base.specs.declared.annotation.Class.{Class}
use Rattle.nemo_base.specs.declared.annotation.Flow.{Flow}
use Rattle.nemo_base.specs.declared.annotation.Keep.{Keep}
use Rattle.nemo_base.specs.declared.annotation.Pattern.{Pattern}
use Rattle.nemo_ir.specs.declared.dag.IrDag.{IrDag}
use Rattle.nemo_ir.specs.declared.dag.IrEdge.{IrEdge}
use Rattle.nemo_ir.specs.declared.dag.IrVertex.{IrVertex}
use Rattle.nemo_ir.specs.declared.dag.VertexKind.{VertexKind}
use Rattle.nemo_ir.specs.declared.dag.VertexKind.TheVariants.{Op, Relay, Trigger}
use Rattle.nemo_ir.specs.declared.flat.FlatVertex.{FlatVertex}
use Rattle.nemo_value.specs.Texts.{same_text}
use Rattle.nemo_read.specs.Calls.{Worded, call_of}
use Rattle.nemo_read.specs.Parts.{member_of, number_of}
use Rattle.nemo_bundle.specs.Answers.{Refusal, on_ok, refused}
use Rattle.nemo_bundle.specs.Entries.{items_at}
use Rattle.nemo_bundle.specs.declared.end.Code.{Code}
use Rattle.nemo_bundle.specs.declared.end.Code.TheVariants.{DagVertex, DagEdge, DagRep}

---- vertices

abbrev pub entry_with : VertexKind → Option Class → Option ℕ → Option IrVertex
entry_with kind (Some class) (Some tasks) = Some (record { kind = kind; class = class; parallelism = tasks })
entry_with kind (Some class) None = None
entry_with kind None tasks = None

-- an Op has the transform of flat vertex x, where there is one
abbrev pub op_at : List FlatVertex → ℕ → Option VertexKind
op_at flat x = option_map (λ v. Op v.transform) (slice_get flat x)

abbrev pub op_with : Option VertexKind → Data → Data → Option IrVertex
op_with (Some kind) class tasks = entry_with kind (option_and_then class_named (as_str class)) (number_of tasks)
op_with None class tasks = None

abbrev pub utility_of : List ℕ → Option VertexKind
utility_of word =
    if same_text word (codes "relay") then Some Relay
    else (if same_text word (codes "trigger") then Some Trigger
    else None)

-- `["relay",class,tasks]` or `["trigger",class,tasks]`, or `["op",x,class,tasks]`
abbrev pub entry_from : List FlatVertex → Items → List ℕ → Option IrVertex
entry_from flat (item class (item tasks no_items)) word = op_with (utility_of word) class tasks
entry_from flat (item x (item class (item tasks no_items))) word =
    if same_text word (codes "op") then op_with (option_and_then (op_at flat) (number_of x)) class tasks else None
entry_from flat _ word = None

abbrev pub entry_by : List FlatVertex → Worded → Option IrVertex
entry_by flat call = entry_from flat call.args call.word

abbrev pub entry_of : List FlatVertex → ℕ → Data → Option IrVertex
entry_of flat i d = option_and_then (entry_by flat) (call_of d)

---- edges

-- where an edge leads
abbrev pub Ends : Type 0
Ends = ℕ × ℕ × ℕ

-- how its rows go
abbrev pub Way : Type 0
Way = Pattern × Flow × Keep

abbrev pub ends_of : Data → Data → Data → Option Ends
ends_of from to port = option_and_then (λ f. option_and_then (λ t. option_map (λ p. (f, t, p)) (number_of port)) (number_of to)) (number_of from)

-- a pattern, a flow and a keep
abbrev pub way_of : Items → Option Way
way_of (item pattern (item flow (item keep no_items))) =
    option_and_then (λ p. option_and_then (λ f. option_map (λ k. (p, f, k)) (option_and_then keep_named (as_str keep))) (option_and_then flow_named (as_str flow))) (option_and_then pattern_named (as_str pattern))
way_of _ = None

abbrev pub edge_with : Option Ends → Option Way → Option IrEdge
edge_with (Some e) (Some w) = Some (record { from = e.0; to = e.1; port = e.2; pattern = w.0; flow = w.1; keep = w.2 })
edge_with (Some e) None = None
edge_with None w = None

-- `[from,to,port,pattern,flow,keep]`
abbrev pub edge_from : Items → Option IrEdge
edge_from (item from (item to (item port way))) = edge_with (ends_of from to port) (way_of way)
edge_from _ = None

abbrev pub edge_of : ℕ → Data → Option IrEdge
edge_of i d = option_and_then edge_from (as_array d)

---- DAGs

-- what the array of a member holds, or the refusal of this code at its first entry that can't be read
abbrev pub at_code : {X : Type 0} → Code → Result X ℕ → Result X Refusal
at_code code (Ok x) = Ok x
at_code code (Err place) = Err (refused code place)

abbrev pub entries_of : {X : Type 0} → Code → List ℕ → (ℕ → Data → Option X) → Data → Result (List X) Refusal
entries_of code name reads d = at_code code (items_at reads (member_of name as_array d))

-- the arrays `vertices`, `edges` and `rep`, for a flat job of these vertices
abbrev pub dag_of : List FlatVertex → Data → Result IrDag Refusal
dag_of flat d =
    on_ok (entries_of DagVertex (codes "vertices") (entry_of flat) d) (λ vertices. on_ok (entries_of DagEdge (codes "edges") edge_of d) (λ edges. on_ok (entries_of DagRep (codes "rep") (λ i. number_of) d) (λ rep.
    Ok (record { vertices = vertices; edges = edges; rep = rep }))))

abbrev pub proposed : Result IrDag Refusal → Result (Option IrDag) Refusal
proposed (Ok dag) = Ok (Some dag)
proposed (Err r) = Err r

-- the member `dag`, which may be absent
abbrev pub dag_in : List FlatVertex → Option Data → Result (Option IrDag) Refusal
dag_in flat (Some d) = proposed (dag_of flat d)
dag_in flat None = Ok None
