-- Which logs are legal: each event is a step, and what it says of the data is true.
use Rattle.std.specs.Prelude.{◌≡◌, ℕ, List, [], ◌∷◌, length, map, slice_get, Option, Some, None}
use Rattle.std.specs.List.{flat_map}
use Rattle.std.specs.Ordering.{ordering_then}
use Rattle.std.specs.declared.cmp.Ordering.{Ordering}
use Rattle.nemo_value.specs.Ascending.{ascending}
use Rattle.nemo_value.specs.KindOrder.{kind_cmp}
use Rattle.nemo_value.specs.Order.{record_cmp}
use Rattle.nemo_base.specs.LeastCuts.{IsLeastCuts}
use Rattle.nemo_base.specs.Samples.{counts_of, sampled}
use Rattle.nemo_base.specs.declared.graph.VertexRow.{VertexRow}
use Rattle.nemo_base.specs.Settings.{SettingsForm}
use Rattle.nemo_transform.specs.Brought.{Arisen, all_faults}
use Rattle.nemo_transform.specs.Gives.{Row}
use Rattle.nemo_ir.specs.Along.{below}
use Rattle.nemo_ir.specs.Nodes.{origin}
use Rattle.nemo_core.specs.State.{State, held_at, holder, start}
use Rattle.nemo_core.specs.Step.{after, refusal}
use Rattle.nemo_core.specs.declared.event.Event.{Event}
use Rattle.nemo_core.specs.declared.event.Event.TheVariants.{Commit, Decide, Fault}
use Rattle.nemo_plan.specs.Form.{PlanForm, graph}
use Rattle.nemo_laws.specs.Data.{Given, Ran, given_by, with_attempt}

abbrev pub all_vertices : PlanForm → List ℕ
all_vertices p = below (length p.dag.vertices)

-- an attempt has no fault
abbrev pub Faultless : PlanForm → Given → Type 0
Faultless p gives = all_faults (map gives (all_vertices p)) ≡ []

abbrev pub by_kind : Arisen ℕ → Arisen ℕ → Ordering
by_kind a b = ordering_then (kind_cmp a.kind b.kind) (record_cmp a.rec b.rec)

-- the first fault of an attempt, by DAG vertex, kind and record, with that vertex
pub record FirstFault (p : PlanForm) (gives : Given) (fault : Arisen ℕ) : Type 0 where
  pub vertex : ℕ
  pub before : all_faults (map gives (below vertex)) ≡ []
  pub is : slice_get (ascending by_kind (gives vertex).faults) 0 ≡ Some fault
  pub named : fault.vertex ≡ origin p.dag vertex

-- the sample of a Trigger's blocks, as they are held
abbrev pub trigger_sample : SettingsForm → State → List Ran → ℕ → ℕ → List Row
trigger_sample k s ran u tasks = flat_map (λ j. sampled k.sample 0 (given_by ran (holder (held_at s u j)) u).rows) (below tasks)

abbrev pub row_tasks : Option VertexRow → ℕ
row_tasks (Some row) = row.parallelism
row_tasks None = 0

abbrev pub row_triggers : Option VertexRow → List ℕ
row_triggers (Some row) = row.triggers
row_triggers None = []

abbrev pub row_of : PlanForm → ℕ → Option VertexRow
row_of p v = slice_get (graph p).vertices v

-- over each Trigger in-edge of a vertex
abbrev pub sample : PlanForm → SettingsForm → State → List Ran → ℕ → List Row
sample p k s ran v = flat_map (λ u. trigger_sample k s ran u (row_tasks (row_of p u))) (row_triggers (row_of p v))

-- what an event says of the data is true
abbrev pub IsHonest : PlanForm → SettingsForm → State → List Ran → Event → Type 0
IsHonest p k s ran (Commit a) = Faultless p (given_by ran a)
IsHonest p k s ran (Fault a x kind rec) = FirstFault p (given_by ran a) (record { vertex = x; kind = kind; rec = rec })
IsHonest p k s ran (Decide v cuts) = IsLeastCuts (counts_of (sample p k s ran v)) (row_tasks (row_of p v)) cuts
IsHonest p k s ran _ = Unit {0}

abbrev pub LegalFrom : PlanForm → SettingsForm → State → List Ran → List Event → Type 0
LegalFrom p k s ran [] = Unit {0}
LegalFrom p k s ran (e ∷ es) = (refusal (graph p) k s e ≡ None) × IsHonest p k s ran e × LegalFrom p k (after (graph p) k s e) (with_attempt p s ran e) es

-- a legal history of a plan
abbrev pub Legal : PlanForm → SettingsForm → List Event → Type 0
Legal p k log = LegalFrom p k (start (graph p) k) [] log
