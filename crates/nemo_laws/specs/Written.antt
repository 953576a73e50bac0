-- What a run has written: the blocks of its sinks, each from one commit.
use Rattle.std.specs.Prelude.{◌≡◌, ◌<◌, ℕ, ◌==◌, Bool, false, List, [], ◌∷◌, ◌++◌, option_map, slice_get, Option, Some, None}
use Rattle.std.specs.List.{filter_map, flat_map, list_any}
use Rattle.nemo_base.specs.Places.{map_at}
use Rattle.nemo_base.specs.declared.graph.TaskGraph.{TaskGraph}
use Rattle.nemo_base.specs.Settings.{SettingsForm}
use Rattle.nemo_value.specs.declared.record.SinkRows.{SinkRows}
use Rattle.nemo_transform.specs.Gives.{Row}
use Rattle.nemo_ir.specs.Along.{below}
use Rattle.nemo_ir.specs.Flat.{sink_name}
use Rattle.nemo_ir.specs.declared.dag.IrVertex.{IrVertex}
use Rattle.nemo_value.specs.SinkOrder.{in_order}
use Rattle.nemo_core.specs.State.{State, held_at, holder}
use Rattle.nemo_core.specs.Step.{after}
use Rattle.nemo_core.specs.declared.event.Event.{Event}
use Rattle.nemo_core.specs.declared.event.Event.TheVariants.{Commit}
use Rattle.nemo_plan.specs.Form.{PlanForm, graph}
use Rattle.nemo_plan.specs.Graph.{vertex_transform}
use Rattle.nemo_laws.specs.Data.{data_of, state_of}

---- where a block comes from

abbrev pub is_commit : ℕ → Event → Bool
is_commit a (Commit b) = b == a
is_commit a _ = false

-- the master holds the block, from this attempt
abbrev pub IsHeldFrom : ℕ → State → ℕ → ℕ → Type 0
IsHeldFrom a s v i = held_at s v i ≡ Some (record { slot = None; inc = 0; attempt = a })

-- in this state, and after each further event
abbrev pub StaysHeld : TaskGraph → SettingsForm → ℕ → ℕ → ℕ → State → List Event → Type 0
StaysHeld g k a v i s [] = IsHeldFrom a s v i
StaysHeld g k a v i s (e ∷ es) = IsHeldFrom a s v i × StaysHeld g k a v i (after g k s e) es

-- the attempt has one commit in the log; the block was gone before it, and is held from it ever since
pub record IsFromCommit (g : TaskGraph) (k : SettingsForm) (log : List Event) (v i a : ℕ) : Type 0 where
  pub before : List Event
  pub later : List Event
  pub is : log ≡ before ++ (Commit a ∷ later)
  pub once_before : list_any (is_commit a) before ≡ false
  pub once_later : list_any (is_commit a) later ≡ false
  pub gone : held_at (state_of g k before) v i ≡ None
  pub stays : StaysHeld g k a v i (after g k (state_of g k before) (Commit a)) later

---- what the sinks get

-- the name of the sink that a vertex is, if it is one
abbrev pub sink_at : PlanForm → IrVertex → Option (List ℕ)
sink_at p u = sink_name (vertex_transform p.flat u)

-- each block of each sink is from one commit
abbrev pub FromCommits : PlanForm → SettingsForm → List Event → Type 0
FromCommits p k log =
    (v : ℕ) (u : IrVertex) (name : List ℕ) (i : ℕ) → slice_get p.dag.vertices v ≡ Some u → sink_at p u ≡ Some name → i < u.parallelism
    → (a : ℕ) × IsFromCommit (graph p) k log v i a

-- the rows of a block: what the attempt that holds it gave
abbrev pub block_rows : PlanForm → SettingsForm → List Event → ℕ → ℕ → List Row
block_rows p k log v i = (data_of p k log (holder (held_at (state_of (graph p) k log) v i)) v).rows

-- a sink with the rows of its blocks
abbrev pub sink_written : PlanForm → SettingsForm → List Event → ℕ → IrVertex → Option SinkRows
sink_written p k log v u = option_map (λ name. record { name = name; rows = flat_map (block_rows p k log v) (below u.parallelism) }) (sink_at p u)

-- the sinks by name, each with its rows in order
abbrev pub written : PlanForm → SettingsForm → List Event → List SinkRows
written p k log = in_order (filter_map (λ o. o) (map_at (sink_written p k log) 0 p.dag.vertices))
