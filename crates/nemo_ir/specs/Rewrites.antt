-- What a valid DAG keeps of its flat job, however the keys are split among tasks.
use Rattle.std.specs.Prelude.{◌≡◌, ◌<◌, ◌≤◌, ◌+◌, ℕ, suc, List, length, map, slice_get, slice_index_or, Some}
use Rattle.std.specs.List.Sorted.{IsPermutation, IsSorted}
use Rattle.std.specs.Ordering.{nat_cmp}
use Rattle.nemo_value.specs.Members.{In, SameMembers}
use Rattle.nemo_transform.specs.Brought.{Arisen, all_faults, all_rows}
use Rattle.nemo_transform.specs.Tasks.{renamed}
use Rattle.nemo_ir.specs.Flat.{FlatForm}
use Rattle.nemo_ir.specs.Nodes.{origin, rep_of}
use Rattle.nemo_ir.specs.Part.{all_parts, all_tasks, no_parts, part}
use Rattle.nemo_ir.specs.Value.{ByNumber, value}
use Rattle.nemo_ir.specs.declared.dag.IrDag.{IrDag}
use Rattle.nemo_ir.specs.declared.dag.IrEdge.{IrEdge}
use Rattle.nemo_ir.specs.declared.dag.IrVertex.{IrVertex}

-- fitting cuts for n tasks: one less than tasks, each at most 256, none that falls
pub record AreFitting (n : ℕ) (cuts : List ℕ) : Type 0 where
  pub count : length cuts + 1 ≡ n
  pub within : (i c : ℕ) → slice_get cuts i ≡ Some c → c ≤ 256
  pub rising : IsSorted nat_cmp cuts

-- an assignment gives each vertex as many cuts as part its tasks
abbrev pub IsAssignment : IrDag → (ℕ → List ℕ) → Type 0
IsAssignment dag cuts = (v : ℕ) (u : IrVertex) → slice_get dag.vertices v ≡ Some u → suc (length (cuts v)) ≡ u.parallelism

-- what the tasks of a vertex give
abbrev pub tasks_at : FlatForm → IrDag → (ℕ → List ℕ) → ℕ → List ByNumber
tasks_at flat dag cuts v = all_tasks (slice_index_or (all_parts flat dag cuts) v no_parts)

-- the name by which a DAG calls a flat vertex: the least one that its Op stands for
abbrev pub called : IrDag → ℕ → ℕ
called dag x = origin dag (rep_of dag x)

-- the tasks of the Op that stands for a flat vertex give what that gives: its rows up to order, and its faults, in which
-- each flat vertex is called by the least that its Op stands for; and a fault that names the least flat vertex of the Op
-- itself is one there
pub record IsComputed (flat : FlatForm) (dag : IrDag) (cuts : ℕ → List ℕ) (x : ℕ) : Type 0 where
  pub rows : IsPermutation (all_rows (tasks_at flat dag cuts (rep_of dag x))) (value flat x).rows
  pub faults : SameMembers (all_faults (tasks_at flat dag cuts (rep_of dag x))) (map (renamed (called dag)) (value flat x).faults)
  pub own : (a : Arisen ℕ) → In a (all_faults (tasks_at flat dag cuts (rep_of dag x))) → a.vertex ≡ called dag x → In a (value flat (called dag x)).faults

-- rewrite soundness: under all assignments, whatever the cuts are, every flat vertex is computed
abbrev pub Computes : FlatForm → IrDag → Type 0
Computes flat dag = (cuts : ℕ → List ℕ) → IsAssignment dag cuts → (x : ℕ) → x < length flat.vertices → IsComputed flat dag cuts x

-- u is v, or an ancestor of v
pub data Leads (dag : IrDag) : ℕ → ℕ → Type 0 where
  here : (v : ℕ) → Leads dag v v
  on : (u v : ℕ) (i : ℕ) (e : IrEdge) → slice_get dag.edges i ≡ Some e → e.to ≡ v → Leads dag u e.from → Leads dag u v

-- cut locality: a part depends on the cuts of its vertex and of that one's ancestors alone
abbrev pub IsLocal : FlatForm → IrDag → Type 0
IsLocal flat dag = (cuts other : ℕ → List ℕ) (v : ℕ) → ((u : ℕ) → Leads dag u v → cuts u ≡ other u) → (i : ℕ) → part flat dag cuts v i ≡ part flat dag other v i
