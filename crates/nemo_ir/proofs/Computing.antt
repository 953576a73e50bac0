-- Rewrite soundness: under all assignments, a valid DAG computes what its flat job gives.
use Rattle.std.proofs.Common.{arith, ◌≡◌, ◌∙◌, ap, sym, subst, ℕ, ◌<◌, ◌≤◌, List, length, map, slice_get, Some}
use Rattle.std.specs.List.Sorted.{IsPermutation}
use Rattle.nemo_value.proofs.JoinedLists.{flat_over_map}
use Rattle.nemo_value.proofs.MemberLists.{map_in}
use Rattle.nemo_value.specs.Counted.{below}
use Rattle.nemo_value.specs.Members.{In, SameMembers}
use Rattle.nemo_transform.specs.Brought.{Arisen, all_faults, all_rows}
use Rattle.nemo_transform.specs.Tasks.{IsParted, renamed}
use Rattle.nemo_ir.specs.Flat.{FlatForm, IsFlat}
use Rattle.nemo_ir.specs.Nodes.{Node, nodes, rep_of}
use Rattle.nemo_ir.specs.Part.{Parts, all_tasks}
use Rattle.nemo_ir.specs.Rewrites.{Computes, IsAssignment, called, tasks_at}
use Rattle.nemo_ir.specs.Valid.{Valid}
use Rattle.nemo_ir.specs.Value.{ByNumber, value}
use Rattle.nemo_ir.specs.declared.dag.IrDag.{IrDag}
use Rattle.nemo_ir.proofs.Carrying.{stands_for}
use Rattle.nemo_ir.proofs.Origins.{IsLeast, least_of, names_low}
use Rattle.nemo_ir.proofs.Places.{got}
use Rattle.nemo_ir.proofs.Reps.{represented}
use Rattle.nemo_ir.proofs.Steps.{parts_at}
use Rattle.nemo_ir.proofs.WiredNodes.{IsWired}

---- the tasks of a vertex, joined

parted_rows : (name : ℕ → ℕ) (p : Parts) (whole : ByNumber) → IsParted name p.parallelism p.task whole → IsPermutation (all_rows (all_tasks p)) whole.rows
parted_rows name p whole stands = subst (λ l. IsPermutation l whole.rows) (sym (flat_over_map (λ (b : ByNumber). b.rows) p.task (below p.parallelism))) stands.rows

parted_faults : (name : ℕ → ℕ) (p : Parts) (whole : ByNumber) → IsParted name p.parallelism p.task whole → SameMembers (all_faults (all_tasks p)) (map (renamed name) whole.faults)
parted_faults name p whole stands = subst (λ l. SameMembers l (map (renamed name) whole.faults)) (sym (flat_over_map (λ (b : ByNumber). b.faults) p.task (below p.parallelism))) stands.faults

module _ (flat : FlatForm) (dag : IrDag) (fine : IsFlat flat) (valid : Valid flat dag)
    (wired : (v : ℕ) (node : Node) → slice_get (nodes flat.transforms dag) v ≡ Some node → IsWired (nodes flat.transforms dag) v node) where
  has_rep : (x : ℕ) → x < length flat.vertices → x < length dag.rep
  has_rep x l = let y = got flat.vertices x l in (represented flat fine dag valid x y.0 y.1).inside

  module _ (cuts : ℕ → List ℕ) (fits : IsAssignment dag cuts) where
    faults_are : (x : ℕ) → x < length flat.vertices → SameMembers (all_faults (tasks_at flat dag cuts (rep_of dag x))) (map (renamed (called dag)) (value flat x).faults)
    faults_are x l = parted_faults (called dag) (parts_at flat dag cuts (rep_of dag x)) (value flat x) (stands_for flat dag fine valid wired cuts fits x l)

    -- a fault there that names the least flat vertex of the Op is one of that vertex
    own_is : (x : ℕ) → x < length flat.vertices → (a : Arisen ℕ) → In a (all_faults (tasks_at flat dag cuts (rep_of dag x))) → a.vertex ≡ called dag x → In a (value flat (called dag x)).faults
    own_is x l a m e =
        let first = called dag x in
        let at_x : IsLeast dag x = least_of dag x (has_rep x l) in
        let low : first ≤ x = at_x.least in
        let inside : first < length flat.vertices = omega arith in
        let there : In a (all_faults (tasks_at flat dag cuts (rep_of dag first))) = subst (λ v. In a (all_faults (tasks_at flat dag cuts v))) (sym at_x.stands) m in
        let from = map_in (renamed (called dag)) a (value flat first).faults (((faults_are first inside).members a).0 there) in
        let y : ℕ = from.0.vertex in
        let y_low : y ≤ first = names_low flat fine first inside from.0 from.1 in
        let named : a.vertex ≡ called dag y = ap (λ (z : Arisen ℕ). z.vertex) from.2 in
        let least : called dag y ≤ y = (least_of dag y (has_rep y (omega arith))).least in
        let same : called dag y ≡ y = omega arith in
        subst (λ z. In z (value flat first).faults) (sym (from.2 ∙ (λ k. record { vertex = same k; kind = from.0.kind; rec = from.0.rec }))) from.1

pub computes : (flat : FlatForm) (dag : IrDag) → IsFlat flat → Valid flat dag
    → ((v : ℕ) (node : Node) → slice_get (nodes flat.transforms dag) v ≡ Some node → IsWired (nodes flat.transforms dag) v node) → Computes flat dag
computes flat dag fine valid wired cuts fits x l = record {
  rows = parted_rows (called dag) (parts_at flat dag cuts (rep_of dag x)) (value flat x) (stands_for flat dag fine valid wired cuts fits x l);
  faults = faults_are flat dag fine valid wired cuts fits x l;
  own = own_is flat dag fine valid wired cuts fits x l;
}
