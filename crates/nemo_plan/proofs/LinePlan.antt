-- The plan of a line with a uniform DAG.
use Rattle.std.proofs.Common.{arith, ◌≡◌, ◌∙◌, ap, sym, subst, refl, ℕ, zero, suc, ◌+◌, ◌≤◌, ◌&&◌, List, [], ◌∷◌, length, slice_get, true, Some, nat_le, nat_lt}
use Rattle.std.proofs.lemmas.Bool.{leb-true}
use Rattle.std.proofs.lemmas.Option.{slice_get_within}
use Rattle.std.specs.Cmp.{first_so, second_so}
use Rattle.nemo_base.specs.Places.{map_at}
use Rattle.nemo_transform.specs.declared.transform.Transform.{Transform}
use Rattle.nemo_ir.specs.Along.{passes}
use Rattle.nemo_ir.specs.Flat.{FlatForm, IsFlat}
use Rattle.nemo_ir.specs.Line.{IsLine}
use Rattle.nemo_ir.specs.Nodes.{Node, deed_or, feeds_from, kinds_in, node_of, nodes, nodes_from}
use Rattle.nemo_ir.specs.Uniform.{first_tasks, is_uniform}
use Rattle.nemo_ir.specs.Valid.{Valid, is_within}
use Rattle.nemo_ir.specs.declared.dag.IrDag.{IrDag}
use Rattle.nemo_ir.specs.declared.dag.IrEdge.{IrEdge}
use Rattle.nemo_ir.specs.declared.dag.IrVertex.{IrVertex}
use Rattle.nemo_ir.specs.declared.flat.FlatVertex.{FlatVertex}
use Rattle.nemo_plan.specs.Graph.{vertices_of}
use Rattle.nemo_plan.specs.LinePlan.{IsLinePlan, line_node}
use Rattle.nemo_plan.specs.Stages.{count_stages, stages_of}
use Rattle.nemo_ir.proofs.Places.{from_none, same_item}
use Rattle.nemo_plan.proofs.Cutting.{all_of, one_stage, stages_are}
use Rattle.nemo_plan.proofs.Graphs.{graph_is}
use Rattle.nemo_plan.proofs.Lists.{zeros}
use Rattle.nemo_plan.proofs.Standing.{Standing, standing, vertices_size}

---- the vertices

node_is : (flat : FlatForm) (dag : IrDag) (v : ℕ) (s : Standing flat dag v) → node_of flat.transforms dag.edges v s.op ≡ line_node flat (first_tasks dag.vertices) v s.copy
node_is flat dag v s =
    let deed = s.deed ∙ sym (ap deed_or s.is) in
    let feeds = ap (λ d. feeds_from dag.edges v 0 (kinds_in d)) s.deed ∙ s.feeds in
    λ i. record { deed = deed i; parallelism = s.uniform.tasks i; feeds = feeds i }

-- nodes that are those of the flat vertices place by place
nodes_each : (ts : List Transform) (es : List IrEdge) (make : ℕ → FlatVertex → Node) (k : ℕ) (us : List IrVertex) (xs : List FlatVertex) → length us ≡ length xs
    → ((i : ℕ) (u : IrVertex) (x : FlatVertex) → slice_get us i ≡ Some u → slice_get xs i ≡ Some x → node_of ts es (k + i) u ≡ make (k + i) x) → nodes_from ts es k us ≡ map_at make k xs
nodes_each ts es make k [] [] l h = refl
nodes_each ts es make k [] (x ∷ xs) l h = absurd (omega arith)
nodes_each ts es make k (u ∷ us) [] l h = absurd (omega arith)
nodes_each ts es make k (u ∷ us) (x ∷ xs) l h =
    let here : k ≡ k + 0 = omega arith in
    let first : node_of ts es k u ≡ make k x = ap (λ n. node_of ts es n u) here ∙ h 0 u x refl refl ∙ sym (ap (λ n. make n x) here) in
    let rest : nodes_from ts es (k + 1) us ≡ map_at make (k + 1) xs =
    nodes_each ts es make (k + 1) us xs (omega arith)
    (λ i w y e g. let n : (k + 1) + i ≡ k + suc i = omega arith in ap (λ m. node_of ts es m w) n ∙ h (suc i) w y e g ∙ sym (ap (λ m. make m y) n)) in
    λ i. first i ∷ rest i

pub nodes_are : (flat : FlatForm) (dag : IrDag) → IsFlat flat → IsLine flat → Valid flat dag → is_uniform dag ≡ true → nodes flat.transforms dag ≡ map_at (line_node flat (first_tasks dag.vertices)) 0 flat.vertices
nodes_are flat dag f line valid h =
    let make = line_node flat (first_tasks dag.vertices) in
    nodes_each flat.transforms dag.edges make 0 dag.vertices flat.vertices (sym (vertices_size flat dag f line valid h))
    (λ i u x e g.
    let s = standing flat dag f line valid h i (slice_get_within flat.vertices i x g) in
    let op : u ≡ s.op = same_item u s.op (sym e ∙ s.op_at) in
    let copy : s.copy ≡ x = same_item s.copy x (sym s.copy_at ∙ g) in
    ap (λ n. node_of flat.transforms dag.edges n u) (from_none i)
    ∙ ap (node_of flat.transforms dag.edges i) op ∙ node_is flat dag i s ∙ ap (make i) copy ∙ sym (ap (λ n. make n x) (from_none i)))

---- the parallelism

record IsTasks (n : ℕ) : Type 0 where
  some : 1 ≤ n
  few : n ≤ 64

tasks_within : (flat : FlatForm) (dag : IrDag) → Valid flat dag → (u : IrVertex) → slice_get dag.vertices 0 ≡ Some u → IsTasks u.parallelism
tasks_within flat dag valid u e =
    let is : is_within 0 u ≡ true = sym (ap (passes (is_within 0)) e) ∙ valid.v9 0 (slice_get_within dag.vertices 0 u e) in
    let low = nat_lt 0 4096 && nat_le 1 u.parallelism in
    let high = nat_le u.parallelism 64 in
    record {
      some = leb-true 1 u.parallelism (second_so (nat_lt 0 4096) (nat_le 1 u.parallelism) (first_so low high is));
      few = leb-true u.parallelism 64 (second_so low high is);
    }

---- the plan

one_stage_of : (m : ℕ) → 1 ≤ m → count_stages (zeros m) ≡ 1
one_stage_of zero h = absurd (omega arith)
one_stage_of (suc m) h = one_stage m

-- a line with a uniform DAG is one stage whose vertices are the flat ones
pub line_plan : (flat : FlatForm) (dag : IrDag) → IsFlat flat → IsLine flat → Valid flat dag → is_uniform dag ≡ true → IsLinePlan flat dag (length dag.vertices) (first_tasks dag.vertices)
line_plan flat dag f line valid h =
    let m = length dag.vertices in
    let size : length flat.vertices ≡ m = vertices_size flat dag f line valid h in
    let flat_some : 1 ≤ length flat.vertices = f.some in
    let some : 1 ≤ m = omega arith in
    let s = standing flat dag f line valid h 0 flat_some in
    let t = tasks_within flat dag valid s.op s.op_at in
    let cut = stages_are flat dag f line valid h in
    let one : count_stages (stages_of flat dag) ≡ 1 = ap count_stages cut ∙ one_stage_of m some in
    record {
      some = some;
      tasks = subst (λ n. 1 ≤ n) s.uniform.tasks t.some;
      few = subst (λ n. n ≤ 64) s.uniform.tasks t.few;
      flat_count = size;
      count = refl;
      nodes_are = nodes_are flat dag f line valid h;
      one_stage = one;
      vertices_are = ap (λ ss. vertices_of ss 0) cut ∙ all_of m;
      graph_is = graph_is flat dag f line valid h some one;
    }
