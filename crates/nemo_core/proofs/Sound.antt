-- In a sound graph the parallelism of a vertex is 1 to 64.
use Rattle.std.proofs.Common.{arith, ◌≡◌, ◌∙◌, ap, sym, ◌≤◌, ◌<◌, ℕ, List, Some, length, true, get_or, slice_get}
use Rattle.std.proofs.lemmas.Option.{slice_get-get_or}
use Rattle.nemo_base.specs.declared.graph.TaskGraph.{TaskGraph}
use Rattle.nemo_base.specs.declared.graph.VertexRow.{VertexRow}
use Rattle.nemo_base.specs.Sound.{is_sound}
use Rattle.nemo_base.proofs.SoundGraphs.{stage_sound, vertex_sound}

pub vertex_bounds : (g : TaskGraph) (vs : List VertexRow) (i : ℕ) (d v : VertexRow) → is_sound g ≡ true → vs ≡ g.vertices → i < length vs → v ≡ get_or vs i d → (1 ≤ v.parallelism) × (v.parallelism ≤ 64)
vertex_bounds g vs i d v sound all lt is =
    let there : slice_get g.vertices i ≡ Some v = ap (λ xs. slice_get xs i) (sym all) ∙ slice_get-get_or vs i d lt ∙ ap (λ x. Some x) (sym is) in
    let f = vertex_sound g i v sound there in
    let t = stage_sound g v.stage f.stage sound f.made_by in
    let same : v.parallelism ≡ f.stage.parallelism = f.parallelism in
    let some : 1 ≤ f.stage.parallelism = t.some in
    let few : f.stage.parallelism ≤ 64 = t.few in
    (omega (arith, same, some), omega (arith, same, few))
