use Rattle.std.proofs.Common.{◌∙◌, ap, length, map, ℕ, List}
use Rattle.nemo_base.specs.Places.{map_at}
use Rattle.nemo_ir.specs.Along.{below}
use Rattle.nemo_plan.specs.Graph.{stage_row, vertex_row}
use Rattle.nemo_plan.specs.Stages.{count_stages}
use Rattle.nemo_plan.proofs.CutLaws.{stages_length}
use Rattle.nemo_plan.proofs.graph.graph.Goals as goal

pub vertex_rows-requires : goal.vertex_rows-requires
vertex_rows-requires c = ap length (c.as_slice-6.ensures ∙ c.requires.stages) ∙ stages_length c.args.flat.now c.args.index.now c.requires.valid

pub returns : goal.returns
returns c =
    let flat = c.args.flat.now in
    let dag = c.args.index.now in
    let stages = c.in_ok-stages.ensures ∙ ap (λ (ss : List ℕ). map (stage_row flat dag ss) (below (count_stages ss))) c.requires.stages in
    let vertices = c.in_ok-vertices.ensures ∙ ap (λ (ss : List ℕ). map_at (vertex_row flat dag ss) 0 dag.vertices) (c.as_slice-6.ensures ∙ c.requires.stages) in
    λ i. record { stages = stages i; vertices = vertices i }
