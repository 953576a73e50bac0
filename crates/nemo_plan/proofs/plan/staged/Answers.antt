use Rattle.std.proofs.Common.{◌∙◌, ap, map, ℕ, List}
use Rattle.nemo_ir.specs.Along.{below}
use Rattle.nemo_plan.specs.Graph.{vertices_of}
use Rattle.nemo_plan.specs.Stages.{count_stages, stages_of}
use Rattle.nemo_plan.proofs.plan.staged.Goals as goal

pub returns-clause-stages : goal.returns-clause-stages
returns-clause-stages c =
    c.from_vec.ensures
    ∙ c.in_ok-made.ensures.making.members
    ∙ ap (λ (ss : List ℕ). map (vertices_of ss) (below (count_stages ss))) (c.in_ok-made.ensures.stages ∙ ap (stages_of c.args.flat.now) c.in_ok-index.ensures)
