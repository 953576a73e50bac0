use Rattle.std.proofs.Common.{◌≡◌, ◌∙◌, ◌<◌, ap, subst, length, get_or}
use Rattle.nemo_ir.specs.Flat.{IsFlat}
use Rattle.nemo_ir.proofs.FlatPlaces.{few_inputs}
use Rattle.nemo_flat.proofs.first.edges.Goals as goal

pub edges_into-requires : goal.edges_into-requires
edges_into-requires c =
    let to = c.loop-to.to in
    let x = c.index-vertices-to.result in
    let all : c.as_slice-vertices.result.now ≡ c.args.flat.now.vertices = c.as_slice-vertices.ensures ∙ ap (λ f. f.vertices) c.flat.view_is in
    few_inputs c.args.flat.now (subst IsFlat c.flat.view_is c.flat.invariant) to x
    (subst (λ vs. to < length vs) all c.loop-to-test.true)
    (c.index-vertices-to.is ∙ ap (λ vs. get_or vs to x) all)
