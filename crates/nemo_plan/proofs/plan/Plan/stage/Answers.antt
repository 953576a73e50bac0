use Rattle.std.proofs.Common.{◌≡◌, ◌∙◌, ◌<◌, ap, sym, subst, ℕ, List, length, get_or}
use Rattle.std.proofs.lemmas.Option.{get_or_from_slice_get}
use Rattle.nemo_plan.specs.Form.{PlanForm}
use Rattle.nemo_plan.specs.Graph.{vertices_of}
use Rattle.nemo_plan.specs.Kept.{stage_lists}
use Rattle.nemo_plan.specs.Stages.{count_stages, stages_of}
use Rattle.nemo_plan.proofs.Lists.{below_count, below_item}
use Rattle.nemo_plan.proofs.plan.Plan.stage.Goals as goal

abbrev count : PlanForm → ℕ
count p = count_stages (stages_of p.flat p.dag)

abbrev lists : PlanForm → List (List ℕ)
lists p = stage_lists p.flat p.dag

pub bounds-as_slice-number : goal.bounds-as_slice-number
bounds-as_slice-number c =
    let p : PlanForm = c.args.self.now in
    let all : c.as_slice.result.now ≡ lists p = c.as_slice.ensures ∙ c.self.invariant.cut ∙ ap lists c.self.view_is in
    let size : length (lists p) ≡ count p = below_count (vertices_of (stages_of p.flat p.dag)) (count p) in
    subst (λ n. c.args.number < n) (sym (ap length all ∙ size)) c.requires

pub returns : goal.returns
returns c =
    let p : PlanForm = c.args.self.now in
    let all : c.as_slice.result.now ≡ lists p = c.as_slice.ensures ∙ c.self.invariant.cut ∙ ap lists c.self.view_is in
    c.index-as_slice-number.is
    ∙ ap (λ ls. get_or ls c.args.number c.index-as_slice-number.result) all
    ∙ get_or_from_slice_get (lists p) c.args.number (vertices_of (stages_of p.flat p.dag) c.args.number) c.index-as_slice-number.result
    (below_item (vertices_of (stages_of p.flat p.dag)) (count p) c.args.number c.requires)
