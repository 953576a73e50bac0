use Rattle.std.proofs.Common.{◌∙◌, ◌≤◌, ap, sym, subst, arith, length, slice_get, List}
use Rattle.std.proofs.lemmas.Option.{slice_get-get_or}
use Rattle.nemo_ir.specs.declared.dag.IrVertex.{IrVertex}
use Rattle.nemo_plan.specs.Stages.{count_stages}
use Rattle.nemo_plan.proofs.Growing.{all_up, next_up, none_up}
use Rattle.nemo_plan.proofs.Made.{members_long}
use Rattle.nemo_plan.proofs.RankTable.{few_vertices}
use Rattle.nemo_plan.proofs.cut.cut.Goals as goal

pub put-requires-clause-stages : goal.put-requires-clause-stages
put-requires-clause-stages c =
    let making = c.loop-u.invariant.making in
    let few : count_stages c.loop-u.made.stages ≤ length c.loop-u.made.stages = making.few in
    let within : length c.loop-u.made.stages ≤ length c.args.index.now.vertices = making.within in
    let all : length c.args.index.now.vertices ≤ 4096 = few_vertices c.args.flat.now c.args.index.now c.requires in
    omega (arith, members_long c.args.index.now c.loop-u.made making)

pub loop-u-preserved : goal.loop-u-preserved
loop-u-preserved c =
    next_up c.args.flat.now c.args.index.now c.requires c.loop-u.u-index c.loop-u.made c.put.new.made _
    (ap (λ (xs : List IrVertex). slice_get xs c.loop-u.u-index) (sym (c.as_slice-u-items.ensures ∙ ap (λ d. d.vertices) c.dag.ensures)) ∙ slice_get-get_or c.as_slice-u-items.result.now c.loop-u.u-index _ c.loop-u-test.true) c.loop-u.invariant c.in_ok-chosen.chosen
    c.in_ok-chosen.ensures c.in_ok-put.ensures

pub choice-requires-clause-making : goal.choice-requires-clause-making
choice-requires-clause-making c = c.loop-u.invariant.making

pub choice-requires-clause-next : goal.choice-requires-clause-next
choice-requires-clause-next c =
    ap (slice_get c.args.index.now.vertices) c.loop-u.invariant.size
    ∙ ap (λ (xs : List IrVertex). slice_get xs c.loop-u.u-index) (sym (c.as_slice-u-items.ensures ∙ ap (λ d. d.vertices) c.dag.ensures))
    ∙ slice_get-get_or c.as_slice-u-items.result.now c.loop-u.u-index _ c.loop-u-test.true

pub returns-clause-making : goal.returns-clause-making
returns-clause-making c = c.loop-u.invariant.making

pub returns-clause-stages : goal.returns-clause-stages
returns-clause-stages c =
    all_up c.args.flat.now c.args.index.now c.loop-u.u-index c.loop-u.made
    (subst (λ (xs : List IrVertex). length xs ≤ c.loop-u.u-index) (c.as_slice-u-items.ensures ∙ ap (λ d. d.vertices) c.dag.ensures) c.loop-u-test.false) c.loop-u.invariant

pub loop-u-init : goal.loop-u-init
loop-u-init c = none_up c.args.flat.now c.args.index.now (record { stages = c.new.result; members = c.new-2.result; order = c.new-3.result }) c.new.ensures c.new-2.ensures.items c.new-3.ensures

pub put-requires-clause-vertices : goal.put-requires-clause-vertices
put-requires-clause-vertices c =
    let within : length c.loop-u.made.stages ≤ length c.args.index.now.vertices = c.loop-u.invariant.making.within in
    let all : length c.args.index.now.vertices ≤ 4096 = few_vertices c.args.flat.now c.args.index.now c.requires in
    omega arith
