use Rattle.std.proofs.Common.{◌≡◌, ◌∙◌, ap, sym, ◌==◌, false, map, take, List}
use Rattle.std.proofs.lemmas.List.{take_all}
use Rattle.std.specs.List.{list_any}
use Rattle.nemo_ir.specs.Along.{below, passes}
use Rattle.nemo_ir.specs.declared.dag.IrEdge.{IrEdge}
use Rattle.nemo_ir.proofs.Tables.{below_same}
use Rattle.nemo_plan.specs.Making.{is_source}
use Rattle.nemo_plan.specs.Stages.{stage_at}
use Rattle.nemo_plan.proofs.Walks.{marked_next}
use Rattle.nemo_plan.proofs.ahead.sources.Goals as goal

pub loop-e-init : goal.loop-e-init
loop-e-init c = c.in_ok-table.ensures ∙ sym (below_same false c.args.count)

pub loop-e-preserved : goal.loop-e-preserved
loop-e-preserved c = marked_next c.args.stages.now c.args.count c.loop-e.e-index c.in_edges-e-items.result.now _ c.loop-e.table.items c.mark.new.table.items c.loop-e-test.true c.loop-e.invariant c.mark.ensures

pub returns : goal.returns
returns c =
    let all : take c.loop-e.e-index c.in_edges-e-items.result.now ≡ c.in_edges-e-items.result.now = take_all c.loop-e.e-index c.in_edges-e-items.result.now c.loop-e-test.false in
    c.loop-e.invariant
    ∙ ap (λ (xs : List IrEdge). map (λ s. list_any (λ e. passes (λ a. a == s) (stage_at c.args.stages.now e.from)) xs) (below c.args.count)) (all ∙ c.in_edges-e-items.ensures)
    ∙ ap (λ n. map (is_source c.args.index.now c.args.stages.now c.args.v) (below n)) c.requires.count
