use Rattle.std.proofs.Common.{◌≡◌, ◌∙◌, ◌<◌, ap, sym, subst, arith, get_or, length, map, replicate, slice_get, Some, ℕ, List}
use Rattle.std.proofs.lemmas.Option.{slice_get-get_or}
use Rattle.nemo_base.specs.declared.graph.Read.{Read}
use Rattle.nemo_ir.specs.Along.{below}
use Rattle.nemo_ir.proofs.Tables.{at_below, long_below}
use Rattle.nemo_plan.specs.Graph.{greatest, rank_of, reads_of}
use Rattle.nemo_plan.specs.Order.{IsForward}
use Rattle.nemo_plan.specs.Ranking.{rank_over}
use Rattle.nemo_plan.specs.Stages.{count_stages, stages_of}
use Rattle.nemo_plan.proofs.Closing.{order_low}
use Rattle.nemo_plan.proofs.RankTable.{all_ranked, next_ranked, none_ranked, over_is}
use Rattle.nemo_plan.proofs.ranking.ranks.Goals as goal

pub loop-stage-init : goal.loop-stage-init
loop-stage-init c =
    none_ranked c.args.flat.now c.args.dag.now c.requires.valid c.args.order.now (subst (λ (ss : List ℕ). IsForward c.args.dag.now.edges ss c.args.order.now) c.requires.stages c.requires.order) c.in_ok-ranks.ranks.items
    (c.in_ok-ranks.ensures ∙ ap (λ (n : ℕ). replicate n 0) (c.requires.order.count ∙ ap count_stages c.requires.stages))

pub bounds-reads-at : goal.bounds-reads-at
bounds-reads-at c =
    let i : ℕ = c.loop-stage.stage-index in
    let low : get_or c.args.order.now c.loop-stage.stage-index 0 < count_stages c.args.stages.now =
    order_low c.args.dag.now.edges c.args.stages.now c.args.order.now c.requires.order i _ (slice_get-get_or c.args.order.now i 0 c.loop-stage-test.true) in
    let size : length c.args.reads.now ≡ count_stages c.args.stages.now = ap length c.requires.reads ∙ long_below (reads_of c.args.flat.now c.args.dag.now c.args.stages.now) (count_stages c.args.stages.now) in
    omega arith

pub index_mut-requires : goal.index_mut-requires
index_mut-requires c =
    let i : ℕ = c.loop-stage.stage-index in
    let low : get_or c.args.order.now c.loop-stage.stage-index 0 < count_stages c.args.stages.now =
    order_low c.args.dag.now.edges c.args.stages.now c.args.order.now c.requires.order i _ (slice_get-get_or c.args.order.now i 0 c.loop-stage-test.true) in
    let same : count_stages c.args.stages.now ≡ count_stages (stages_of c.args.flat.now c.args.dag.now) = ap count_stages c.requires.stages in
    omega (arith, c.loop-stage.invariant.size, c.loop-stage.ranks.ok)

pub loop-stage-preserved : goal.loop-stage-preserved
loop-stage-preserved c =
    let flat = c.args.flat.now in
    let dag = c.args.dag.now in
    let order = c.args.order.now in
    let i : ℕ = c.loop-stage.stage-index in
    let m : ℕ = get_or c.args.order.now c.loop-stage.stage-index 0 in
    let forward = subst (λ (ss : List ℕ). IsForward dag.edges ss order) c.requires.stages c.requires.order in
    let at : slice_get c.args.order.now c.loop-stage.stage-index ≡ Some (get_or c.args.order.now c.loop-stage.stage-index 0) = slice_get-get_or order i 0 c.loop-stage-test.true in
    let low : get_or c.args.order.now c.loop-stage.stage-index 0 < count_stages c.args.stages.now = order_low dag.edges c.args.stages.now order c.requires.order i m at in
    let reads : c.as_slice-in-loop-stage.result.now ≡ reads_of c.args.flat.now c.args.dag.now c.args.stages.now (get_or c.args.order.now c.loop-stage.stage-index 0) =
    c.as_slice-in-loop-stage.ensures
    ∙ c.index-reads-at.is
    ∙ ap (λ (t : List (List Read)). get_or t m c.index-reads-at.result) c.requires.reads ∙ at_below (reads_of flat dag c.args.stages.now) (count_stages c.args.stages.now) m c.index-reads-at.result low in
    next_ranked flat dag c.requires.valid order forward i m c.loop-stage.ranks.items c.loop-stage.invariant at c.rank-rank.result
    (c.rank-rank.ensures
    ∙ ap (λ (rs : List ℕ). greatest (map (rank_over c.args.stages.now rs) c.as_slice-in-loop-stage.result.now)) c.as_slice.ensures.value
    ∙ ap (λ (rs : List Read). greatest (map (rank_over c.args.stages.now c.loop-stage.ranks.items) rs)) reads
    ∙ ap (λ (ss : List ℕ). greatest (map (rank_over ss c.loop-stage.ranks.items) (reads_of flat dag ss m))) c.requires.stages ∙ over_is flat dag c.requires.valid order forward i m c.loop-stage.ranks.items c.loop-stage.invariant at)

pub returns : goal.returns
returns c =
    let flat = c.args.flat.now in
    let dag = c.args.dag.now in
    let order = c.args.order.now in
    all_ranked flat dag c.requires.valid order (subst (λ (ss : List ℕ). IsForward dag.edges ss order) c.requires.stages c.requires.order) c.loop-stage.stage-index c.loop-stage.ranks.items c.loop-stage-test.false c.loop-stage.invariant
    ∙ sym (ap (λ (ss : List ℕ). map (rank_of flat dag ss) (below (count_stages ss))) c.requires.stages)
