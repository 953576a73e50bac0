use Rattle.std.proofs.Common.{◌≡◌, ◌∙◌, ◌+◌, ◌<◌, ◌≤◌, ap, sym, arith, map, max, take, ℕ}
use Rattle.nemo_plan.specs.Graph.{greatest}
use Rattle.nemo_plan.specs.Ranking.{rank_over}
use Rattle.nemo_plan.proofs.Walks.{greatest_next}
use Rattle.nemo_plan.proofs.ranking.rank.Goals as goal
use Rattle.nemo_plan.proofs.ranking.rank.Goals.{then-most-over, else-most-over}

pub loop-read-preserved : goal.loop-read-preserved
loop-read-preserved c =
    let f = rank_over c.args.stages.now c.args.ranks.now in
    let i : ℕ = c.loop-read.read-index in
    let so : c.loop-read.most ≡ greatest (map (rank_over c.args.stages.now c.args.ranks.now) (take i c.args.reads.now)) = c.loop-read.invariant in
    let next : greatest (map (rank_over c.args.stages.now c.args.ranks.now) (take (i + 1) c.args.reads.now)) ≡ max (greatest (map (rank_over c.args.stages.now c.args.ranks.now) (take i c.args.reads.now))) c.rank_over-over.result =
    greatest_next f c.args.reads.now i _ c.loop-read-test.true ∙ ap (max (greatest (map f (take i c.args.reads.now)))) (sym c.rank_over-over.ensures) in
    elim c.if-most-over.branch [
      | then-most-over w ↦ (let is : c.if-most-over.most ≡ c.rank_over-over.result = w.most-is in let less : c.loop-read.most < c.rank_over-over.result = w.if-most-over.true in omega arith)
      | else-most-over w ↦ (let is : c.if-most-over.most ≡ c.loop-read.most = w.most-is in let less : c.rank_over-over.result ≤ c.loop-read.most = w.if-most-over.false in omega arith)
    ]
