use Rattle.std.proofs.Common.{arith, ◌≡◌, nat_le, ◌∙◌, ap, sym, subst, ◌==◌, true, filter, take, drop}
use Rattle.std.proofs.lemmas.List.Sums.{prefix_len-le-length}
use Rattle.nemo_place.specs.Runs.{rises_from}
use Rattle.nemo_place.proofs.Splits.{back, front, left}
use Rattle.nemo_place.proofs.runs.split.Goals as goal

pub returns-then-in_order-clause-into : goal.returns-then-in_order-clause-into
returns-then-in_order-clause-into c =
    let v = c.args.v in
    let es = c.args.edges.now in
    ap (filter (λ e. e.to == v)) (c.split_at.ensures.front ∙ ap (λ n. take n es) c.run.ensures) ∙ front v 0 es (c.requires c.if-in_order.true)

pub returns-then-in_order-clause-later : goal.returns-then-in_order-clause-later
returns-then-in_order-clause-later c = λ w l.
    let es = c.args.edges.now in
    ap (filter (λ e. e.to == w)) (c.split_at.ensures.back ∙ ap (λ n. drop n es) c.run.ensures) ∙ back c.args.v w es l

pub returns-then-in_order-clause-order : goal.returns-then-in_order-clause-order
returns-then-in_order-clause-order c = λ is.
    subst (λ es. rises_from 0 es ≡ true) (sym c.split_at.ensures.back) (left c.run.result 0 c.args.edges.now (c.requires is))

pub split_at-requires : goal.split_at-requires
split_at-requires c = omega (arith, c.run.ensures, prefix_len-le-length (λ e. nat_le e.to c.args.v) c.args.edges.now)
