use Rattle.std.proofs.Common.{◌≡◌, ◌∙◌, sym, ap, subst, ◌+◌, min}
use Rattle.nemo_job.specs.Sites.{working}
use Rattle.nemo_job.specs.Walks.{Walked, with_body}
use Rattle.nemo_job.specs.declared.vertex.Work.TheVariants.{Loop}
use Rattle.nemo_job.proofs.Walking.{fails_are, left_at, left_more, loop_walked, ok_more, site_at, walked_all, walked_more}
use Rattle.nemo_job.proofs.refusals.+walk.Goals as goal

pub walk_list-loop-place-preserved : goal.walk_list-loop-place-preserved
walk_list-loop-place-preserved t c = λ d e end w.
    let carry = c.args.carry.now in
    let vs = c.args.vertices.now in
    let i = c.loop-place.place in
    let v = c.index-vertices-place.result in
    let l = c.loop-place-test.true in
    let is = c.index-vertices-place.is in
    let doing = (working v.work).doing in
    let same = ap (with_body doing) c.outer_fails-fails.ensures.fails ∙ fails_are c.args.scope.now carry d c.args.depth i vs v c.requires e l is in
    c.loop-place.invariant d e end
    (subst (λ ss. Walked ss c.loop-place.found end) (sym (left_more carry d i vs v l is))
    (walked_more (site_at carry d i vs v) ((working v.work).sites d) (left_at carry d (i + 1) vs)
    (with_body doing c.outer_fails-fails.result) c.loop-place.found c.in_ok-found.found end
    c.outer_fails-fails.ensures.name same (c.in_ok-found.ensures d e) w))

pub walk_list-returns : goal.walk_list-returns
walk_list-returns t c = λ d e.
    c.loop-place.invariant d e c.loop-place.found (walked_all c.args.carry.now d c.loop-place.place c.args.vertices.now c.loop-place.found c.loop-place-test.false)

pub walk_work-returns-in_ok-scope-in-Loop : goal.walk_work-returns-in_ok-scope-in-Loop
walk_work-returns-in_ok-scope-in-Loop t c =
    let carry = c.as_slice-carry.result.now in
    let body = c.as_slice-body.result.now in
    let next = c.as_slice.result.now in
    let is = c.in-Loop.is
    ∙ ap (λ x. Loop c.in-Loop.turns x c.in-Loop.body c.in-Loop.next) (sym c.as_slice-carry.ensures)
    ∙ ap (λ x. Loop c.in-Loop.turns carry x c.in-Loop.next) (sym c.as_slice-body.ensures)
    ∙ ap (λ x. Loop c.in-Loop.turns carry body x) (sym c.as_slice.ensures) in
    let around : c.min-around.result + 1 ≡ min c.args.depth 2 + 1 = ap (λ n. n + 1) c.min-around.ensures in
    ok_more c.walk_list.result _ _
    (λ end w. loop_walked c.in_ok-scope-in-Loop.scope c.args.work.now c.in-Loop.turns carry body next
    c.args.depth (c.min-around.result + 1) c.args.fails c.loop_fails-fails.result c.args.found c.note-in-Loop.result end
    is c.in_ok-scope-in-Loop.ensures (c.loop_fails-fails.ensures body c.in_ok-scope-in-Loop.ensures) c.note-in-Loop.ensures around w)
    c.walk_list.ensures
