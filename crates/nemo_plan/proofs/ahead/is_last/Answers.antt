use Rattle.std.proofs.Common.{◌≡◌, ◌∙◌, ◌+◌, ◌≤◌, ◌&&◌, ap, sym, subst, arith, false, slice_get, get_or, Some, ℕ}
use Rattle.std.proofs.lemmas.Option.{slice_get-get_or}
use Rattle.nemo_plan.specs.Making.{is_marked}
use Rattle.nemo_plan.specs.Order.{place}
use Rattle.nemo_plan.proofs.LastSource.{IsLastSoFar, last_here, last_past}
use Rattle.nemo_plan.proofs.ahead.is_last.Goals as goal
use Rattle.nemo_plan.proofs.ahead.is_last.Goals.{then-other-stage, else-other-stage+else-passed, else-passed-via-then-passed+else-is_marked, else-passed-via-else-passed}

pub loop-other-preserved : goal.loop-other-preserved
loop-other-preserved c =
    let order = c.args.order.now in
    let sources = c.args.sources.now in
    let i : ℕ = c.loop-other.other-index in
    let x : ℕ = get_or c.args.order.now i 0 in
    let at : slice_get c.args.order.now i ≡ Some x = slice_get-get_or c.args.order.now i 0 c.loop-other-test.true in
    elim c.if-other-stage.branch [
      | then-other-stage w ↦ subst (IsLastSoFar order sources c.args.stage (i + 1)) (sym w.passed-is) (last_here order sources c.args.stage i x c.loop-other.passed at c.loop-other.invariant w.if-other-stage.true)
      | else-other-stage+else-passed w ↦
          subst (IsLastSoFar order sources c.args.stage (i + 1)) (sym w.passed-is)
          (last_past order sources c.args.stage i x c.loop-other.passed at c.loop-other.invariant w.if-other-stage.false
          (elim w.else-passed.branch [
            | else-passed-via-then-passed+else-is_marked u ↦ (let none : is_marked sources x ≡ false = sym u.is_marked.ensures ∙ u.if-is_marked.false in ap (λ b. c.loop-other.passed && b) none ∙ ap (λ b. b && false) u.if-passed.true)
            | else-passed-via-else-passed u ↦ ap (λ b. b && is_marked sources x) u.if-passed.false
          ]))
    ]

pub returns : goal.returns
returns c = λ _ a m d l.
    let far : c.loop-other.other-index ≤ place c.args.order.now a = c.loop-other.invariant.none a m d l in
    omega (arith, c.loop-other-test.false)
