use Rattle.std.proofs.Common.{◌≡◌, ◌∙◌, ◌+◌, ap, sym, get_or, true, false}
use Rattle.std.specs.Prelude.{is_some}
use Rattle.nemo_transform.specs.Brought.{port}
use Rattle.nemo_job.proofs.Blocking.{has_faults, other_at, other_below, blocked_at, free_more, free_after}
use Rattle.nemo_job.proofs.Feeding.{faults_of_port}
use Rattle.nemo_job.proofs.held.is_blocked.Goals as goal

pub returns-then-is_some : goal.returns-then-is_some
returns-then-is_some c = λ vals feeds.
    let inputs = c.args.inputs.now in
    let main = c.ports-main.result.main in
    let k = c.loop-input.input-index in
    let h = c.index-held-input.result in
    let at : h ≡ get_or c.args.held.now (get_or inputs (main + k) 0) h = c.index-held-input.is ∙ ap (λ j. get_or c.args.held.now j h) (other_at inputs main k) in
    let so : has_faults (port vals (get_or inputs (main + k) 0)) ≡ true =
    sym (c.if-is_some.ensures ∙ ap (λ g. is_some g.first) (sym c.index-held-input.is) ∙ faults_of_port vals c.args.held.now inputs (main + k) h feeds c.requires.within (other_below inputs main k c.loop-input-test.true) at) in
    blocked_at c.args.transform.now vals inputs main k c.ports-main.ensures.main c.requires.ports c.loop-input-test.true so

pub loop-input-preserved : goal.loop-input-preserved
loop-input-preserved c = λ vals feeds.
    let inputs = c.args.inputs.now in
    let main = c.ports-main.result.main in
    let k = c.loop-input.input-index in
    let h = c.index-held-input.result in
    let at : h ≡ get_or c.args.held.now (get_or inputs (main + k) 0) h = c.index-held-input.is ∙ ap (λ j. get_or c.args.held.now j h) (other_at inputs main k) in
    let so : has_faults (port vals (get_or inputs (main + k) 0)) ≡ false =
    sym (c.if-is_some.ensures ∙ ap (λ g. is_some g.first) (sym c.index-held-input.is) ∙ faults_of_port vals c.args.held.now inputs (main + k) h feeds c.requires.within (other_below inputs main k c.loop-input-test.true) at) in
    free_more vals inputs main k c.loop-input-test.true so (c.loop-input.invariant vals feeds)

pub returns : goal.returns
returns c = λ vals feeds.
    free_after c.args.transform.now vals c.args.inputs.now c.ports-main.result.main c.loop-input.input-index c.ports-main.ensures.main c.requires.ports c.loop-input-test.false (c.loop-input.invariant vals feeds)
