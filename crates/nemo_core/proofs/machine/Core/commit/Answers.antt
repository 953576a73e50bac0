use Rattle.std.proofs.Common.{◌∙◌, ap, sym}
use Rattle.nemo_core.specs.Run.{stepped}
use Rattle.nemo_core.specs.Step.{running_of}
use Rattle.nemo_core.specs.contracts.machine.Core.{the_view}
use Rattle.nemo_core.specs.declared.event.Event.TheVariants.{Commit}
use Rattle.nemo_core.proofs.Commits.{committed}
use Rattle.nemo_core.proofs.Single.{within_ended}
use Rattle.nemo_core.proofs.machine.Core.commit.Goals as goal

pub invariant_of-self : goal.invariant_of-self
invariant_of-self c =
    within_ended c.self.inside.taken c.self.inside.launches c.self.inside.commits _ c.args.attempt c.in-Some.place.stage c.self.inside.tasks c.end.new.tasks c.self.inside.sealed.items c.self.invariant c.end.ensures

pub returns : goal.returns
returns c =
    committed (the_view c.self.inside) c.args.attempt c.in-Some.place.stage c.in-Some.place.index c.in-Some-running_of.running c.as_slice.result.now c.end.new.tasks c.fill.new.blocks c.self.invariant.single c.self.invariant.seals c.in-Some.ensures.there
    (ap running_of (sym c.task_at.ensures) ∙ sym c.running_of.ensures ∙ c.in-Some-running_of.is)
    c.as_slice.ensures.value
    c.end.ensures
    c.fill.ensures
    ∙ ap (λ m. stepped m (Commit c.args.attempt)) c.self.view_is
