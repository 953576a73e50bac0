use Rattle.std.proofs.Common.{◌∙◌, ap, sym, arith, slice_get}
use Rattle.nemo_plan.specs.Making.{leads_on}
use Rattle.nemo_plan.proofs.Made.{members_at, members_long, members_low}
use Rattle.nemo_plan.proofs.ahead.leads_on.Goals as goal

pub index-requires : goal.index-requires
index-requires c = omega (arith, members_long c.args.index.now c.args.made.now c.requires.making, c.requires.within, c.args.made.now.members.ok)

pub members_lead-requires : goal.members_lead-requires
members_lead-requires c = λ i v e.
    members_low c.args.index.now c.args.made.now c.requires.making c.args.stage i v
    (ap (λ xs. slice_get xs i) (sym (c.as_slice-members.ensures ∙ c.index.ensures ∙ members_at c.args.index.now c.args.made.now c.requires.making c.args.stage c.index.result.now c.requires.within)) ∙ e)

pub returns : goal.returns
returns c =
    c.members_lead.ensures
    ∙ ap (λ ss. leads_on c.args.index.now ss c.args.sources.now c.args.closed.now c.args.stage c.as_slice-members.result.now) c.as_slice-stages.ensures
    ∙ ap (leads_on c.args.index.now c.args.made.now.stages c.args.sources.now c.args.closed.now c.args.stage)
    (c.as_slice-members.ensures ∙ c.index.ensures ∙ members_at c.args.index.now c.args.made.now c.requires.making c.args.stage c.index.result.now c.requires.within)
