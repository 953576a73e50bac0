use Rattle.std.proofs.Common.{◌≡◌, drop}
use Rattle.nemo_plan.specs.Making.{leads_on}
use Rattle.nemo_plan.proofs.ahead.members_lead.Given as goal

-- one of all leads on where one of those that are left does
abbrev pub invariant-loop-v : goal.invariant-loop-v
invariant-loop-v l = leads_on l.index l.stages l.sources l.closed l.stage (drop l.v-index l.members) ≡ leads_on l.index l.stages l.sources l.closed l.stage l.members
