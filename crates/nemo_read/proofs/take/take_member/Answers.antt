use Rattle.serde_json.specs.View.{view}
use Rattle.nemo_read.proofs.Members.{taken, others}
use Rattle.nemo_read.proofs.take.take_member.Goals as goal

pub returns-in-Some-clause-member : goal.returns-in-Some-clause-member
returns-in-Some-clause-member c = taken c.args.name.now (view c.args.value.now) c.in-Some.members.now c.remove.result c.in-Some.ensures.value c.remove.ensures.value

pub returns-in-Some-clause-others : goal.returns-in-Some-clause-others
returns-in-Some-clause-others c = others c.args.name.now (view c.args.value.now) c.in-Some.members.now c.remove.new.self c.in-Some.ensures.value c.remove.ensures.updates
