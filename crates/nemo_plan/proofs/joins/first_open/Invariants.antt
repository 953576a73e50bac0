use Rattle.std.proofs.Common.{◌≡◌, ◌-◌}
use Rattle.nemo_ir.specs.Along.{below, counted}
use Rattle.nemo_plan.specs.Making.{open_at}
use Rattle.nemo_plan.specs.Stages.{first_joined}
use Rattle.nemo_plan.proofs.joins.first_open.Given as goal

-- the first is the first among the ports that are left
abbrev pub invariant-loop-port : goal.invariant-loop-port
invariant-loop-port l =
    first_joined (open_at l.index l.stages l.v l.class l.closed) (counted l.port (l.ports - l.port)) ≡ first_joined (open_at l.index l.stages l.v l.class l.closed) (below l.ports)
