use Rattle.std.proofs.Common.{◌≡◌, ◌++◌, ◌-◌}
use Rattle.std.specs.List.{filter_map}
use Rattle.nemo_ir.specs.Along.{below, counted}
use Rattle.nemo_ir.specs.Nodes.{edge_at}
use Rattle.nemo_plan.specs.Graph.{trigger_along}
use Rattle.nemo_plan.proofs.rows.triggers.Given as goal

-- the Triggers so far, and then those of the ports that are left, are all Triggers
abbrev pub invariant-loop-port : goal.invariant-loop-port
invariant-loop-port l =
    l.all ++ filter_map (λ port. trigger_along l.index (edge_at l.index.edges l.v port)) (counted l.port (l.ports - l.port))
    ≡ filter_map (λ port. trigger_along l.index (edge_at l.index.edges l.v port)) (below l.ports)
