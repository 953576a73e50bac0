use Rattle.std.proofs.Common.{◌≡◌, ◌++◌, ◌-◌}
use Rattle.std.specs.List.{filter_map}
use Rattle.nemo_ir.specs.Along.{below, counted}
use Rattle.nemo_ir.specs.Nodes.{edge_at}
use Rattle.nemo_plan.specs.Graph.{read_along}
use Rattle.nemo_plan.proofs.reading.push_reads.Given as goal

-- the reads so far, and then those of the ports that are left, are all reads
abbrev pub invariant-loop-port : goal.invariant-loop-port
invariant-loop-port l =
    l.all ++ filter_map (λ port. read_along l.stages (edge_at l.index.edges l.v port)) (counted l.port (l.port-end - l.port))
    ≡ l.fn.all ++ filter_map (λ port. read_along l.stages (edge_at l.index.edges l.v port)) (below l.port-end)
