use Rattle.std.proofs.Common.{◌≡◌, ◌++◌, drop}
use Rattle.nemo_flat.specs.FirstDag.{edge_into, edges_into, ports_of}
use Rattle.nemo_base.specs.Numbered.{map_at}
use Rattle.nemo_ir.specs.Flat.{transform_of}
use Rattle.nemo_flat.proofs.first.edges_into.Given as goal

-- the edges so far, and then those into the ports that are left, are all edges
abbrev pub invariant-loop-port : goal.invariant-loop-port
invariant-loop-port l = l.all ++ map_at (edge_into (ports_of (transform_of l.flat l.x)) l.to) l.port (drop l.port l.x.inputs) ≡ edges_into l.flat l.to l.x
