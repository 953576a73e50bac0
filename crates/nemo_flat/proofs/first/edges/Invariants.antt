use Rattle.std.proofs.Common.{◌≡◌, ◌++◌, drop}
use Rattle.std.specs.List.{flat_map}
use Rattle.nemo_flat.specs.FirstDag.{edges_into}
use Rattle.nemo_base.specs.Numbered.{map_at}
use Rattle.nemo_flat.proofs.first.edges.Given as goal

-- the edges so far, and then those into the vertices that are left, are all edges
abbrev pub invariant-loop-to : goal.invariant-loop-to
invariant-loop-to l =
    l.all.items ++ flat_map (λ es. es) (map_at (edges_into l.flat) l.to (drop l.to l.vertices)) ≡ flat_map (λ es. es) (map_at (edges_into l.flat) 0 l.vertices)
