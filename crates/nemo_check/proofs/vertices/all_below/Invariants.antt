use Rattle.std.proofs.Common.{◌≡◌, drop, map, nat_lt}
use Rattle.std.specs.List.{list_all}
use Rattle.nemo_check.proofs.vertices.all_below.Given as goal

abbrev pub invariant-loop-e : goal.invariant-loop-e
invariant-loop-e l = list_all (λ q. nat_lt q l.ports) (map (λ e. e.port) (drop l.e-index l.edges)) ≡ list_all (λ q. nat_lt q l.ports) (map (λ e. e.port) l.edges)
