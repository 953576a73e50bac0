use Rattle.std.proofs.Common.{◌≡◌, ◌==◌, ◌-◌, count_by, map}
use Rattle.std.specs.List.{list_all}
use Rattle.nemo_ir.specs.Along.{counted, below}
use Rattle.nemo_check.proofs.vertices.all_once.Given as goal

-- all are named once where those that are left are
abbrev pub invariant-loop-port : goal.invariant-loop-port
invariant-loop-port l =
    list_all (λ p. count_by (λ q. q == p) (map (λ e. e.port) l.edges) == 1) (counted l.port (l.ports - l.port)) ≡ list_all (λ p. count_by (λ q. q == p) (map (λ e. e.port) l.edges) == 1) (below l.ports)
