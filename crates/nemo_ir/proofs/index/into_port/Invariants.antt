use Rattle.std.proofs.Common.{◌≡◌, ◌==◌, drop}
use Rattle.std.specs.List.{find}
use Rattle.nemo_ir.proofs.index.into_port.Given as goal

-- the first is the first among those that are left
abbrev pub invariant-loop-e : goal.invariant-loop-e
invariant-loop-e l = find (λ e. e.port == l.port) (drop l.e-index l.edges) ≡ find (λ e. e.port == l.port) l.edges
