use Rattle.std.proofs.Common.{◌≡◌, map, take}
use Rattle.std.specs.Prelude.{unwrap_or}
use Rattle.nemo_job.proofs.copies.inputs_of.Given as goal

-- those of the ports so far
abbrev pub invariant-loop-port : goal.invariant-loop-port
invariant-loop-port l = l.inputs ≡ map (λ p. unwrap_or p l.place) (take l.port-index l.ports)
