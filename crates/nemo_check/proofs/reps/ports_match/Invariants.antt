use Rattle.std.proofs.Common.{◌≡◌, drop}
use Rattle.nemo_check.specs.Tables.{ports_match}
use Rattle.nemo_check.proofs.reps.ports_match.Given as goal

-- all match where those that are left do
abbrev pub invariant-loop-port : goal.invariant-loop-port
invariant-loop-port l = ports_match l.candidate.index l.v l.port (drop l.port l.inputs) ≡ ports_match l.candidate.index l.v 0 l.inputs
