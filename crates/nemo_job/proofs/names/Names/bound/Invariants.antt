use Rattle.std.proofs.Common.{length, map, take, zip}
use Rattle.nemo_job.specs.NamesBound.{HasNames}
use Rattle.nemo_job.proofs.ScopeNames.{one_bound}
use Rattle.nemo_job.proofs.names.Names.bound.Given as goal

-- the ports so far have their names
abbrev pub invariant-loop-port : goal.invariant-loop-port
invariant-loop-port l = HasNames (map one_bound (take (length l.yielded) (zip l.ports l.carry))) l.names
