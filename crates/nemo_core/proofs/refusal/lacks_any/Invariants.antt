use Rattle.std.proofs.Common.{◌≡◌, drop}
use Rattle.nemo_core.specs.Numbered.{any_at}
use Rattle.nemo_core.specs.Step.{lacks_sink}
use Rattle.nemo_core.proofs.refusal.lacks_any.Given as goal

abbrev pub invariant-loop-v : goal.invariant-loop-v
invariant-loop-v l = any_at (lacks_sink l.graph) l.v (drop l.v l.blocks) ≡ any_at (lacks_sink l.graph) 0 l.blocks
