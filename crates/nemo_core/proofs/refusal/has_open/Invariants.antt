use Rattle.std.proofs.Common.{◌≡◌, drop}
use Rattle.nemo_core.specs.Numbered.{any_at}
use Rattle.nemo_core.specs.Step.{is_open}
use Rattle.nemo_core.proofs.refusal.has_open.Given as goal

abbrev pub invariant-loop-v : goal.invariant-loop-v
invariant-loop-v l = any_at (is_open l.cuts l.stage) l.v (drop l.v l.vertices) ≡ any_at (is_open l.cuts l.stage) 0 l.vertices
