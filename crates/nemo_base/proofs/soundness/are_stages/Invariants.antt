use Rattle.std.proofs.Common.{◌≡◌, drop}
use Rattle.nemo_base.specs.Sound.{all_at, is_stage}
use Rattle.nemo_base.proofs.soundness.are_stages.Given as goal

-- all stages are sound where those that are left are
abbrev pub invariant-loop-number : goal.invariant-loop-number
invariant-loop-number l = all_at (is_stage l.graph) l.number (drop l.number l.stage-items) ≡ all_at (is_stage l.graph) 0 l.stage-items
