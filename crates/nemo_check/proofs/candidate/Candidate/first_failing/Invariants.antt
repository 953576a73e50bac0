use Rattle.std.proofs.Common.{ℕ, ◌<◌}
use Rattle.nemo_ir.specs.Valid.{Meets}
use Rattle.nemo_check.proofs.candidate.Candidate.first_failing.Given as goal

-- the clause is met at all places so far
abbrev pub invariant-loop-place : goal.invariant-loop-place
invariant-loop-place l = (j : ℕ) → j < l.place → Meets l.self.flat.now l.self.index l.clause j
