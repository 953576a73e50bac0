use Rattle.std.proofs.Common.{ℕ, Option, drop}
use Rattle.nemo_ir.specs.declared.clause.Clause.{Clause}
use Rattle.nemo_check.specs.Finds.{Judges}
use Rattle.nemo_check.proofs.candidate.Candidate.first_failure.Given as goal

-- what is found among the clauses that are left is the answer
abbrev pub invariant-loop-clause : goal.invariant-loop-clause
invariant-loop-clause l = (r : Option (Clause × ℕ)) → Judges l.self.flat.now l.self.index (drop l.clause-index l.clauses) r → Judges l.self.flat.now l.self.index l.clauses r
