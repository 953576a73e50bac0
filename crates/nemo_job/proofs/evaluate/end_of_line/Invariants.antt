use Rattle.nemo_job.specs.Lines.{IsJoined}
use Rattle.nemo_job.proofs.evaluate.end_of_line.Given as goal

-- the copies so far are a line
abbrev pub invariant-loop-end : goal.invariant-loop-end
invariant-loop-end l = IsJoined l.nodes l.last l.place l.end
