use Rattle.std.proofs.Common.{take}
use Rattle.nemo_job.specs.Readers.{IsMarked}
use Rattle.nemo_job.proofs.readers.mark.Given as goal

-- those so far are marked
abbrev pub invariant-loop-input : goal.invariant-loop-input
invariant-loop-input l = IsMarked (take l.input-index l.inputs) l.place l.initial.last.items l.last.items
