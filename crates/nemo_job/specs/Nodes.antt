-- The copies of a job's vertices as an evaluation has them.
use Rattle.std.specs.Prelude.{string_bytes}
use Rattle.nemo_job.specs.Unrolled.{Copy}
use Rattle.nemo_job.specs.declared.copies.Node.{Node}

-- a copy without references to its parts
abbrev pub copy_of : Node → Copy
copy_of n = record { path = string_bytes n.path; number = n.number; transform = n.transform.now; inputs = n.inputs }
