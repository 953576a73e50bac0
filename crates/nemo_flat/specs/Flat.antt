-- The flat job of a job. Loops come later: until then a job is a chain, and each vertex has one copy.
use Rattle.std.specs.Prelude.{◌≡◌, ℕ, List, Option, Some, None, true}
use Rattle.std.specs.List.{filter_map}
use Rattle.nemo_transform.specs.declared.transform.Transform.{Transform}
use Rattle.nemo_base.specs.Numbered.{map_at}
use Rattle.nemo_ir.specs.Flat.{FlatForm}
use Rattle.nemo_ir.specs.Line.{one_before}
use Rattle.nemo_ir.specs.declared.flat.FlatVertex.{FlatVertex}
use Rattle.nemo_job.specs.Chain.{is_built}
use Rattle.nemo_job.specs.Paths.{paths}
use Rattle.nemo_job.specs.declared.vertex.JobVertex.{JobVertex}
use Rattle.nemo_job.specs.declared.vertex.Work.{Work}
use Rattle.nemo_job.specs.declared.vertex.Work.TheVariants.{Op}

abbrev pub operation : Work → Option Transform
operation (Op t) = Some t
operation _ = None

-- the copy at a place: named by its path, with the transform of this place, on what the copy before it gives
abbrev pub copy_at : ℕ → List ℕ → FlatVertex
copy_at i path = record { name = path; transform = i; inputs = one_before i }

-- the operations of the vertices, and a copy for each path in the order of evaluation
abbrev pub flat_of : List JobVertex → FlatForm
flat_of vs = record { transforms = filter_map (λ v. operation v.work) vs; vertices = map_at copy_at 0 (paths vs) }

-- the flat job of a chain
abbrev pub IsChainForm : FlatForm → Type 0
IsChainForm flat = (vs : List JobVertex) × (is_built vs ≡ true) × (flat ≡ flat_of vs)
