-- What the ends of readers and of the crates below mean for a bundle.
use Rattle.std.specs.Prelude.{ℕ, List, Result, Ok, Err}
use Rattle.nemo_flat.specs.declared.copies.FlattenRefused.{FlattenRefused}
use Rattle.nemo_flat.specs.declared.copies.FlattenRefused.TheVariants as flat
use Rattle.nemo_job.specs.declared.job.JobRefused.{JobRefused}
use Rattle.nemo_job.specs.declared.job.JobRefused.TheVariants as job
use Rattle.nemo_job.specs.declared.vertex.JobVertex.{JobVertex}
use Rattle.nemo_job.specs.declared.vertex.Ref.{Ref}
use Rattle.nemo_job.specs.declared.vertex.Work.{Work}
use Rattle.nemo_read.specs.declared.end.PartEnd.{PartEnd}
use Rattle.nemo_read.specs.declared.end.PartEnd.TheVariants as part
use Rattle.nemo_bundle.specs.declared.end.BundleEnd.{BundleEnd}
use Rattle.nemo_bundle.specs.declared.end.BundleEnd.TheVariants.{Refused, NoMemory}
use Rattle.nemo_bundle.specs.declared.end.Code.{Code}
use Rattle.nemo_bundle.specs.declared.end.Code.TheVariants.{Top, VertexShape, TooMany, Setting, ScriptLine, Step, DagVertex, DagEdge, DagRep}
use Rattle.nemo_bundle.specs.declared.end.WalkEnd.{WalkEnd}
use Rattle.nemo_bundle.specs.declared.end.WalkEnd.TheVariants as walk

-- the codes by which refusals are printed; 3 to 8 are those of jobs
abbrev pub number : Code → ℕ
number Top = 1
number VertexShape = 2
number TooMany = 9
number Setting = 10
number ScriptLine = 11
number Step = 12
number DagVertex = 13
number DagEdge = 14
number DagRep = 15

abbrev pub refused_at : Code → ℕ → BundleEnd
refused_at code place = Refused (number code) place

-- of a part at this place
abbrev pub end_at : ℕ → PartEnd → WalkEnd
end_at place part.Malformed = walk.Malformed place
end_at place part.NoMemory = walk.NoMemory

abbrev pub placed : {X : Type 0} → ℕ → Result X PartEnd → Result X WalkEnd
placed place (Ok x) = Ok x
placed place (Err e) = Err (end_at place e)

-- of what has places, with the code of the reason
abbrev pub end_with : Code → WalkEnd → BundleEnd
end_with code (walk.Malformed place) = refused_at code place
end_with code walk.NoMemory = NoMemory

abbrev pub coded : {X : Type 0} → Code → Result X WalkEnd → Result X BundleEnd
coded code (Ok x) = Ok x
coded code (Err e) = Err (end_with code e)

-- the vertex of this name and these inputs, where what it does was read
abbrev pub vertex_read : List ℕ → List Ref → Result Work WalkEnd → Result JobVertex WalkEnd
vertex_read name inputs (Ok work) = Ok (record { name = name; work = work; inputs = inputs })
vertex_read name inputs (Err e) = Err e

abbrev pub end_of_job : JobRefused → BundleEnd
end_of_job (job.Refused code place) = Refused code place
end_of_job job.NoMemory = NoMemory

-- there are more than 512 copies
abbrev pub end_of_flat : FlattenRefused → BundleEnd
end_of_flat (flat.TooMany count) = refused_at TooMany count
end_of_flat flat.NoMemory = NoMemory
