-- What a graph of tasks has to keep, line by line.
use Rattle.std.specs.Prelude.{ℕ, ◌&&◌, ◌||◌, ◌==◌, Bool, nat_le, nat_lt, length, slice_get, Option}
use Rattle.std.specs.List.{list_all, list_any}
pub use Rattle.nemo_base.specs.Places.{all_at, differ, is_in, passes}
use Rattle.nemo_base.specs.declared.graph.Read.{Read}
use Rattle.nemo_base.specs.declared.graph.StageRow.{StageRow}
use Rattle.nemo_base.specs.declared.graph.TaskGraph.{TaskGraph}
use Rattle.nemo_base.specs.declared.graph.VertexRow.{VertexRow}

-- a parallelism is 1 to 64
abbrev pub is_parallelism : ℕ → Bool
is_parallelism n = nat_le 1 n && nat_le n 64

abbrev pub stage_of : TaskGraph → VertexRow → Option StageRow
stage_of g v = slice_get g.stages v.stage

-- the vertex of this number lies in the stage
abbrev pub lies_in : TaskGraph → ℕ → ℕ → Bool
lies_in g s number = passes (λ v. v.stage == s) (slice_get g.vertices number)

-- a stage of lower rank has blocks of the vertex
abbrev pub stands_below : TaskGraph → ℕ → ℕ → VertexRow → Bool
stands_below g rank number v = passes (λ s. is_in number s.blocks && nat_lt s.rank rank) (stage_of g v)

-- the read names a vertex that stands in `blocks` of a stage of lower rank, and a narrow one joins equal parallelism
abbrev pub is_read : TaskGraph → StageRow → Read → Bool
is_read g s r = passes (λ v. stands_below g s.rank r.vertex v && (r.wide || (v.parallelism == s.parallelism))) (slice_get g.vertices r.vertex)

-- the stage names at least one vertex in `blocks` and none twice, each lies in it, its reads are sound, and its parallelism is 1 to 64
abbrev pub is_stage : TaskGraph → ℕ → StageRow → Bool
is_stage g number s =
    is_parallelism s.parallelism && nat_le 1 (length s.blocks) && differ s.blocks && list_all (lies_in g number) s.blocks && list_all (is_read g s) s.reads

-- the stage has a wide read of this vertex
abbrev pub reads_all : StageRow → ℕ → Bool
reads_all s number = list_any (λ r. r.wide && (r.vertex == number)) s.reads

-- the vertex has the parallelism of its stage, and its triggers are wide reads of that stage
abbrev pub is_vertex : TaskGraph → VertexRow → Bool
is_vertex g v = passes (λ s. (v.parallelism == s.parallelism) && list_all (reads_all s) v.triggers) (stage_of g v)

abbrev pub is_sound : TaskGraph → Bool
is_sound g = all_at (is_stage g) 0 g.stages && list_all (is_vertex g) g.vertices
