-- What a job gives to its sinks.
use Rattle.std.specs.Prelude.{ℕ, List, map, position, unwrap_or, Bool, false, filter}
use Rattle.std.specs.List.{flat_map}
use Rattle.std.specs.declared.cmp.Ordering.{Ordering}
use Rattle.nemo_value.specs.Ascending.{ascending}
use Rattle.nemo_value.specs.SinkOrder.{in_order}
use Rattle.nemo_value.specs.declared.record.SinkRows.{SinkRows}
use Rattle.nemo_transform.specs.Sinks.{does_sink}
use Rattle.nemo_transform.specs.ArisenOrder.{arisen_by}
use Rattle.nemo_transform.specs.Brought.{Arisen}
use Rattle.nemo_value.specs.Texts.{same_text}
use Rattle.nemo_job.specs.Mean.{ByPath, mean, look}
use Rattle.nemo_job.specs.Paths.{paths}
use Rattle.nemo_job.specs.declared.vertex.JobVertex.{JobVertex}
use Rattle.nemo_job.specs.declared.vertex.Work.{Work}
use Rattle.nemo_job.specs.declared.vertex.Work.TheVariants.{Op}

abbrev pub is_sink : Work → Bool
is_sink (Op t) = does_sink t
is_sink _ = false

-- the sinks of a job, in list order
abbrev pub sinks_of : List JobVertex → List JobVertex
sinks_of vs = filter (λ v. is_sink v.work) vs

-- what reaches a vertex of this name
abbrev pub reaching : List JobVertex → JobVertex → ByPath
reaching vs v = look (mean vs) (record { name = v.name; port = 0 })

-- a sink with its rows as they reach it
abbrev pub sink_reached : List JobVertex → JobVertex → SinkRows
sink_reached vs v = record { name = v.name; rows = (reaching vs v).rows }

-- each sink, in list order, with its rows as they reach it
abbrev pub sinks_reached : List JobVertex → List SinkRows
sinks_reached vs = map (sink_reached vs) (sinks_of vs)

-- the sinks by name, each with its rows in order
abbrev pub job_rows : List JobVertex → List SinkRows
job_rows vs = in_order (sinks_reached vs)

-- the place of a copy in the order of evaluation
abbrev pub place_of : List (List ℕ) → List ℕ → ℕ
place_of all path = unwrap_or (position (same_text path) all) 0

-- by the copy where it arose, and then by kind and record
abbrev pub arisen_cmp : List (List ℕ) → Arisen (List ℕ) → Arisen (List ℕ) → Ordering
arisen_cmp all = arisen_by (place_of all)

-- the faults that reach a sink, in this order, each once
abbrev pub job_faults : List JobVertex → List (Arisen (List ℕ))
job_faults vs = ascending (arisen_cmp (paths vs)) (flat_map (λ v. (reaching vs v).faults) (sinks_of vs))
