-- The rows that go along a chain.
use Rattle.std.specs.Prelude.{List, [], ◌∷◌}
use Rattle.nemo_transform.specs.Gives.{Row, answers, rows_in}
use Rattle.nemo_job.specs.declared.vertex.JobVertex.{JobVertex}
use Rattle.nemo_job.specs.declared.vertex.Work.{Work}
use Rattle.nemo_job.specs.declared.vertex.Work.TheVariants.{Op}

-- the rows that an operation gives on these
abbrev pub rows_after : Work → List Row → List Row
rows_after (Op t) rows = rows_in (answers t rows [])
rows_after _ rows = rows

-- through one vertex after another
abbrev pub rows_through : List JobVertex → List Row → List Row
rows_through [] rows = rows
rows_through (v ∷ vs) rows = rows_through vs (rows_after v.work rows)
