-- The flat job of a job: its copies that reach a sink, in the order of evaluation.
use Rattle.std.specs.Prelude.{ℕ, ◌+◌, ◌==◌, ◌||◌, nat_lt, Bool, List, [], ◌∷◌, length, map, filter, Option, Some, None, if◌then◌else◌}
use Rattle.std.specs.List.{filter_map, list_any}
use Rattle.nemo_transform.specs.declared.transform.Transform.{Transform}
use Rattle.nemo_ir.specs.Flat.{FlatForm}
use Rattle.nemo_ir.specs.declared.flat.FlatVertex.{FlatVertex}
use Rattle.nemo_transform.specs.Sinks.{does_sink}
use Rattle.nemo_job.specs.Sites.{Doing, Does, Loops, sites}
use Rattle.nemo_job.specs.Unrolled.{Copy, unrolled}
use Rattle.nemo_job.specs.declared.vertex.JobVertex.{JobVertex}

-- a copy with its place among all copies
pub record Numbered : Type 0 where
  pub place : ℕ
  pub copy : Copy

-- whether one of them takes what the copy of this place gives
abbrev pub is_taken : ℕ → List Numbered → Bool
is_taken place ns = list_any (λ n. list_any (λ j. j == place) n.copy.inputs) ns

-- the sinks, and each copy that one of those after it takes; `place` is that of the first
abbrev pub kept_from : ℕ → List Copy → List Numbered
kept_from place [] = []
kept_from place (c ∷ cs) =
    if does_sink c.transform || is_taken place (kept_from (place + 1) cs) then record { place = place; copy = c } ∷ kept_from (place + 1) cs else kept_from (place + 1) cs

-- the copies that reach a sink
abbrev pub kept : List Copy → List Numbered
kept cs = kept_from 0 cs

-- the number of the kept copy of a place
abbrev pub number_of : List Numbered → ℕ → ℕ
number_of ns place = length (filter (λ n. nat_lt n.place place) ns)

abbrev pub flat_vertex : List Numbered → Numbered → FlatVertex
flat_vertex ns n = record { name = n.copy.path; transform = n.copy.number; inputs = map (number_of ns) n.copy.inputs }

abbrev pub operation_in : Doing → Option Transform
operation_in (Does t) = Some t
operation_in (Loops turns carry body next) = None

-- the operations of a job, a loop's in its place
abbrev pub operations : List JobVertex → List Transform
operations vs = filter_map (λ s. operation_in s.doing) (sites vs)

abbrev pub flattened : List JobVertex → FlatForm
flattened vs = record { transforms = operations vs; vertices = map (flat_vertex (kept (unrolled vs))) (kept (unrolled vs)) }
