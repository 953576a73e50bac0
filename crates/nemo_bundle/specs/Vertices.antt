-- The vertices that JSON values stand for, with the bodies of loops.
use Rattle.std.specs.Prelude.{ℕ, zero, suc, ◌+◌, List, [], ◌∷◌, Option, Some, None, Result, Ok, Err}
use Rattle.serde_json.specs.Data.{Data, Items, no_items, item, depth}
use Rattle.nemo_job.specs.declared.vertex.JobVertex.{JobVertex}
use Rattle.nemo_job.specs.declared.vertex.Work.{Work}
use Rattle.nemo_read.specs.Vertices.{Form, Head, body_of, head_of, vertex_around, work_around}
use Rattle.nemo_bundle.specs.Answers.{on_ok}

-- what is read, and the number of the next vertex: vertices are counted in list order, a loop before its body
pub record Walked (X : Type 0) : Type 0 where
  pub made : X
  pub next : ℕ

-- either what was read, or the number of the first vertex that has not its form
abbrev pub Walk : Type 0 → Type 0
Walk X = Result (Walked X) ℕ

-- the head of vertex i
abbrev pub numbered : ℕ → Option Head → Walk Head
numbered i (Some h) = Ok (record { made = h; next = i + 1 })
numbered i None = Err i

-- a vertex in front of others
abbrev pub in_front : JobVertex → Walked (List JobVertex) → Walk (List JobVertex)
in_front v others = Ok (record { made = v ∷ others.made; next = others.next })

-- a vertex with its body
abbrev pub with_body : Head → Walked (List JobVertex) → Walk JobVertex
with_body h body = Ok (record { made = vertex_around h body.made; next = body.next })

module _ (reads : ℕ → Data → Walk JobVertex) where
  -- the vertices of a list from number i on
  abbrev pub walk : ℕ → Items → Walk (List JobVertex)
  walk i no_items = Ok (record { made = []; next = i })
  walk i (item d ds) = on_ok (reads i d) (λ v. on_ok (walk v.next ds) (in_front v.made))

  -- what a vertex does, with the vertices of the body from number i on
  abbrev pub work_by : ℕ → Form → Walk Work
  work_by i form = on_ok (walk i (body_of form)) (λ body. Ok (record { made = work_around form body.made; next = body.next }))

  -- the vertex of a head, whose body is counted behind it
  abbrev pub vertex_by : Walked Head → Walk JobVertex
  vertex_by h = on_ok (walk h.next (body_of h.made.form)) (with_body h.made)

  -- vertex i
  abbrev pub vertex_from : ℕ → Option Head → Walk JobVertex
  vertex_from i head = on_ok (numbered i head) vertex_by

-- vertex i of a value that is at most n deep: its body is less deep
unfoldable pub vertex_within : ℕ → ℕ → Data → Walk JobVertex
vertex_within zero i d = Err i
vertex_within (suc n) i d = vertex_from (vertex_within n) i (head_of d)

-- vertex i, however deep it is
abbrev pub vertex_at : ℕ → Data → Walk JobVertex
vertex_at i d = vertex_within (depth d) i d

abbrev pub vertices_in : Items → Walk (List JobVertex)
vertices_in items = walk vertex_at 0 items
