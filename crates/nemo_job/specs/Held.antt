-- What an evaluation holds of what its vertices gave.
use Rattle.std.specs.Prelude.{◌≡◌, ◌≤◌, ◌<◌, ◌⊎◌, ℕ, List, [], ◌∷◌, ◌++◌, length, map, slice_get, Option, Some, None, option_map, option_to_list, true, if◌then◌else◌}
use Rattle.nemo_value.specs.declared.record.SinkRows.{SinkRows}
use Rattle.nemo_transform.specs.Brought.{Arisen, port, at, first_rows, second_rows}
use Rattle.nemo_transform.specs.Gives.{Row, Answer, answers}
use Rattle.nemo_transform.specs.Ports.{kinds_of}
use Rattle.nemo_transform.specs.Soundness.{is_sound}
use Rattle.nemo_transform.specs.declared.transform.Transform.{Transform}
use Rattle.nemo_transform.specs.declared.transform.Transform.TheVariants.{Sink}
use Rattle.nemo_transform.specs.FirstFault.{arisen_at, first_fault}
use Rattle.nemo_transform.specs.Through.{Batch}
pub use Rattle.nemo_transform.specs.Sinks.{does_sink}
use Rattle.nemo_job.specs.HeldRows.{rows_held}
use Rattle.nemo_job.specs.ByPlace.{ByPlace, Placed}
use Rattle.nemo_job.specs.declared.held.Held.{Held}
use Rattle.nemo_job.specs.declared.copies.Node.{Node}

-- a vertex without references to its parts
abbrev pub node_of : Node → Placed
node_of n = record { transform = n.transform.now; inputs = n.inputs }

-- its transform
abbrev pub transform_of : Node → Transform
transform_of n = n.transform.now

abbrev pub known : Held → Batch
known h = record { rows = rows_held h.rows; first = option_map arisen_at h.first }

abbrev pub known_value : ByPlace → Batch
known_value f = record { rows = f.rows; first = first_fault f.faults }

-- the answers of a vertex on what the vertices gave
abbrev pub answers_at : List ByPlace → Placed → List Answer
answers_at vals p = answers p.transform (first_rows p.transform (map (port vals) p.inputs)) (second_rows (map (port vals) p.inputs))

-- the answers of a transform, which is no union, on the rows of its first and its second port
abbrev pub answers_on : List ByPlace → List ℕ → Transform → List Answer
answers_on vals inputs t = answers t (port (map (port vals) inputs) 0).rows (port (map (port vals) inputs) 1).rows

-- what the vertex of a place gives on what the vertices gave
abbrev pub value_at : List ByPlace → ℕ → Placed → ByPlace
value_at vals place p = at place p.transform (map (port vals) p.inputs)

-- the vertex of a place takes none but vertices before it
abbrev pub IsLower : List Placed → Type 0
IsLower ps = (i : ℕ) (p : Placed) (k j : ℕ) → slice_get ps i ≡ Some p → slice_get p.inputs k ≡ Some j → j < i

-- the vertices of a job by their places
pub record IsPlaced (ps : List Placed) : Type 0 where
  pub lower : IsLower ps
  pub ports : (i : ℕ) (p : Placed) → slice_get ps i ≡ Some p → length p.inputs ≡ length (kinds_of p.transform)
  pub sound : (i : ℕ) (p : Placed) → slice_get ps i ≡ Some p → is_sound p.transform ≡ true

-- a vertex takes what the one of place i gives, and reaches a sink: that of place u
abbrev pub IsTaken : List Placed → List (Option ℕ) → ℕ → ℕ → Type 0
IsTaken ps last i u = (p : Placed) × (k : ℕ) × (v : ℕ) × (slice_get ps u ≡ Some p) × (slice_get p.inputs k ≡ Some i) × (slice_get last u ≡ Some (Some v))

-- For each vertex that reaches a sink, and for no other, the last vertex that takes what it gives, and for a sink the
-- number of all vertices: what reaches a sink takes only what reaches a sink, and is not after the last that takes it.
pub record IsLast (ps : List Placed) (last : List (Option ℕ)) : Type 0 where
  pub size : length last ≡ length ps
  pub sinks : (i : ℕ) (p : Placed) → slice_get ps i ≡ Some p → does_sink p.transform ≡ true → slice_get last i ≡ Some (Some (length ps))
  pub inputs : (i : ℕ) (p : Placed) (k j u : ℕ) → slice_get ps i ≡ Some p → slice_get p.inputs k ≡ Some j → slice_get last i ≡ Some (Some u) → (w : ℕ) × (slice_get last j ≡ Some (Some w)) × (i ≤ w)
  pub only : (i u : ℕ) (p : Placed) → slice_get ps i ≡ Some p → slice_get last i ≡ Some (Some u) → (does_sink p.transform ≡ true) ⊎ IsTaken ps last i u

-- Before the vertex of a place, what each vertex that reaches a sink gave is held as long as it is taken.
pub record IsHeld (vals : List ByPlace) (last : List (Option ℕ)) (place : ℕ) (held : List Batch) : Type 0 where
  pub size : length held ≡ place
  pub given : (k u : ℕ) (h : Batch) → slice_get held k ≡ Some h → slice_get last k ≡ Some (Some u) → place ≤ u → h ≡ known_value (port vals k)

-- what the inputs gave is held
abbrev pub Feeds : List ByPlace → List Batch → List ℕ → Type 0
Feeds vals held inputs = map (slice_get held) inputs ≡ map (λ j. Some (known_value (port vals j))) inputs

-- Rows may have been let go where the vertex of this place is the last that takes them, and nothing else changed.
pub record IsReleased (last : List (Option ℕ)) (place : ℕ) (old new : List Batch) : Type 0 where
  pub size : length new ≡ length old
  pub first : map (λ h. h.first) new ≡ map (λ h. h.first) old
  pub rows : (k : ℕ) → ¬ (slice_get last k ≡ Some (Some place)) → slice_get new k ≡ slice_get old k

---- what the sinks get

-- what each sink gave is held
pub record IsGiven (ps : List Placed) (vals : List ByPlace) (held : List Batch) : Type 0 where
  pub size : length held ≡ length ps
  pub sinks : (k : ℕ) (p : Placed) → slice_get ps k ≡ Some p → does_sink p.transform ≡ true → slice_get held k ≡ Some (known_value (port vals k))

-- a sink with its rows
abbrev pub sink_at : Transform → List Row → Option SinkRows
sink_at (Sink name) rows = Some (record { name = name; rows = rows })
sink_at _ rows = None

-- the sinks, in list order, with their rows as they reach them
abbrev pub sinks_given : List Placed → List ByPlace → List SinkRows
sinks_given [] fs = []
sinks_given (p ∷ ps) [] = []
sinks_given (p ∷ ps) (f ∷ fs) = option_to_list (sink_at p.transform f.rows) ++ sinks_given ps fs

-- the faults that reach them
abbrev pub faults_given : List Placed → List ByPlace → List (Arisen ℕ)
faults_given [] fs = []
faults_given (p ∷ ps) [] = []
faults_given (p ∷ ps) (f ∷ fs) = (if does_sink p.transform then f.faults else []) ++ faults_given ps fs
