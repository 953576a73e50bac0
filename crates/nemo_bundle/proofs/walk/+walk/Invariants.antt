use Rattle.std.proofs.Common.{◌≡◌, ◌*◌, ◌+◌}
use Rattle.std.specs.Vec.Iter.{into_iter_items}
use Rattle.serde_json.specs.View.{items_view}
use Rattle.nemo_bundle.specs.Vertices.{vertex_at, walk}
use Rattle.nemo_bundle.proofs.Fronts.{with_walked}
use Rattle.nemo_bundle.proofs.walk.+walk.Given as goal

-- a loop goes through three of these functions

abbrev pub decreases-read_work : goal.decreases-read_work
decreases-read_work l = l.depth * 3

abbrev pub decreases-read_vertex : goal.decreases-read_vertex
decreases-read_vertex l = l.depth * 3 + 1

abbrev pub decreases-read_vertices : goal.decreases-read_vertices
decreases-read_vertices l = l.depth * 3 + 2

-- what is read, and then what the rest gives
abbrev pub invariant-read_vertices-loop-value : goal.invariant-read_vertices-loop-value
invariant-read_vertices-loop-value l =
    with_walked l.list (walk vertex_at l.count (items_view (into_iter_items l.value-iterator))) ≡ walk vertex_at l.fn.count (items_view l.fn.items.items)
