use Rattle.std.proofs.Common.{◌≡◌, ◌++◌, ◌<◌, ℕ, Some, drop, length, map, slice_get}
use Rattle.nemo_job.specs.Nodes.{copy_of}
use Rattle.nemo_flat.specs.Flattened.{flat_vertex, kept, kept_from, number_of}
use Rattle.nemo_flat.proofs.keeping.kept_vertices.Given as goal

-- the vertices so far, and then those of the copies that are left, are all
abbrev pub invariant-loop-place : goal.invariant-loop-place
invariant-loop-place l = record {
  vertices : l.all ++ map (flat_vertex (kept (map copy_of l.nodes))) (kept_from l.place (drop l.place (map copy_of l.nodes))) ≡ map (flat_vertex (kept (map copy_of l.nodes))) (kept (map copy_of l.nodes));
  size : length l.numbers.items ≡ l.place;
  numbers : (i : ℕ) → i < l.place → slice_get l.numbers.items i ≡ Some (number_of (kept (map copy_of l.nodes)) i);
}
