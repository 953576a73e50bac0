use Rattle.std.proofs.Common.{◌≡◌, ◌++◌, take, drop, length}
use Rattle.std.specs.Prelude.{slice_get}
use Rattle.nemo_base.specs.Places.{map_at}
use Rattle.nemo_core.specs.Cell as cell
use Rattle.nemo_core.proofs.block.fill_rows.Given as goal

-- those so far, with what becomes of the rest
abbrev pub invariant-loop-v : goal.invariant-loop-v
invariant-loop-v l = record {
  done : take l.v l.rows.items ++ map_at (λ v row. cell.filled_at l.commit.settings l.commit.incs.now l.commit.attempt l.commit.place.stage l.commit.place.index (slice_get l.graph.vertices v) row) l.v (drop l.v l.rows.items) ≡ map_at (λ v row. cell.filled_at l.commit.settings l.commit.incs.now l.commit.attempt l.commit.place.stage l.commit.place.index (slice_get l.graph.vertices v) row) 0 l.initial.rows.items;
  size : length l.rows.items ≡ length l.initial.rows.items;
}
