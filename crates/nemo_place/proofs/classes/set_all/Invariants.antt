use Rattle.std.proofs.Common.{◌≡◌, ◌≤◌, ◌==◌, ℕ, [], filter, take, drop, length, true}
use Rattle.nemo_ir.specs.Along.{along}
use Rattle.nemo_place.specs.Classes.{with_class}
use Rattle.nemo_place.specs.Runs.{rises_from}
use Rattle.nemo_place.proofs.classes.set_all.Given as goal

-- the vertices so far, with those that are left after them, are all vertices, and the edges that are left have those into them
abbrev pub invariant-loop-v : goal.invariant-loop-v
invariant-loop-v l = record {
  made : along (with_class l.edges) (take l.v l.vertices) (drop l.v l.vertices) ≡ along (with_class l.edges) [] l.initial.vertices;
  size : length l.vertices ≡ length l.initial.vertices;
  left : (w : ℕ) → l.v ≤ w → filter (λ e. e.to == w) l.rest ≡ filter (λ e. e.to == w) l.edges;
  order : l.in_order ≡ true → rises_from 0 l.rest ≡ true;
}
