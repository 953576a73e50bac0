-- The order of faults that arose at vertices.
use Rattle.std.specs.Prelude.{ℕ}
use Rattle.std.specs.Ordering.{nat_cmp, ordering_then}
use Rattle.std.specs.declared.cmp.Ordering.{Ordering}
use Rattle.nemo_value.specs.KindOrder.{kind_cmp}
use Rattle.nemo_value.specs.Order.{record_cmp}
use Rattle.nemo_transform.specs.Brought.{Arisen}

-- by the place of the vertex where it arose, and then by kind and record
abbrev pub arisen_by : {X : Type 0} → (X → ℕ) → Arisen X → Arisen X → Ordering
arisen_by place a b = ordering_then (nat_cmp (place a.vertex) (place b.vertex)) (ordering_then (kind_cmp a.kind b.kind) (record_cmp a.rec b.rec))

abbrev pub place_cmp : Arisen ℕ → Arisen ℕ → Ordering
place_cmp = arisen_by (λ place. place)
