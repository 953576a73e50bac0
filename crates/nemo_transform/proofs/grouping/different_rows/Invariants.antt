use Rattle.std.proofs.Common.{take}
use Rattle.std.specs.Cmp.Lexicographic.{pointwise}
use Rattle.std.specs.HashSet.{contains_by}
use Rattle.std.specs.Ordering.{eq_by_cmp}
use Rattle.nemo_value.specs.Order.{field_cmp, record_cmp}
use Rattle.nemo_transform.proofs.Keeping.{Different}
use Rattle.nemo_transform.proofs.grouping.different_rows.Given as goal

-- the different rows of those so far
abbrev pub invariant-loop-row : goal.invariant-loop-row
invariant-loop-row l = Different record_cmp (take l.row-index l.rows) l.different.items (λ q. contains_by (λ r. pointwise (eq_by_cmp field_cmp) q r.now) l.seen)
