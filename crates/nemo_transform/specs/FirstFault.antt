-- The first of faults that arose at vertices.
use Rattle.std.specs.Prelude.{ℕ, List, Option, Some, None, slice_get, if◌then◌else◌}
use Rattle.std.specs.Ordering.{is_lt}
use Rattle.std.specs.declared.cmp.Ordering.{Ordering}
use Rattle.nemo_value.specs.Ascending.{ascending}
use Rattle.nemo_transform.specs.ArisenOrder.{place_cmp}
use Rattle.nemo_transform.specs.Brought.{Arisen}
use Rattle.nemo_transform.specs.declared.fault.Located.{Located}

-- the first of some faults
abbrev pub first_fault : List (Arisen ℕ) → Option (Arisen ℕ)
first_fault faults = slice_get (ascending place_cmp faults) 0

-- the lesser of two that may be there, and the first where they tie
abbrev pub lesser_by : {X : Type 0} → (X → X → Ordering) → Option X → Option X → Option X
lesser_by R None b = b
lesser_by R (Some x) None = Some x
lesser_by R (Some x) (Some y) = if is_lt (R y x) then Some y else Some x

-- a fault with the place of its vertex, as code has it
abbrev pub arisen_at : Located → Arisen ℕ
arisen_at l = record { vertex = l.place; kind = l.kind; rec = l.rec }
