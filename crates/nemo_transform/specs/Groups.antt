-- What a reduce keeps of the rows of a key, and the answers that it makes of that.
use Rattle.std.specs.Prelude.{ℕ, List, [], ◌∷◌, reverse, slice_get, Option, Some, None, Result, Ok, Err, Bool, if◌then◌else◌}
use Rattle.std.proofs.Common.{Bor}
use Rattle.std.specs.List.{filter_map}
use Rattle.std.specs.Ordering.{is_eq}
use Rattle.nemo_value.specs.Ascending.{ascending}
use Rattle.nemo_value.specs.Order.{field_cmp}
use Rattle.nemo_value.specs.declared.expr.Kind.{Kind}
use Rattle.nemo_value.specs.declared.field.Field.{Field}
use Rattle.nemo_transform.specs.Folds.{Known, sum_of, count_of, least, greatest, KnownGroup, known_group, value_in}
use Rattle.nemo_transform.specs.Gives.{Row, Answer, total, good, bad, fault, read, is_filled}
use Rattle.nemo_transform.specs.declared.fault.Fault.{Fault}
use Rattle.nemo_transform.specs.declared.grouping.Group.{Group}
use Rattle.nemo_transform.specs.declared.transform.Folding.{Folding}
use Rattle.nemo_transform.specs.declared.transform.Folding.TheVariants.{Sum, Min, Max, Count}

abbrev pub front : {X : Type 0} → List X → Option X
front [] = None
front (x ∷ xs) = Some x

-- the fold of some fields
abbrev pub fold_of : Folding → List Field → Known
fold_of Sum fs = sum_of (total fs)
fold_of Count fs = count_of (total fs)
fold_of Min fs = least (front (ascending field_cmp fs))
fold_of Max fs = greatest (front (reverse (ascending field_cmp fs)))

-- why a row is bad, with the row
abbrev pub fault_read : Row → Result Field Kind → Option Fault
fault_read r (Ok f) = None
fault_read r (Err k) = Some (record { kind = k; rec = r })

module _ (by : Folding) (field : ℕ) where
  abbrev pub read_at : Row → Result Field Kind
  read_at r = read by (slice_get r field)

  abbrev pub goods : List Row → List Field
  goods us = filter_map (λ r. good (read_at r)) us

  abbrev pub bads : List Row → List Answer
  bads us = filter_map (λ r. bad r (read_at r)) us

  abbrev pub made : List Row → KnownGroup
  made us = record { fold = fold_of by (goods us); is_bad = is_filled (bads us) }

  -- the group of some rows, if there are any
  abbrev pub group_of : List Row → Option KnownGroup
  group_of [] = None
  group_of (r ∷ us) = Some (made (r ∷ us))

  abbrev pub fault_of : Row → Option Fault
  fault_of r = fault_read r (read_at r)

-- whether a borrowed key is this one
abbrev pub at_key : Field → Bor Field → Bool
at_key k q = is_eq (field_cmp k q.now)

abbrev pub key_of : Bor Field × Group → Field
key_of e = e.0.now

-- a key and its group, without references
abbrev pub seen : Bor Field × Group → Field × KnownGroup
seen e = (e.0.now, known_group e.1)

-- the answer of a key whose fold has this value
abbrev pub valued : Field → Result (Option Field) Kind → List Answer
valued k (Ok (Some v)) = Ok (k ∷ v ∷ []) ∷ []
valued k (Ok None) = []
valued k (Err kind) = fault kind (k ∷ []) ∷ []

-- the answers of a key, but for the faults of its bad rows
abbrev pub answer_at : Field × KnownGroup → List Answer
answer_at e = if e.1.is_bad then [] else valued e.0 (value_in e.1.fold)
