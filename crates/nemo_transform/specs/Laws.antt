-- The words of the laws of what a transform gives.
use Rattle.std.specs.Prelude.{◌≡◌, ℕ, ◌==◌, Bool, true, false, List, filter, Some}
use Rattle.std.specs.List.{flat_map, list_any}
use Rattle.nemo_value.specs.Ascending.{ascending}
use Rattle.nemo_value.specs.declared.field.Field.{Field}
use Rattle.nemo_transform.specs.FaultOrder.{fault_cmp}
use Rattle.nemo_transform.specs.Gives.{Row}
use Rattle.nemo_value.specs.Key.{key_by}
use Rattle.nemo_transform.specs.Ports.{kinds_of, is_keyed, key_list}
use Rattle.nemo_transform.specs.declared.fault.Fault.{Fault}
use Rattle.nemo_transform.specs.declared.transform.Transform.{Transform}
use Rattle.nemo_transform.specs.declared.transform.Transform.TheVariants.{Source}

abbrev pub is_source : Transform → Bool
is_source (Source rows) = true
is_source _ = false

-- whether the rows of a key have to meet
abbrev pub meets : Transform → Bool
meets t = list_any is_keyed (kinds_of t)

-- some lists, one after the other
abbrev pub chained : {X : Type 0} → List (List X) → List X
chained lists = flat_map (λ l. l) lists

-- the union of some sets of faults, in order
abbrev pub united : List (List Fault) → List Fault
united sets = ascending fault_cmp (chained sets)

-- the rows that go to task i
abbrev pub share : (Row → ℕ) → ℕ → List Row → List Row
share task i rows = filter (λ r. task r == i) rows

-- rows of equal keys go to one task, on either port; a row goes to a task by the first assignment where it comes to the
-- first port, and by the second where it comes to the second one
pub record MeetByKey (t : Transform) (first_task second_task : Row → ℕ) : Type 0 where
  pub first : (r s : Row) (k : List Field) → key_by (key_list t 0) r ≡ Some k → key_by (key_list t 0) s ≡ Some k → first_task r ≡ first_task s
  pub second : (r s : Row) (k : List Field) → key_by (key_list t 1) r ≡ Some k → key_by (key_list t 1) s ≡ Some k → second_task r ≡ second_task s
  pub both : (r s : Row) (k : List Field) → key_by (key_list t 0) r ≡ Some k → key_by (key_list t 1) s ≡ Some k → first_task r ≡ second_task s
