-- The tasks of an Op, sources and others.
use Rattle.std.proofs.Common.{refl, sym, ℕ, ◌<◌, List, [], ◌∷◌, map, Ok}
use Rattle.nemo_value.specs.Counted.{below}
use Rattle.nemo_value.proofs.JoinedLists.{flat_none, map_flat}
use Rattle.nemo_value.proofs.MemberLists.{same_is}
use Rattle.nemo_value.proofs.Perm.{then}
use Rattle.nemo_value.proofs.Permuted.{is, through}
use Rattle.nemo_transform.specs.Brought.{at}
use Rattle.nemo_transform.specs.Gives.{Answer, Row}
use Rattle.nemo_transform.specs.Laws.{MeetByKey}
use Rattle.nemo_transform.specs.Ports.{kinds_of}
use Rattle.nemo_transform.specs.Tasks.{AllBrought, IsParted, Numbered, at_task}
use Rattle.nemo_transform.specs.declared.transform.Transform.{Transform}
use Rattle.nemo_transform.specs.declared.transform.Transform.TheVariants.{Distinct, Emit, Filter, Join, Map, Reduce, SideJoin, Sink, Source, Union, Words}
use Rattle.nemo_transform.proofs.TaskFaults.{parted_by}
use Rattle.nemo_transform.proofs.TaskLaws.{task_all}
use Rattle.nemo_ir.specs.Part.{dealt, dealt_to}
use Rattle.nemo_ir.proofs.Dealing.{dealt_from}

abbrev ok : Row → Answer
ok r = Ok r

module _ (name : ℕ → ℕ) (tasks : ℕ → Row → ℕ) (n : ℕ) (some : 0 < n) (low : (p : ℕ) (r : Row) → tasks p r < n) (x : ℕ) where
  -- each row of a source is dealt to one task
  source_parted : (rows : List Row) (gots : List (ℕ → Numbered)) (wholes : List Numbered) → AllBrought name tasks n [] gots wholes
      → IsParted name n (λ i. at (name x) (Source (dealt n i 0 rows)) (at_task gots i)) (at x (Source rows) wholes)
  source_parted rows [] [] b =
      parted_by name n x (λ i. []) (λ i. []) (λ i. map ok (dealt n i 0 rows)) [] [] (map ok rows) (λ i. same_is refl) (same_is (flat_none (λ i. []) (below n) (λ i. refl)))
      (then (is (sym (map_flat ok (λ i. dealt n i 0 rows) (below n)))) (through ok (dealt_from n 0 rows some)))
  source_parted rows [] (w ∷ ws) b = absurd b
  source_parted rows (got ∷ gots) wholes b = absurd b

  pub op_parted : (t : Transform) → MeetByKey t (tasks 0) (tasks 1) → (gots : List (ℕ → Numbered)) (wholes : List Numbered) → AllBrought name tasks n (kinds_of t) gots wholes
      → IsParted name n (λ i. at (name x) (dealt_to n i t) (at_task gots i)) (at x t wholes)
  op_parted (Source rows) meet gots wholes b = source_parted rows gots wholes b
  op_parted (Map out) meet gots wholes b = task_all name n tasks x some low (Map out) meet gots wholes refl b
  op_parted (Filter c) meet gots wholes b = task_all name n tasks x some low (Filter c) meet gots wholes refl b
  op_parted (Emit outs) meet gots wholes b = task_all name n tasks x some low (Emit outs) meet gots wholes refl b
  op_parted (Words field) meet gots wholes b = task_all name n tasks x some low (Words field) meet gots wholes refl b
  op_parted (Union ports) meet gots wholes b = task_all name n tasks x some low (Union ports) meet gots wholes refl b
  op_parted (Reduce by field) meet gots wholes b = task_all name n tasks x some low (Reduce by field) meet gots wholes refl b
  op_parted Distinct meet gots wholes b = task_all name n tasks x some low Distinct meet gots wholes refl b
  op_parted Join meet gots wholes b = task_all name n tasks x some low Join meet gots wholes refl b
  op_parted SideJoin meet gots wholes b = task_all name n tasks x some low SideJoin meet gots wholes refl b
  op_parted (Sink text) meet gots wholes b = task_all name n tasks x some low (Sink text) meet gots wholes refl b
