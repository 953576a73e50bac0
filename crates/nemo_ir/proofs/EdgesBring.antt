-- What an edge brings to the tasks of its consumer, where the tasks of its producer stand for a whole.
use Rattle.std.proofs.Common.{arith, ◌≡◌, refl, sym, subst, ℕ, zero, suc, ◌<◌, ◌==◌, List, length, map, true}
use Rattle.std.specs.List.{flat_map}
use Rattle.nemo_base.specs.declared.annotation.Pattern.{Pattern}
use Rattle.nemo_base.specs.declared.annotation.Pattern.TheVariants.{OneToOne, Broadcast, Hash, Spread}
use Rattle.nemo_value.specs.Counted.{below, counted}
use Rattle.nemo_value.specs.Members.{SameMembers}
use Rattle.nemo_value.proofs.JoinedLists.{flat_over_map}
use Rattle.nemo_value.proofs.MemberLists.{same_each}
use Rattle.nemo_value.proofs.Perm.{Perm, from_std, then, to_std}
use Rattle.nemo_value.proofs.Permuted.{alike, is, passing}
use Rattle.nemo_value.proofs.Split.{split}
use Rattle.nemo_transform.specs.Brought.{all_faults, all_rows}
use Rattle.nemo_transform.specs.declared.shape.PortKind.{PortKind}
use Rattle.nemo_transform.specs.declared.shape.PortKind.TheVariants.{Keyed, Main, Side}
use Rattle.nemo_transform.specs.Tasks.{IsBrought, IsParted, renamed}
use Rattle.nemo_ir.specs.Part.{Parts, all_tasks, brought, dealt, task_of}
use Rattle.nemo_ir.specs.Valid.{is_one_to_one, takes}
use Rattle.nemo_ir.specs.Value.{ByNumber}
use Rattle.nemo_ir.proofs.Dealing.{crossed, dealt_from, row_within}

module _ (name : ℕ → ℕ) (cuts : List ℕ) (n : ℕ) (few : length cuts < n) (p : Parts) (whole : ByNumber) (stands : IsParted name p.parallelism p.task whole) where
  rows_are : Perm (flat_map (λ j. (p.task j).rows) (below p.parallelism)) whole.rows
  rows_are = from_std (flat_map (λ j. (p.task j).rows) (below p.parallelism)) whole.rows stands.rows

  all_rows_are : Perm (all_rows (all_tasks p)) whole.rows
  all_rows_are = then (is (flat_over_map (λ (b : ByNumber). b.rows) p.task (below p.parallelism))) rows_are

  all_faults_are : SameMembers (all_faults (all_tasks p)) (map (renamed name) whole.faults)
  all_faults_are = subst (λ l. SameMembers l (map (renamed name) whole.faults)) (sym (flat_over_map (λ (b : ByNumber). b.faults) p.task (below p.parallelism))) stands.faults

  each_has : SameMembers (flat_map (λ i. all_faults (all_tasks p)) (below n)) (map (renamed name) whole.faults)
  each_has = go n few
    where
      go : (m : ℕ) → length cuts < m → SameMembers (flat_map (λ i. all_faults (all_tasks p)) (counted 0 m)) (map (renamed name) whole.faults)
      go zero l = absurd (omega arith)
      go (suc m) l = same_each (λ i. all_faults (all_tasks p)) (map (renamed name) whole.faults) 0 (counted 1 m) (λ i. all_faults_are)

  -- by its pattern, as the kind of its port wants
  pub edge_brings : (k : PortKind) (pattern : Pattern) → takes k pattern ≡ true → (is_one_to_one pattern ≡ true → p.parallelism ≡ n) → IsBrought name (task_of cuts) n k (brought cuts n p pattern) whole
  edge_brings Main OneToOne h level = subst (λ m. IsParted name m p.task whole) (level refl) stands
  edge_brings Main Hash h level = record {
    rows = to_std (then (split (task_of cuts) n (all_rows (all_tasks p)) (λ r m. row_within cuts n few r)) all_rows_are);
    faults = each_has;
  }
  edge_brings Main Spread h level = record {
    rows = to_std (then (crossed (λ i j. dealt n i j (p.task j).rows) (below n) (below p.parallelism))
        (then (alike (λ j. flat_map (λ i. dealt n i j (p.task j).rows) (below n)) (λ j. (p.task j).rows) (below p.parallelism) (λ j. dealt_from n j (p.task j).rows (omega arith))) rows_are));
    faults = each_has;
  }
  edge_brings Main Broadcast h level = cc
  edge_brings Keyed Hash h level = record { rows = λ i. to_std (passing (λ r. task_of cuts r == i) all_rows_are); faults = λ i. all_faults_are }
  edge_brings Keyed OneToOne h level = cc
  edge_brings Keyed Broadcast h level = cc
  edge_brings Keyed Spread h level = cc
  edge_brings Side Broadcast h level = record { rows = λ i. to_std all_rows_are; faults = λ i. all_faults_are }
  edge_brings Side OneToOne h level = cc
  edge_brings Side Hash h level = cc
  edge_brings Side Spread h level = cc
