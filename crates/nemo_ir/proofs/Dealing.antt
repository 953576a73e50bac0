-- What is dealt out to tasks.
use Rattle.std.proofs.Common.{arith, refl, sym, ap, ◌∙◌, ◌≡◌, Some, ℕ, suc, ◌+◌, ◌<◌, ◌≤◌, ◌==◌, List, [], ◌∷◌, ◌++◌, Bool, true, false, cond, length}
use Rattle.std.specs.Prelude.{◌%◌, nat_le}
use Rattle.std.specs.List.{flat_map}
use Rattle.nemo_value.proofs.JoinedLists.{flat_none, flat_same}
use Rattle.nemo_value.proofs.Perm.{Perm, back, then}
use Rattle.nemo_value.proofs.Permuted.{apart, both, is, right}
use Rattle.nemo_value.proofs.Split.{in_front, single}
use Rattle.nemo_value.specs.Key.{bucket_or_first, first_key, key_by, row_bucket}
use Rattle.nemo_value.specs.declared.field.Field.{Field}
use Rattle.nemo_transform.specs.Gives.{Row}
use Rattle.nemo_transform.specs.Laws.{MeetByKey}
use Rattle.nemo_transform.specs.declared.transform.Transform.{Transform}
use Rattle.nemo_ir.specs.Along.{below}
use Rattle.nemo_base.specs.Cuts.{task_at}
use Rattle.nemo_ir.specs.Part.{dealt, task_of}

-- row by row, or column by column
pub crossed : {A B C : Type 0} (f : A → B → List C) (xs : List A) (ys : List B) → Perm (flat_map (λ x. flat_map (f x) ys) xs) (flat_map (λ y. flat_map (λ x. f x y) xs) ys)
crossed f [] ys = is (sym (flat_none (λ y. []) ys (λ y. refl)))
crossed f (x ∷ xs) ys = then (right (flat_map (f x) ys) (crossed f xs ys)) (back (apart (f x) (λ y. flat_map (λ z. f z y) xs) ys))

-- each row is dealt to one task
pub dealt_from : (n k : ℕ) (rows : List Row) → 1 ≤ n → Perm (flat_map (λ i. dealt n i k rows) (below n)) rows
dealt_from n k [] h = is (flat_none (λ i. []) (below n) (λ i. refl))
dealt_from n k (r ∷ rows) h =
    let one : ℕ → List Row = λ i. cond (k % n == i) (r ∷ []) [] in
    let others : ℕ → List Row = λ i. dealt n i (k + 1) rows in
    let e = flat_same (λ i. dealt n i k (r ∷ rows)) (λ i. one i ++ others i) (below n) (λ i. in_front (k % n == i) r (others i)) in
    then (is e) (then (apart one others (below n)) (both (is (single r (k % n) n (omega arith))) (dealt_from n (k + 1) rows h)))

task_cond : (b : Bool) (m n : ℕ) → m ≤ n → cond b (suc m) 0 ≤ suc n
task_cond true m n h = omega arith
task_cond false m n h = omega arith

task_within : (cuts : List ℕ) (bucket : ℕ) → task_at cuts bucket ≤ length cuts
task_within [] bucket = omega arith
task_within (c ∷ cuts) bucket = task_cond (nat_le c bucket) (task_at cuts bucket) (length cuts) (task_within cuts bucket)

-- each row goes to one of the tasks by its key
pub row_within : (cuts : List ℕ) (n : ℕ) → length cuts < n → (r : Row) → task_of cuts r < n
row_within cuts n few r = let l : task_of cuts r ≤ length cuts = task_within cuts (row_bucket first_key r) in omega arith

-- rows of equal keys go to one task
same_task : (cuts : List ℕ) (r s : Row) (k : List Field) → key_by first_key r ≡ Some k → key_by first_key s ≡ Some k → task_of cuts r ≡ task_of cuts s
same_task cuts r s k e f = ap (λ o. task_at cuts (bucket_or_first o)) (e ∙ sym f)

pub keys_meet : (cuts : List ℕ) (t : Transform) → MeetByKey t (task_of cuts) (task_of cuts)
keys_meet cuts t = record { first = same_task cuts; second = same_task cuts; both = same_task cuts }
