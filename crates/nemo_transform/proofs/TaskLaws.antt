-- The tasks of a vertex stand for the vertex on the whole rows.
use Rattle.std.proofs.Common.{◌≡◌, ◌∙◌, refl, sym, ap, ℕ, zero, suc, ◌<◌, List, [], ◌∷◌, true, false, map, arith}
use Rattle.std.specs.Prelude.{replicate}
use Rattle.std.specs.List.{flat_map, list_all}
use Rattle.nemo_value.specs.Counted.{below, counted}
use Rattle.nemo_value.proofs.JoinedLists.{flat_none, flat_over_map}
use Rattle.nemo_value.proofs.MemberLists.{same_is}
use Rattle.nemo_value.proofs.Perm.{Perm, back, from_std, none, then, unmoved}
use Rattle.nemo_value.proofs.Permuted.{alike, apart, both, is}
use Rattle.nemo_transform.specs.Brought.{all_faults, all_rows, at, blocking, first_rows, port, second_rows}
use Rattle.nemo_transform.specs.Gives.{Row, answers}
use Rattle.nemo_transform.specs.Laws.{MeetByKey, is_source, meets, share}
use Rattle.nemo_transform.specs.Ports.{Keyed, Main, PortKind, Side, is_main, kinds_of}
use Rattle.nemo_transform.specs.Tasks.{AllBrought, AllParted, IsParted, Numbered, at_task, renamed}
use Rattle.nemo_transform.specs.declared.transform.Transform.{Transform}
use Rattle.nemo_transform.specs.declared.transform.Transform.TheVariants.{Distinct, Emit, Filter, Join, Map, Reduce, SideJoin, Sink, Source, Union, Words}
use Rattle.nemo_transform.proofs.AnswerLaws.{key_answers, main_all, order_answers, row_answers, row_same}
use Rattle.nemo_transform.proofs.TaskFaults.{brought_blocks, brought_passed, main_blocks, parted_by, parted_given, parted_passed}
use Rattle.nemo_transform.proofs.SameGiven.{SameGiven, given_back, given_perm, given_rows, given_then}

-- Main rows in any split
split_answers : (t : Transform) (n : ℕ) (f s : ℕ → List Row) (w v : List Row) → list_all is_main (kinds_of t) ≡ true → is_source t ≡ false
    → Perm (flat_map f (below n)) w → ((i : ℕ) → Perm (s i) v) → Perm (flat_map (λ i. answers t (f i) (s i)) (below n)) (answers t w v)
split_answers t n f s w v k o p q =
    then (alike (λ i. answers t (f i) (s i)) (λ i. answers t (f i) v) (below n) (λ i. order_answers t (f i) (f i) (s i) v o (unmoved (f i)) (q i)))
    (then (is (sym (flat_over_map (λ l. answers t l v) f (below n))))
    (then (is (sym (row_answers t (map f (below n)) v k o)))
    (then (is (ap (λ l. answers t l v) (flat_over_map (λ l. l) f (below n))))
    (order_answers t (flat_map f (below n)) w v v o p (unmoved v)))))

-- the same with Side rows in each task, of one task or more
side_answers : (t : Transform) (n : ℕ) (f s : ℕ → List Row) (w v : List Row) → 0 < n → meets t ≡ false → is_source t ≡ false
    → Perm (flat_map f (below n)) w → ((i : ℕ) → Perm (s i) v) → SameGiven (flat_map (λ i. answers t (f i) (s i)) (below n)) (answers t w v)
side_answers t zero f s w v some k o p q = absurd (omega arith)
side_answers t (suc m) f s w v some k o p q =
    given_then (given_perm (then (alike (λ i. answers t (f i) (s i)) (λ i. answers t (f i) v) (below (suc m)) (λ i. order_answers t (f i) (f i) (s i) v o (unmoved (f i)) (q i)))
    (is (sym (flat_over_map (λ l. answers t l v) f (below (suc m)))))))
    (given_then (given_back (given_rows (row_same t (f 0) (map f (counted 1 m)) v k o)))
    (given_perm (then (is (ap (λ l. answers t l v) (flat_over_map (λ l. l) f (below (suc m))))) (order_answers t (flat_map f (below (suc m))) w v v o p (unmoved v)))))

-- the rows of each key in its task
shared_answers : (t : Transform) (n : ℕ) (first_task second_task : Row → ℕ) (f s : ℕ → List Row) (w v : List Row) → meets t ≡ true → is_source t ≡ false
    → MeetByKey t first_task second_task → ((r : Row) → first_task r < n) → ((r : Row) → second_task r < n)
    → ((i : ℕ) → Perm (f i) (share first_task i w)) → ((i : ℕ) → Perm (s i) (share second_task i v)) → Perm (flat_map (λ i. answers t (f i) (s i)) (below n)) (answers t w v)
shared_answers t n first_task second_task f s w v k o meet low other_low p q =
    then (alike (λ i. answers t (f i) (s i)) (λ i. answers t (share first_task i w) (share second_task i v)) (below n) (λ i. order_answers t (f i) (share first_task i w) (s i) (share second_task i v) o (p i) (q i)))
    (back (key_answers t first_task second_task n w v k meet low other_low))

module _ (name : ℕ → ℕ) (n : ℕ) where
  parted_first : (gots : List (ℕ → Numbered)) (wholes : List Numbered) → AllParted name n gots wholes → Perm (flat_map (λ i. (port (at_task gots i) 0).rows) (below n)) (port wholes 0).rows
  parted_first [] [] b = is (flat_none (λ i. []) (below n) (λ i. refl))
  parted_first [] (w ∷ ws) b = absurd b
  parted_first (got ∷ gots) [] b = absurd b
  parted_first (got ∷ gots) (w ∷ ws) b = from_std (flat_map (λ i. (got i).rows) (below n)) w.rows b.0.rows

  parted_rows : (gots : List (ℕ → Numbered)) (wholes : List Numbered) → AllParted name n gots wholes → Perm (flat_map (λ i. all_rows (at_task gots i)) (below n)) (all_rows wholes)
  parted_rows [] [] b = is (flat_none (λ i. []) (below n) (λ i. refl))
  parted_rows [] (w ∷ ws) b = absurd b
  parted_rows (got ∷ gots) [] b = absurd b
  parted_rows (got ∷ gots) (w ∷ ws) b =
      then (apart (λ i. (got i).rows) (λ i. all_rows (at_task gots i)) (below n)) (both (from_std (flat_map (λ i. (got i).rows) (below n)) w.rows b.0.rows) (parted_rows gots ws b.1))

  -- what a transform with one port gives on the first port's rows
  one_port : (t : Transform) (gots : List (ℕ → Numbered)) (wholes : List Numbered) → list_all is_main (kinds_of t) ≡ true → is_source t ≡ false → AllParted name n gots wholes
      → Perm (flat_map (λ i. answers t (port (at_task gots i) 0).rows []) (below n)) (answers t (port wholes 0).rows [])
  one_port t gots wholes k s b = split_answers t n (λ i. (port (at_task gots i) 0).rows) (λ i. []) (port wholes 0).rows [] k s (parted_first gots wholes b) (λ i. none)

  main_answers : (t : Transform) (gots : List (ℕ → Numbered)) (wholes : List Numbered) → is_source t ≡ false → list_all is_main (kinds_of t) ≡ true → AllParted name n gots wholes
      → Perm (flat_map (λ i. answers t (first_rows t (at_task gots i)) (second_rows (at_task gots i))) (below n)) (answers t (first_rows t wholes) (second_rows wholes))
  main_answers (Source rows) gots wholes s m b = cc
  main_answers (Map out) gots wholes s m b = one_port (Map out) gots wholes refl refl b
  main_answers (Filter c) gots wholes s m b = one_port (Filter c) gots wholes refl refl b
  main_answers (Emit outs) gots wholes s m b = one_port (Emit outs) gots wholes refl refl b
  main_answers (Words field) gots wholes s m b = one_port (Words field) gots wholes refl refl b
  main_answers (Union ports) gots wholes s m b =
      split_answers (Union ports) n (λ i. all_rows (at_task gots i)) (λ i. []) (all_rows wholes) [] m refl (parted_rows gots wholes b) (λ i. none)
  main_answers (Reduce by field) gots wholes s m b = cc
  main_answers Distinct gots wholes s m b = cc
  main_answers Join gots wholes s m b = cc
  main_answers SideJoin gots wholes s m b = cc
  main_answers (Sink name) gots wholes s m b = one_port (Sink name) gots wholes refl refl b

  pub task_main : (x : ℕ) (t : Transform) (gots : List (ℕ → Numbered)) (wholes : List Numbered) → is_source t ≡ false → list_all is_main (kinds_of t) ≡ true → AllParted name n gots wholes
      → IsParted name n (λ i. at (name x) t (at_task gots i)) (at x t wholes)
  task_main x t gots wholes s m b =
      let none_blocks = main_blocks (kinds_of t) wholes m in
      parted_by name n x (λ i. blocking (kinds_of t) (at_task gots i)) (λ i. all_faults (at_task gots i)) (λ i. answers t (first_rows t (at_task gots i)) (second_rows (at_task gots i)))
      (blocking (kinds_of t) wholes) (all_faults wholes) (answers t (first_rows t wholes) (second_rows wholes))
      (λ i. same_is (main_blocks (kinds_of t) (at_task gots i) m ∙ sym (ap (map (renamed name)) none_blocks))) (parted_passed name n gots wholes b) (main_answers t gots wholes s m b)

  -- Main ports alone
  brought_parted : (tasks : ℕ → Row → ℕ) (ks : List PortKind) (gots : List (ℕ → Numbered)) (wholes : List Numbered) → list_all is_main ks ≡ true → AllBrought name tasks n ks gots wholes → AllParted name n gots wholes
  brought_parted tasks [] [] [] m b = tt
  brought_parted tasks [] [] (w ∷ ws) m b = absurd b
  brought_parted tasks [] (got ∷ gots) ws m b = absurd b
  brought_parted tasks (k ∷ ks) [] ws m b = absurd b
  brought_parted tasks (k ∷ ks) (got ∷ gots) [] m b = absurd b
  brought_parted tasks (Main ∷ ks) (got ∷ gots) (w ∷ ws) m b = (b.0, brought_parted (λ p. tasks (suc p)) ks gots ws m b.1)
  brought_parted tasks (Keyed ∷ ks) (got ∷ gots) (w ∷ ws) m b = cc
  brought_parted tasks (Side ∷ ks) (got ∷ gots) (w ∷ ws) m b = cc

  main_first : (tasks : ℕ → Row → ℕ) (ks : List PortKind) (gots : List (ℕ → Numbered)) (wholes : List Numbered) → AllBrought name tasks n (Main ∷ ks) gots wholes → Perm (flat_map (λ i. (port (at_task gots i) 0).rows) (below n)) (port wholes 0).rows
  main_first tasks ks [] ws b = absurd b
  main_first tasks ks (got ∷ gots) [] b = absurd b
  main_first tasks ks (got ∷ gots) (w ∷ ws) b = from_std (flat_map (λ i. (got i).rows) (below n)) w.rows b.0.rows

  keyed_first : (tasks : ℕ → Row → ℕ) (ks : List PortKind) (gots : List (ℕ → Numbered)) (wholes : List Numbered) → AllBrought name tasks n (Keyed ∷ ks) gots wholes → (i : ℕ) → Perm (port (at_task gots i) 0).rows (share (tasks 0) i (port wholes 0).rows)
  keyed_first tasks ks [] ws b i = absurd b
  keyed_first tasks ks (got ∷ gots) [] b i = absurd b
  keyed_first tasks ks (got ∷ gots) (w ∷ ws) b i = from_std (got i).rows (share (tasks 0) i w.rows) (b.0.rows i)

  keyed_second : (tasks : ℕ → Row → ℕ) (k : PortKind) (ks : List PortKind) (gots : List (ℕ → Numbered)) (wholes : List Numbered) → AllBrought name tasks n (k ∷ Keyed ∷ ks) gots wholes → (i : ℕ) → Perm (second_rows (at_task gots i)) (share (tasks 1) i (second_rows wholes))
  keyed_second tasks k ks [] ws b i = absurd b
  keyed_second tasks k ks (got ∷ gots) [] b i = absurd b
  keyed_second tasks k ks (got ∷ []) (w ∷ ws) b i = absurd b.1
  keyed_second tasks k ks (got ∷ (go ∷ gots)) (w ∷ []) b i = absurd b.1
  keyed_second tasks k ks (got ∷ (go ∷ gots)) (w ∷ (u ∷ ws)) b i = from_std (go i).rows (share (tasks 1) i u.rows) (b.1.0.rows i)

  side_second : (tasks : ℕ → Row → ℕ) (k : PortKind) (ks : List PortKind) (gots : List (ℕ → Numbered)) (wholes : List Numbered) → AllBrought name tasks n (k ∷ Side ∷ ks) gots wholes → (i : ℕ) → Perm (second_rows (at_task gots i)) (second_rows wholes)
  side_second tasks k ks [] ws b i = absurd b
  side_second tasks k ks (got ∷ gots) [] b i = absurd b
  side_second tasks k ks (got ∷ []) (w ∷ ws) b i = absurd b.1
  side_second tasks k ks (got ∷ (go ∷ gots)) (w ∷ []) b i = absurd b.1
  side_second tasks k ks (got ∷ (go ∷ gots)) (w ∷ (u ∷ ws)) b i = from_std (go i).rows u.rows (b.1.0.rows i)

  module _ (tasks : ℕ → Row → ℕ) (x : ℕ) (some : 0 < n) (low : (p : ℕ) (r : Row) → tasks p r < n) where
    brought_at : (t : Transform) (gots : List (ℕ → Numbered)) (wholes : List Numbered) → AllBrought name tasks n (kinds_of t) gots wholes
        → SameGiven (flat_map (λ i. answers t (first_rows t (at_task gots i)) (second_rows (at_task gots i))) (below n)) (answers t (first_rows t wholes) (second_rows wholes))
        → IsParted name n (λ i. at (name x) t (at_task gots i)) (at x t wholes)
    brought_at t gots wholes b p =
        parted_given name n x (λ i. blocking (kinds_of t) (at_task gots i)) (λ i. all_faults (at_task gots i)) (λ i. answers t (first_rows t (at_task gots i)) (second_rows (at_task gots i)))
        (blocking (kinds_of t) wholes) (all_faults wholes) (answers t (first_rows t wholes) (second_rows wholes))
        (λ i. brought_blocks name n tasks i (kinds_of t) gots wholes b) (brought_passed name n some tasks (kinds_of t) gots wholes b) p

    -- a transform with one Keyed port
    keyed_at : (t : Transform) (gots : List (ℕ → Numbered)) (wholes : List Numbered) → MeetByKey t (tasks 0) (tasks 1) → meets t ≡ true → is_source t ≡ false
        → AllBrought name tasks n (Keyed ∷ []) gots wholes
        → Perm (flat_map (λ i. answers t (port (at_task gots i) 0).rows []) (below n)) (answers t (port wholes 0).rows [])
    keyed_at t gots wholes meet k s b = shared_answers t n (tasks 0) (tasks 1) (λ i. (port (at_task gots i) 0).rows) (λ i. []) (port wholes 0).rows [] k s meet (low 0) (low 1) (keyed_first tasks [] gots wholes b) (λ i. none)

    pub task_all : (t : Transform) → MeetByKey t (tasks 0) (tasks 1) → (gots : List (ℕ → Numbered)) (wholes : List Numbered) → is_source t ≡ false → AllBrought name tasks n (kinds_of t) gots wholes
        → IsParted name n (λ i. at (name x) t (at_task gots i)) (at x t wholes)
    task_all (Source rows) meet gots wholes s b = cc
    task_all (Map out) meet gots wholes s b = task_main x (Map out) gots wholes refl refl (brought_parted tasks (Main ∷ []) gots wholes refl b)
    task_all (Filter c) meet gots wholes s b = task_main x (Filter c) gots wholes refl refl (brought_parted tasks (Main ∷ []) gots wholes refl b)
    task_all (Emit outs) meet gots wholes s b = task_main x (Emit outs) gots wholes refl refl (brought_parted tasks (Main ∷ []) gots wholes refl b)
    task_all (Words field) meet gots wholes s b = task_main x (Words field) gots wholes refl refl (brought_parted tasks (Main ∷ []) gots wholes refl b)
    task_all (Union ports) meet gots wholes s b = task_main x (Union ports) gots wholes refl (main_all ports) (brought_parted tasks (replicate ports Main) gots wholes (main_all ports) b)
    task_all (Sink name) meet gots wholes s b = task_main x (Sink name) gots wholes refl refl (brought_parted tasks (Main ∷ []) gots wholes refl b)
    task_all (Reduce by field) meet gots wholes s b = brought_at (Reduce by field) gots wholes b (given_perm (keyed_at (Reduce by field) gots wholes meet refl refl b))
    task_all Distinct meet gots wholes s b = brought_at Distinct gots wholes b (given_perm (keyed_at Distinct gots wholes meet refl refl b))
    task_all Join meet gots wholes s b = brought_at Join gots wholes b
        (given_perm (shared_answers Join n (tasks 0) (tasks 1) (λ i. (port (at_task gots i) 0).rows) (λ i. second_rows (at_task gots i)) (port wholes 0).rows (second_rows wholes) refl refl meet (low 0) (low 1) (keyed_first tasks (Keyed ∷ []) gots wholes b) (keyed_second tasks Keyed [] gots wholes b)))
    task_all SideJoin meet gots wholes s b = brought_at SideJoin gots wholes b
        (side_answers SideJoin n (λ i. (port (at_task gots i) 0).rows) (λ i. second_rows (at_task gots i)) (port wholes 0).rows (second_rows wholes) some refl refl (main_first tasks (Side ∷ []) gots wholes b) (side_second tasks Main [] gots wholes b))
