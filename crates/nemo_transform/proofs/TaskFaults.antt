-- The faults that tasks pass on and have of their own, against those of the vertex.
use Rattle.std.proofs.Common.{◌≡◌, ◌∙◌, refl, sym, ap, ℕ, zero, suc, ◌<◌, List, [], ◌∷◌, ◌++◌, true, map, arith, inl}
use Rattle.std.specs.List.{filter_map, flat_map, list_all}
use Rattle.std.proofs.lemmas.List.{map-append}
use Rattle.nemo_value.specs.Counted.{below, counted}
use Rattle.nemo_value.proofs.AscendingParts.{same_ascending}
use Rattle.nemo_value.proofs.JoinedLists.{chosen_flat, flat_none, flat_same, map_flat, map_map}
use Rattle.nemo_value.proofs.MemberLists.{none_in, same_append, same_each, same_flat, same_is, same_map, same_perm, same_then}
use Rattle.nemo_value.proofs.Members.{In, SameMembers, members_back}
use Rattle.nemo_value.proofs.Perm.{Perm, then, to_std}
use Rattle.nemo_value.proofs.Permuted.{apart, is}
use Rattle.nemo_transform.specs.Brought.{Arisen, all_faults, arisen, blocking, brought_by}
use Rattle.nemo_transform.specs.FaultOrder.{fault_cmp}
use Rattle.nemo_transform.specs.Gives.{Answer, Row, fault_in, own_faults, row_in, rows_in}
use Rattle.nemo_transform.specs.Ports.{Keyed, Main, PortKind, Side, is_main}
use Rattle.nemo_transform.specs.Tasks.{AllBrought, AllParted, IsBrought, IsParted, Numbered, at_task, renamed}
use Rattle.nemo_transform.specs.declared.fault.Fault.{Fault}
use Rattle.nemo_transform.proofs.FaultOrders.{fault_strict}
use Rattle.nemo_transform.proofs.SameGiven.{SameGiven, given_perm}

abbrev pub Faults : Type 0
Faults = List (Arisen ℕ)

-- faults that block leave what was passed on
blocked : (x : ℕ) (blocks passed : Faults) (given : List Answer) (z : Arisen ℕ) → In z blocks → brought_by x blocks passed given ≡ record { rows = []; faults = passed }
blocked x [] passed given z h = absurd h
blocked x (b ∷ bs) passed given z h = refl

-- Main ports don't block
pub main_blocks : (ks : List PortKind) (ports : List Numbered) → list_all is_main ks ≡ true → blocking ks ports ≡ []
main_blocks [] ports m = refl
main_blocks (k ∷ ks) [] m = refl
main_blocks (Main ∷ ks) (f ∷ ports) m = main_blocks ks ports m
main_blocks (Keyed ∷ ks) (f ∷ ports) m = cc
main_blocks (Side ∷ ks) (f ∷ ports) m = cc

module _ (name : ℕ → ℕ) where
  joined_same : {a c : Faults} (b d : Faults) → SameMembers a (map (renamed name) b) → SameMembers c (map (renamed name) d) → SameMembers (a ++ c) (map (renamed name) (b ++ d))
  joined_same b d p q = same_then (same_append p q) (same_is (sym (map-append (renamed name) b d)))

  module _ (n : ℕ) where
    own_same : (x : ℕ) (given : ℕ → List Answer) (whole : List Answer) → SameGiven (flat_map given (below n)) whole
        → SameMembers (flat_map (λ i. map (arisen (name x)) (own_faults (given i))) (below n)) (map (renamed name) (map (arisen x) (own_faults whole)))
    own_same x given whole p =
        let among : List Answer → List Fault = λ l. filter_map fault_in l in
        let each : SameMembers (flat_map (λ i. own_faults (given i)) (below n)) (flat_map (λ i. among (given i)) (below n)) =
        same_flat (λ i. own_faults (given i)) (λ i. among (given i)) (below n) (λ i. same_ascending fault_cmp fault_strict (among (given i))) in
        let all : SameMembers (flat_map (λ i. among (given i)) (below n)) (among whole) = same_then (same_is (sym (chosen_flat fault_in given (below n)))) p.faults in
        let own : SameMembers (flat_map (λ i. own_faults (given i)) (below n)) (own_faults whole) = same_then each (same_then all (members_back (same_ascending fault_cmp fault_strict (among whole)))) in
        same_then (same_is (sym (map_flat (arisen (name x)) (λ i. own_faults (given i)) (below n))))
        (same_then (same_map (arisen (name x)) own) (same_is (sym (map_map (renamed name) (arisen x) (own_faults whole)))))

    -- a vertex whose tasks' answers are its answers: rows up to order, faults as a set
    pub parted_given : (x : ℕ) (blocks passed : ℕ → Faults) (given : ℕ → List Answer) (all_blocks all_passed : Faults) (whole : List Answer)
        → ((i : ℕ) → SameMembers (blocks i) (map (renamed name) all_blocks)) → SameMembers (flat_map passed (below n)) (map (renamed name) all_passed) → SameGiven (flat_map given (below n)) whole
        → IsParted name n (λ i. brought_by (name x) (blocks i) (passed i) (given i)) (brought_by x all_blocks all_passed whole)
    parted_given x blocks passed given [] all_passed whole hb hp ha =
        let e : (i : ℕ) → brought_by (name x) (blocks i) (passed i) (given i) ≡ brought_by (name x) [] (passed i) (given i) = λ i. ap (λ l. brought_by (name x) l (passed i) (given i)) (none_in (blocks i) (hb i)) in
        let own : ℕ → Faults = λ i. map (arisen (name x)) (own_faults (given i)) in
        record {
          rows = to_std (then (is (flat_same (λ i. (brought_by (name x) (blocks i) (passed i) (given i)).rows) (λ i. rows_in (given i)) (below n) (λ i. ap (λ (o : Numbered). o.rows) (e i)) ∙ sym (chosen_flat row_in given (below n)))) ha.rows);
          faults = same_then (same_is (flat_same (λ i. (brought_by (name x) (blocks i) (passed i) (given i)).faults) (λ i. passed i ++ own i) (below n) (λ i. ap (λ (o : Numbered). o.faults) (e i))))
              (same_then (same_perm (apart passed own (below n))) (joined_same all_passed (map (arisen x) (own_faults whole)) hp (own_same x given whole ha)));
        }
    parted_given x blocks passed given (z ∷ zs) all_passed whole hb hp ha =
        let e : (i : ℕ) → brought_by (name x) (blocks i) (passed i) (given i) ≡ record { rows = []; faults = passed i } =
        λ i. blocked (name x) (blocks i) (passed i) (given i) (renamed name z) (((hb i).members (renamed name z)).1 (inl refl)) in
        record {
          rows = to_std (is (flat_none (λ i. (brought_by (name x) (blocks i) (passed i) (given i)).rows) (below n) (λ i. ap (λ (o : Numbered). o.rows) (e i))));
          faults = same_then (same_is (flat_same (λ i. (brought_by (name x) (blocks i) (passed i) (given i)).faults) passed (below n) (λ i. ap (λ (o : Numbered). o.faults) (e i)))) hp;
        }

    pub parted_by : (x : ℕ) (blocks passed : ℕ → Faults) (given : ℕ → List Answer) (all_blocks all_passed : Faults) (whole : List Answer)
        → ((i : ℕ) → SameMembers (blocks i) (map (renamed name) all_blocks)) → SameMembers (flat_map passed (below n)) (map (renamed name) all_passed) → Perm (flat_map given (below n)) whole
        → IsParted name n (λ i. brought_by (name x) (blocks i) (passed i) (given i)) (brought_by x all_blocks all_passed whole)
    parted_by x blocks passed given all_blocks all_passed whole hb hp ha = parted_given x blocks passed given all_blocks all_passed whole hb hp (given_perm ha)

    pub parted_passed : (gots : List (ℕ → Numbered)) (wholes : List Numbered) → AllParted name n gots wholes
        → SameMembers (flat_map (λ i. all_faults (at_task gots i)) (below n)) (map (renamed name) (all_faults wholes))
    parted_passed [] [] b = same_is (flat_none (λ i. []) (below n) (λ i. refl))
    parted_passed [] (w ∷ ws) b = absurd b
    parted_passed (got ∷ gots) [] b = absurd b
    parted_passed (got ∷ gots) (w ∷ ws) b =
        same_then (same_perm (apart (λ i. (got i).faults) (λ i. all_faults (at_task gots i)) (below n))) (joined_same w.faults (all_faults ws) b.0.faults (parted_passed gots ws b.1))

    pub brought_blocks : (tasks : ℕ → Row → ℕ) (i : ℕ) (ks : List PortKind) (gots : List (ℕ → Numbered)) (wholes : List Numbered) → AllBrought name tasks n ks gots wholes
        → SameMembers (blocking ks (at_task gots i)) (map (renamed name) (blocking ks wholes))
    brought_blocks tasks i [] [] [] b = same_is refl
    brought_blocks tasks i [] [] (w ∷ ws) b = absurd b
    brought_blocks tasks i [] (got ∷ gots) ws b = absurd b
    brought_blocks tasks i (k ∷ ks) [] ws b = absurd b
    brought_blocks tasks i (k ∷ ks) (got ∷ gots) [] b = absurd b
    brought_blocks tasks i (Main ∷ ks) (got ∷ gots) (w ∷ ws) b = brought_blocks (λ p. tasks (suc p)) i ks gots ws b.1
    brought_blocks tasks i (Keyed ∷ ks) (got ∷ gots) (w ∷ ws) b = joined_same w.faults (blocking ks ws) (b.0.faults i) (brought_blocks (λ p. tasks (suc p)) i ks gots ws b.1)
    brought_blocks tasks i (Side ∷ ks) (got ∷ gots) (w ∷ ws) b = joined_same w.faults (blocking ks ws) (b.0.faults i) (brought_blocks (λ p. tasks (suc p)) i ks gots ws b.1)

    module _ (some : 0 < n) where
      each_fault : (f : ℕ → Faults) (us : Faults) → ((i : ℕ) → SameMembers (f i) us) → SameMembers (flat_map f (below n)) us
      each_fault f us h = go n some
        where
          go : (m : ℕ) → 0 < m → SameMembers (flat_map f (counted 0 m)) us
          go zero l = absurd (omega arith)
          go (suc m) l = same_each f us 0 (counted 1 m) h

      passed_on : (task : Row → ℕ) (k : PortKind) (got : ℕ → Numbered) (w : Numbered) → IsBrought name task n k got w → SameMembers (flat_map (λ i. (got i).faults) (below n)) (map (renamed name) w.faults)
      passed_on task Main got w b = b.faults
      passed_on task Keyed got w b = each_fault (λ i. (got i).faults) (map (renamed name) w.faults) b.faults
      passed_on task Side got w b = each_fault (λ i. (got i).faults) (map (renamed name) w.faults) b.faults

      pub brought_passed : (tasks : ℕ → Row → ℕ) (ks : List PortKind) (gots : List (ℕ → Numbered)) (wholes : List Numbered) → AllBrought name tasks n ks gots wholes
          → SameMembers (flat_map (λ i. all_faults (at_task gots i)) (below n)) (map (renamed name) (all_faults wholes))
      brought_passed tasks [] [] [] b = same_is (flat_none (λ i. []) (below n) (λ i. refl))
      brought_passed tasks [] [] (w ∷ ws) b = absurd b
      brought_passed tasks [] (got ∷ gots) ws b = absurd b
      brought_passed tasks (k ∷ ks) [] ws b = absurd b
      brought_passed tasks (k ∷ ks) (got ∷ gots) [] b = absurd b
      brought_passed tasks (k ∷ ks) (got ∷ gots) (w ∷ ws) b =
          same_then (same_perm (apart (λ i. (got i).faults) (λ i. all_faults (at_task gots i)) (below n)))
          (joined_same w.faults (all_faults ws) (passed_on (tasks 0) k got w b.0) (brought_passed (λ p. tasks (suc p)) ks gots ws b.1))
