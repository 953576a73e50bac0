-- What all tasks of a plan of one stage give together is what its flat job gives.
use Rattle.std.proofs.Common.{arith, ◌≡◌, ◌∙◌, ap, sym, subst, refl, ℕ, zero, suc, ◌+◌, ◌<◌, ◌≤◌, List, [], ◌∷◌, ◌++◌, length, map, get_or, inl, inr}
use Rattle.std.proofs.lemmas.Bool.{cases_eq}
use Rattle.std.specs.List.{flat_map}
use Rattle.std.specs.List.Sorted.{IsPermutation}
use Rattle.nemo_value.proofs.JoinedLists.{flat_over_map, flat_same}
use Rattle.nemo_value.proofs.MemberLists.{none_in}
use Rattle.nemo_value.specs.Members.{SameMembers}
use Rattle.nemo_transform.specs.Brought.{all_faults, all_rows}
use Rattle.nemo_transform.specs.Tasks.{renamed}
use Rattle.nemo_ir.specs.Along.{below, counted}
use Rattle.nemo_ir.specs.Part.{all_parts, no_parts, part}
use Rattle.nemo_ir.specs.Nodes.{rep_of}
use Rattle.nemo_ir.specs.Rewrites.{IsComputed, called, tasks_at}
use Rattle.nemo_ir.specs.Value.{ByNumber, value}
use Rattle.nemo_ir.proofs.Computing.{computes}
use Rattle.nemo_ir.proofs.ValidNodes.{valid_wired}
use Rattle.nemo_plan.specs.Form.{PlanForm}
use Rattle.nemo_replay.specs.StageRun.{IsOneStage, tasks_in}
use Rattle.nemo_replay.proofs.OneStage.{count, stage_plan, stands}
use Rattle.nemo_replay.proofs.Tasks.{count_tasks, line_part, part_is}
use Rattle.nemo_replay.proofs.Uncut.{uncut, uncut_fits}

none_first : {X : Type 0} (xs ys : List X) → xs ++ ys ≡ [] → xs ≡ []
none_first [] ys e = refl
none_first (x ∷ xs) ys e = cc

none_last : {X : Type 0} (xs ys : List X) → xs ++ ys ≡ [] → ys ≡ []
none_last [] ys e = e
none_last (x ∷ xs) ys e = cc

-- where a joined list has nothing, none of its parts has
none_of : {X : Type 0} (f : ℕ → List X) (k c i : ℕ) → flat_map f (counted k c) ≡ [] → k ≤ i → i < k + c → f i ≡ []
none_of f k zero i e low high = absurd (omega arith)
none_of f k (suc c) i e low high = elim (cases_eq k i) [
  | inl same ↦ ap f (sym same) ∙ none_first (f k) (flat_map f (counted (suc k) c)) e
  | inr other ↦ none_of f (suc k) c i (none_last (f k) (flat_map f (counted (suc k) c)) e) (omega arith) (omega arith)
]

module _ (p : PlanForm) (o : IsOneStage p) where
  -- flat vertex v is computed by vertex v
  computed : (v : ℕ) → v < count p → IsComputed p.flat p.dag (uncut p.dag) v
  computed v l =
      let size : length p.flat.vertices ≡ count p = (stage_plan p o).flat_count in
      computes p.flat p.dag o.flat o.valid (valid_wired p.flat p.dag o.valid) (uncut p.dag) (uncut_fits p.flat p.dag o.valid) v (omega arith)

  -- the tasks of vertex v
  tasks_ran : (v : ℕ) → v < count p → tasks_at p.flat p.dag (uncut p.dag) v ≡ map (λ i. (get_or (all_parts p.flat p.dag (uncut p.dag)) v no_parts).task i) (below (tasks_in p))
  tasks_ran v l = ap (λ n. map (λ i. (get_or (all_parts p.flat p.dag (uncut p.dag)) v no_parts).task i) (below n)) (count_tasks p (count p) (tasks_in p) (stage_plan p o) (uncut p.dag) v l)

  abbrev own_part : ℕ → ℕ → ByNumber
  own_part v i = part p.flat p.dag (uncut p.dag) v i

  own_rep : (v : ℕ) → v < count p → tasks_at p.flat p.dag (uncut p.dag) (rep_of p.dag v) ≡ map (own_part v) (below (tasks_in p))
  own_rep v l = ap (tasks_at p.flat p.dag (uncut p.dag)) (stands p o v l).rep ∙ tasks_ran v l

  own_is : (v i : ℕ) → v < count p → own_part v i ≡ line_part p (tasks_in p) i v
  own_is v i l = part_is p (count p) (tasks_in p) (stage_plan p o) (uncut p.dag) v i l

  ---- rows

  pub task_rows_are : (v : ℕ) → v < count p → IsPermutation (flat_map (λ i. (line_part p (tasks_in p) i v).rows) (below (tasks_in p))) (value p.flat v).rows
  task_rows_are v l =
      subst (λ rows. IsPermutation rows (value p.flat v).rows)
      (ap all_rows (own_rep v l)
      ∙ flat_over_map (λ (b : ByNumber). b.rows) (own_part v) (below (tasks_in p))
      ∙ flat_same (λ i. (own_part v i).rows) (λ i. (line_part p (tasks_in p) i v).rows) (below (tasks_in p)) (λ i. ap (λ b. b.rows) (own_is v i l)))
      (computed v l).rows

  ---- faults

  -- where the flat vertex has no fault, no task has one
  pub line_clean : (v i : ℕ) → v < count p → i < tasks_in p → (value p.flat v).faults ≡ [] → (line_part p (tasks_in p) i v).faults ≡ []
  line_clean v i l lt e =
      let all : SameMembers (all_faults (tasks_at p.flat p.dag (uncut p.dag) (rep_of p.dag v))) (map (renamed (called p.dag)) (value p.flat v).faults) = (computed v l).faults in
      let none : all_faults (tasks_at p.flat p.dag (uncut p.dag) (rep_of p.dag v)) ≡ [] =
      none_in (all_faults (tasks_at p.flat p.dag (uncut p.dag) (rep_of p.dag v)))
      (subst (λ fs. SameMembers (all_faults (tasks_at p.flat p.dag (uncut p.dag) (rep_of p.dag v))) (map (renamed (called p.dag)) fs)) e all) in
      let each : flat_map (λ j. (own_part v j).faults) (below (tasks_in p)) ≡ [] =
      sym (ap all_faults (own_rep v l) ∙ flat_over_map (λ (b : ByNumber). b.faults) (own_part v) (below (tasks_in p))) ∙ none in
      sym (ap (λ b. b.faults) (own_is v i l)) ∙ none_of (λ j. (own_part v j).faults) 0 (tasks_in p) i each (omega arith) (omega arith)
