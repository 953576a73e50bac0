-- The fault of a legal log that ends in a fault is one of the flat job.
use Rattle.std.proofs.Common.{arith, ◌≡◌, ◌∙◌, ap, sym, subst, refl, ℕ, ◌+◌, ◌<◌, ◌==◌, true, false, Bool, List, [], ◌∷◌, ◌++◌, length, slice_get, Option, Some, None, Ordering, ◌⊎◌, inl, inr}
use Rattle.std.specs.BTreeSet.{insert_key}
use Rattle.std.specs.List.{list_any}
use Rattle.std.specs.Ordering.{match_ordering}
use Rattle.std.specs.declared.cmp.Ordering.TheVariants.{Less, Equal, Greater}
use Rattle.std.proofs.lemmas.Bool.{eqb-true}
use Rattle.std.proofs.lemmas.Option.{slice_get_within}
use Rattle.nemo_base.specs.Places.{row_at}
use Rattle.nemo_base.specs.declared.id.TaskId.{TaskId}
use Rattle.nemo_base.specs.Settings.{SettingsForm}
use Rattle.nemo_base.proofs.Finding.{find, passing, same_item}
use Rattle.nemo_value.specs.Ascending.{ascending}
use Rattle.nemo_value.specs.Members.{In}
use Rattle.nemo_value.specs.declared.expr.Kind.{Kind}
use Rattle.nemo_value.proofs.MemberLists.{flat_in, in_map}
use Rattle.nemo_transform.specs.Brought.{Arisen}
use Rattle.nemo_transform.specs.Gives.{Row}
use Rattle.nemo_ir.specs.Along.{below}
use Rattle.nemo_ir.specs.Flat.{IsFlat}
use Rattle.nemo_ir.specs.Meaning.{flat_arisen}
use Rattle.nemo_ir.specs.Nodes.{Node, nodes}
use Rattle.nemo_ir.specs.Part.{part}
use Rattle.nemo_ir.specs.Rewrites.{tasks_at}
use Rattle.nemo_ir.specs.Valid.{Valid}
use Rattle.nemo_ir.specs.Value.{ByNumber}
use Rattle.nemo_ir.proofs.Places.{got}
use Rattle.nemo_ir.proofs.Steps.{parts_at, tasks_are, vertex_at}
use Rattle.nemo_core.specs.Kept.{IsKept}
use Rattle.nemo_core.specs.Run.{run_on}
use Rattle.nemo_core.specs.State.{State, is_number, is_running, runs, start, task_at}
use Rattle.nemo_core.specs.Step.{after, conditions, refusal}
use Rattle.nemo_core.specs.declared.event.Event.{Event}
use Rattle.nemo_core.specs.declared.event.Event.TheVariants.{Fault}
use Rattle.nemo_core.specs.declared.row.Attempt.{Attempt}
use Rattle.nemo_core.specs.declared.row.TaskRow.{TaskRow}
use Rattle.nemo_core.proofs.Allowed.{are_met}
use Rattle.nemo_core.proofs.Cells.{row_is}
use Rattle.nemo_core.proofs.Changed.{get_map, on}
use Rattle.nemo_core.proofs.Keeping.{kept_along, kept_start}
use Rattle.nemo_plan.specs.Form.{PlanForm, graph}
use Rattle.nemo_plan.specs.Over.{is_of_stage}
use Rattle.nemo_plan.specs.Stages.{stage_at, stages_of}
use Rattle.nemo_plan.specs.Wiring.{IsWired}
use Rattle.nemo_plan.proofs.Memberships.{at_in, below_in}
use Rattle.nemo_plan.proofs.Wires.{graph_wired}
use Rattle.nemo_laws.specs.Data.{Ran, cuts_at, given_by, gives_of, ran_from, ran_of, state_of, with_attempt}
use Rattle.nemo_laws.specs.Legal.{IsHonest, Legal, LegalFrom, by_kind}
use Rattle.nemo_laws.specs.Recomputation.{IsRight, RunsRightly}
use Rattle.nemo_laws.proofs.FaultsOfTasks.{fault_reaches}
use Rattle.nemo_laws.proofs.SinkBlocks.{reached}

---- lists

-- what is put in order comes from the list
placed_from : {X : Type 0} (R : X → X → Ordering) (l : List X) (x z : X) → In z (insert_key R l x) → (z ≡ x) ⊎ In z l
placed_from R [] x z (inl e) = inl e
placed_from R [] x z (inr m) = absurd m
placed_from {X} R (y ∷ ys) x z m = go (R x y) m (placed_from R ys x z)
  where
    go : (r : Ordering) → In z (match_ordering r (x ∷ y ∷ ys) (y ∷ ys) (y ∷ insert_key R ys x)) → (In z (insert_key R ys x) → (z ≡ x) ⊎ In z ys) → (z ≡ x) ⊎ In z (y ∷ ys)
    go Less (inl e) ih = inl e
    go Less (inr n) ih = inr n
    go Equal n ih = inr n
    go Greater (inl e) ih = inr (inl e)
    go Greater (inr n) ih = elim (ih n) [ inl e ↦ inl e | inr k ↦ inr (inr k) ]

ascending_from : {X : Type 0} (R : X → X → Ordering) (xs : List X) (z : X) → In z (ascending R xs) → In z xs
ascending_from R [] z m = m
ascending_from R (x ∷ xs) z m = elim (placed_from R (ascending R xs) x z m) [ inl e ↦ inl e | inr n ↦ inr (ascending_from R xs z n) ]

---- logs

pub legal_split : (p : PlanForm) (k : SettingsForm) (s : State) (ran : List Ran) (xs ys : List Event) → LegalFrom p k s ran (xs ++ ys)
    → LegalFrom p k s ran xs × LegalFrom p k (run_on (graph p) k s xs) (ran_from p k s ran xs) ys
legal_split p k s ran [] ys h = (tt, h)
legal_split p k s ran (x ∷ xs) ys h = let q = legal_split p k (after (graph p) k s x) (with_attempt p s ran x) xs ys h.2 in ((h.0, h.1, q.0), q.1)

---- a running attempt

-- the task that runs an attempt
record IsRun (s : State) (a : ℕ) : Type 0 where
  task : TaskId
  row : TaskRow
  there : task_at s task ≡ Some row
  own : Attempt
  runs : row.running ≡ Some own
  number : own.number ≡ a

run_of : (s : State) (a : ℕ) → is_running s a ≡ true → IsRun s a
run_of s a h =
    let f = find (list_any (runs a)) s.tasks h in
    let q = find (runs a) f.item f.ok in
    let o = passing (is_number a) q.item.running q.ok in
    record {
      task = record { stage = f.place; index = q.place };
      row = q.item;
      there = ap (λ row. slice_get row q.place) (row_is s.tasks f.place f.item f.there) ∙ q.there;
      own = o.item;
      runs = o.there;
      number = eqb-true o.item.number a o.ok;
    }

pub stage_there : (stages : List ℕ) (s v : ℕ) → is_of_stage stages s v ≡ true → stage_at stages v ≡ Some s
stage_there stages s v h = let o = passing (λ a. a == s) (stage_at stages v) h in o.there ∙ ap Some (eqb-true o.item s o.ok)

module _ (p : PlanForm) (k : SettingsForm) (before : List Event) (fine : IsFlat p.flat) (valid : Valid p.flat p.dag)
    (legal : Legal p k before) (right : IsRight p (ran_of p k before) (state_of (graph p) k before)) where
  abbrev last : State
  last = state_of (graph p) k before

  abbrev wired : IsWired p (graph p)
  wired = graph_wired p fine valid

  kept : IsKept (graph p) k (0 + length before) last
  kept = kept_along (graph p) k 0 (start (graph p) k) before last (kept_start (graph p) k) (reached p k (start (graph p) k) [] before legal)

  -- a task that is there is one of each vertex of its stage
  task_low : (t : TaskId) (row : TaskRow) (v : ℕ) (node : Node) → task_at last t ≡ Some row → stage_at (stages_of p.flat p.dag) v ≡ Some t.stage → slice_get (nodes p.flat.transforms p.dag) v ≡ Some node
      → t.index < (parts_at p.flat p.dag (cuts_at last) v).parallelism
  task_low t row v node there own at =
      let stage = got (graph p).stages t.stage (wired.known v t.stage own) in
      let h = vertex_at p.flat p.dag v node at in
      let alike : h.vertex.parallelism ≡ stage.0.parallelism = ((wired.stages t.stage stage.0 stage.1).alike v h.vertex h.there own).1 in
      let mine : (parts_at p.flat p.dag (cuts_at last) v).parallelism ≡ h.vertex.parallelism = tasks_are p.flat p.dag (cuts_at last) v node at ∙ ap (λ n. n.parallelism) h.is in
      let less : t.index < length (row_at last.tasks t.stage) = slice_get_within (row_at last.tasks t.stage) t.index row there in
      let long : length (row_at last.tasks t.stage) ≡ stage.0.parallelism = row_length stage.0 stage.1 (slice_get last.tasks t.stage) refl in
      omega (arith, less, long, mine, alike)
    where
      row_length : (stage : _) → slice_get (graph p).stages t.stage ≡ Some stage → (o : Option (List TaskRow)) → slice_get last.tasks t.stage ≡ o → length (row_at last.tasks t.stage) ≡ stage.parallelism
      row_length stage named (Some tasks) e =
          ap length (row_is last.tasks t.stage tasks e)
          ∙ same_item (length tasks) stage.parallelism
          (sym (ap (on length) e) ∙ sym (get_map length last.tasks t.stage) ∙ ap (λ l. slice_get l t.stage) kept.tables.tasks ∙ get_map (λ s. s.parallelism) (graph p).stages t.stage ∙ ap (on (λ s. s.parallelism)) named)
      row_length stage named None e =
          let clash : None ≡ Some stage.parallelism =
          sym (ap (on length) e) ∙ sym (get_map length last.tasks t.stage) ∙ ap (λ l. slice_get l t.stage) kept.tables.tasks ∙ get_map (λ s. s.parallelism) (graph p).stages t.stage ∙ ap (on (λ s. s.parallelism)) named in
          cc

  -- a fault of what a running attempt gives
  of_part : (t : TaskId) (row : TaskRow) (a : Attempt) (v : ℕ) (fault : Arisen ℕ) → task_at last t ≡ Some row → RunsRightly p (graph p) (ran_of p k before) last t a.number
      → In fault (given_by (ran_of p k before) a.number v).faults → In fault (flat_arisen p.flat)
  of_part t row a v fault there runs m = go (is_of_stage (stages_of p.flat p.dag) t.stage v) refl
    where
      gives : In fault (runs.launch.gives v).faults
      gives = subst (λ (o : Option Ran). In fault (gives_of o v).faults) runs.number m

      go : (b : Bool) → is_of_stage (stages_of p.flat p.dag) t.stage v ≡ b → In fault (flat_arisen p.flat)
      go false other = absurd (subst (λ (b : ByNumber). In fault b.faults) (runs.others v other) gives)
      go true own =
          let stage = stage_there (stages_of p.flat p.dag) t.stage v own in
          let within = slice_get_within (stages_of p.flat p.dag) v t.stage stage in
          let staged = wired.staged in
          let counted = wired.node_count in
          let node = got (nodes p.flat.transforms p.dag) v (omega (arith, within, staged, counted)) in
          let low = task_low t row v node.0 there stage node.1 in
          let task = part p.flat p.dag (cuts_at last) v in
          let n = (parts_at p.flat p.dag (cuts_at last) v).parallelism in
          fault_reaches p.flat p.dag fine valid (cuts_at last) right.assignment v node.0 node.1 fault
          (flat_in (λ (b : ByNumber). b.faults) fault (task t.index) (tasks_at p.flat p.dag (cuts_at last) v)
          (in_map task t.index (below n) (below_in n t.index low))
          (subst (λ (b : ByNumber). In fault b.faults) (runs.gives v own) gives))

  -- the fault of a running attempt
  pub fault_is : (a x : ℕ) (kind : Kind) (rec : Row) → refusal (graph p) k last (Fault a x kind rec) ≡ None → IsHonest p k last (ran_of p k before) (Fault a x kind rec)
      → In (record { vertex = x; kind = kind; rec = rec }) (flat_arisen p.flat)
  fault_is a x kind rec none honest =
      let running : is_running last a ≡ true = (are_met (conditions (graph p) k last (Fault a x kind rec)) none).1.1.0 in
      let r = run_of last a running in
      let fault : Arisen ℕ = record { vertex = x; kind = kind; rec = rec } in
      let first = ascending_from by_kind (given_by (ran_of p k before) a honest.vertex).faults fault (at_in (ascending by_kind (given_by (ran_of p k before) a honest.vertex).faults) 0 fault honest.is) in
      of_part r.task r.row r.own honest.vertex fault r.there (right.running r.task r.row r.own r.there r.runs)
      (subst (λ n. In fault (given_by (ran_of p k before) n honest.vertex).faults) (sym r.number) first)
