-- A task that is told what it reads gives its part at each vertex of its stage.
use Rattle.std.proofs.Common.{arith, ◌≡◌, ◌∙◌, ap, sym, subst, refl, ℕ, zero, suc, ◌<◌, ◌==◌, ◌++◌, true, false, cond, List, [], ◌∷◌, length, map, filter, take, get_or, slice_get, Some, inl, inr}
use Rattle.std.proofs.lemmas.Bool.{cases_Bool}
use Rattle.std.proofs.lemmas.List.{get_or-take}
use Rattle.std.proofs.lemmas.Option.{slice_get_within}
use Rattle.std.specs.List.{flat_map}
use Rattle.nemo_base.specs.declared.annotation.Pattern.{Pattern}
use Rattle.nemo_base.specs.declared.annotation.Pattern.TheVariants.{OneToOne, Broadcast, Hash, Spread}
use Rattle.nemo_base.specs.declared.id.TaskId.{TaskId}
use Rattle.nemo_value.specs.Members.{In}
use Rattle.nemo_value.proofs.JoinedLists.{map_map}
use Rattle.nemo_transform.specs.Brought.{all_faults, all_rows, nothing}
use Rattle.nemo_ir.specs.Along.{along, below}
use Rattle.nemo_ir.specs.Flat.{IsFlat}
use Rattle.nemo_ir.specs.Nodes.{Feed, Node, nodes, origin}
use Rattle.nemo_ir.specs.Part.{Parts, all_parts, all_tasks, brought, dealt, done_by, no_parts, part, task_of}
use Rattle.nemo_ir.specs.Valid.{Valid}
use Rattle.nemo_ir.specs.Value.{ByNumber}
use Rattle.nemo_plan.specs.Form.{PlanForm}
use Rattle.nemo_plan.specs.Over.{OverLaw, Tells, TellsAll, is_of_stage, over_edge, over_step, part_over}
use Rattle.nemo_plan.specs.Stages.{stage_at, stages_of}
use Rattle.nemo_ir.proofs.Entries.{along_at, along_before}
use Rattle.nemo_ir.proofs.Places.{got}
use Rattle.nemo_ir.proofs.PortEdges.{edge_rises, nodes_length}
use Rattle.nemo_ir.proofs.Steps.{feed_brings, parts_before, task_at, tasks_are}
use Rattle.nemo_plan.proofs.CutLaws.{stages_length, whole_cut}
use Rattle.nemo_plan.proofs.Memberships.{in_below, map_same}
use Rattle.nemo_plan.proofs.OnePort.{feed_edge}
use Rattle.nemo_plan.proofs.Reaching.{stage_is}

---- what an edge brings

flat_same : {X Y : Type 0} (f g : X → List Y) (xs : List X) → ((x : X) → In x xs → f x ≡ g x) → flat_map f xs ≡ flat_map g xs
flat_same f g [] h = refl
flat_same f g (x ∷ xs) h = let rest = flat_same f g xs (λ y m. h y (inr m)) in λ i. h x (inl refl) i ++ rest i

module _ (cuts : List ℕ) (n i : ℕ) (outside parts : Parts) where
  -- all tasks give the same
  abbrev Same : Type 0
  Same = (outside.parallelism ≡ parts.parallelism) × ((j : ℕ) → j < parts.parallelism → outside.task j ≡ parts.task j)

  same_tasks : Same → all_tasks outside ≡ all_tasks parts
  same_tasks s = ap (λ m. map outside.task (below m)) s.0 ∙ map_same outside.task parts.task (below parts.parallelism) (λ j m. s.1 j (in_below parts.parallelism j m))

  same_dealt : Same → flat_map (λ j. dealt n i j (outside.task j).rows) (below outside.parallelism) ≡ flat_map (λ j. dealt n i j (parts.task j).rows) (below parts.parallelism)
  same_dealt s =
      ap (λ m. flat_map (λ j. dealt n i j (outside.task j).rows) (below m)) s.0
      ∙ flat_same (λ j. dealt n i j (outside.task j).rows) (λ j. dealt n i j (parts.task j).rows) (below parts.parallelism)
      (λ j m. ap (λ (b : ByNumber). dealt n i j b.rows) (s.1 j (in_below parts.parallelism j m)))

  -- what is told is what the edge brings
  told_brought : (pattern : Pattern) → Tells parts.task outside parts.parallelism pattern i → brought cuts n outside pattern i ≡ brought cuts n parts pattern i
  told_brought OneToOne h = h
  told_brought Broadcast h = let same = same_tasks h in λ k. record { rows = all_rows (same k); faults = all_faults (same k) }
  told_brought Hash h = let same = same_tasks h in λ k. record { rows = filter (λ r. task_of cuts r == i) (all_rows (same k)); faults = all_faults (same k) }
  told_brought Spread h = let same = same_tasks h in let rows = same_dealt h in λ k. record { rows = rows k; faults = all_faults (same k) }

---- a task at its vertices

module _ (p : PlanForm) (fine : IsFlat p.flat) (valid : Valid p.flat p.dag) (cuts : ℕ → List ℕ) (outside : ℕ → Parts) (t : TaskId) (told : TellsAll p cuts outside t) where
  abbrev stages : List ℕ
  stages = stages_of p.flat p.dag

  abbrev ns : List Node
  ns = nodes p.flat.transforms p.dag

  abbrev step : List ByNumber → Node → ByNumber
  step = over_step p stages t cuts outside

  abbrev parts_of : ℕ → Parts
  parts_of v = get_or (all_parts p.flat p.dag cuts) v no_parts

  abbrev Agrees : ℕ → Type 0
  Agrees v = is_of_stage stages t.stage v ≡ true → part_over p cuts outside t v ≡ part p.flat p.dag cuts v t.index

  staged_node : (v : ℕ) → is_of_stage stages t.stage v ≡ true → (node : Node) × (slice_get ns v ≡ Some node)
  staged_node v h =
      let within : v < length stages = slice_get_within stages v t.stage (stage_is (stage_at stages v) t.stage h) in
      let size : length stages ≡ length p.dag.vertices = stages_length p.flat p.dag valid in
      let count : length ns ≡ length p.dag.vertices = nodes_length p.flat.transforms p.dag.edges 0 p.dag.vertices in
      got ns v (omega arith)

  module _ (v : ℕ) (node : Node) (at_v : slice_get ns v ≡ Some node) (own : is_of_stage stages t.stage v ≡ true) (before : (w : ℕ) → w < v → Agrees w) where
    abbrev done : List ByNumber
    done = take v (along step [] ns)

    size : length done ≡ v
    size = along_before step ns v node at_v

    -- from its own stage an in-edge brings what the task gave there
    inner : (f : Feed) → f.from < v → is_of_stage stages t.stage f.from ≡ true → f.pattern ≡ OneToOne → get_or done f.from nothing ≡ feed_brings p.flat p.dag cuts v node.parallelism f t.index
    inner f low inside one =
        get_or-take v (along step [] ns) f.from nothing low
        ∙ before f.from low inside
        ∙ ap (λ (q : Parts). q.task t.index) (sym (parts_before p.flat p.dag cuts v f.from low))
        ∙ sym (ap (λ q. brought (cuts v) node.parallelism (get_or (take v (all_parts p.flat p.dag cuts)) f.from no_parts) q t.index) one)

    -- and else what comes from outside
    outer : (f : Feed) → In f node.feeds → f.from < v → is_of_stage stages t.stage f.from ≡ false
        → brought (cuts (length done)) node.parallelism (outside f.from) f.pattern t.index ≡ feed_brings p.flat p.dag cuts v node.parallelism f t.index
    outer f m low other =
        let within : v < length ns = slice_get_within ns v node at_v in
        let producer = got ns f.from (omega arith) in
        let tells = told v node producer.0 f own at_v m (λ h. absurd (let no_stage = sym other ∙ h in cc)) producer.1 in
        let tasks = sym (tasks_are p.flat p.dag cuts f.from producer.0 producer.1) in
        ap (λ k. brought (cuts k) node.parallelism (outside f.from) f.pattern t.index) size
        ∙ told_brought (cuts v) node.parallelism t.index (outside f.from) (parts_of f.from) f.pattern (subst (λ k. Tells (part p.flat p.dag cuts f.from) (outside f.from) k f.pattern t.index) tasks tells)
        ∙ ap (λ q. brought (cuts v) node.parallelism q f.pattern t.index) (sym (parts_before p.flat p.dag cuts v f.from low))

    feed_agrees : (f : Feed) → In f node.feeds → over_edge stages t cuts outside done node.parallelism f ≡ feed_brings p.flat p.dag cuts v node.parallelism f t.index
    feed_agrees f m =
        let is = feed_edge p.flat p.dag valid v node f at_v m in
        let e = is.edge in
        let from : f.from ≡ e.from = ap (λ (x : Feed). x.from) is.is in
        let rise : e.from < e.to = (edge_rises p.flat p.dag valid is.place e is.there).low in
        let to : e.to ≡ v = is.to in
        let low : f.from < v = omega arith in
        let given = get_or done f.from nothing in
        let read = brought (cuts (length done)) node.parallelism (outside f.from) f.pattern t.index in
        elim (cases_Bool (is_of_stage stages t.stage f.from)) [
          | inl inside ↦
              let here = ap (stage_at stages) (sym from) ∙ stage_is (stage_at stages f.from) t.stage inside in
              let there = ap (stage_at stages) to ∙ stage_is (stage_at stages v) t.stage own in
              let one = ap (λ (x : Feed). x.pattern) is.is ∙ ((whole_cut p.flat p.dag valid).narrow is.place t.stage e is.there here there).pattern in
              ap (λ c. cond c given read) inside ∙ inner f low inside one
          | inr other ↦ ap (λ c. cond c given read) other ∙ outer f m low other
        ]

    node_agrees : part_over p cuts outside t v ≡ part p.flat p.dag cuts v t.index
    node_agrees =
        let n = node.parallelism in
        let ports : map (over_edge stages t cuts outside done n) node.feeds ≡ map (λ f. feed_brings p.flat p.dag cuts v n f t.index) node.feeds =
        map_same (over_edge stages t cuts outside done n) (λ f. feed_brings p.flat p.dag cuts v n f t.index) node.feeds feed_agrees in
        along_at step ns v node nothing at_v
        ∙ ap (λ k. cond (is_of_stage stages t.stage k) (done_by (origin p.dag k) n t.index node.deed (map (over_edge stages t cuts outside done n) node.feeds)) nothing) size
        ∙ ap (λ c. cond c (done_by (origin p.dag v) n t.index node.deed (map (over_edge stages t cuts outside done n) node.feeds)) nothing) own
        ∙ ap (done_by (origin p.dag v) n t.index node.deed) (ports ∙ sym (map_map (λ (g : ℕ → ByNumber). g t.index) (feed_brings p.flat p.dag cuts v n) node.feeds))
        ∙ sym (task_at p.flat p.dag cuts v node at_v t.index)

  each_agrees : (n v : ℕ) → v < n → Agrees v
  each_agrees zero v l own = absurd (omega arith)
  each_agrees (suc n) v l own = let node = staged_node v own in node_agrees v node.0 node.1 own (λ w m. each_agrees n w (omega arith))

pub over_is : OverLaw
over_is p fine valid cuts outside t told v own = each_agrees p fine valid cuts outside t told (suc v) v (omega arith) own
