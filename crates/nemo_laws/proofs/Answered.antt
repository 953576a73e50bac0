-- A legal log that ends has the answer of its flat job.
use Rattle.std.proofs.Common.{arith, ◌≡◌, ◌∙◌, ap, sym, subst, refl, ℕ, ◌+◌, ◌<◌, false, List, [], ◌∷◌, ◌++◌, map, slice_get, Option, Some, None, inl, inr}
use Rattle.std.specs.Prelude.{option_map}
use Rattle.std.specs.List.{cons_option, filter_map, flat_map}
use Rattle.std.proofs.lemmas.Option.{slice_get_within}
use Rattle.nemo_base.specs.Places.{map_at}
use Rattle.nemo_base.specs.Settings.{SettingsForm}
use Rattle.nemo_value.specs.Ascending.{ascending}
use Rattle.nemo_value.specs.Members.{In}
use Rattle.nemo_value.specs.Order.{record_cmp}
use Rattle.nemo_value.specs.SinkOrder.{in_order, with_sorted}
use Rattle.nemo_value.specs.Sorting.{sorted}
use Rattle.nemo_value.specs.declared.record.SinkRows.{SinkRows}
use Rattle.nemo_value.proofs.MemberLists.{in_flat, in_map, map_in}
use Rattle.nemo_value.proofs.Perm.{from_std}
use Rattle.nemo_value.proofs.RecordOrder.{record_strict}
use Rattle.nemo_value.proofs.SortedLists.{sorted_alike}
use Rattle.nemo_transform.specs.ArisenOrder.{place_cmp}
use Rattle.nemo_transform.specs.Brought.{all_faults, all_rows}
use Rattle.nemo_transform.specs.Gives.{Row}
use Rattle.nemo_transform.specs.Tasks.{renamed}
use Rattle.nemo_ir.specs.Along.{below}
use Rattle.nemo_ir.specs.Flat.{IsFlat, sink_name, transform_of}
use Rattle.nemo_ir.specs.Meaning.{Reached, by_path, flat_faults, flat_rows, reached, under}
use Rattle.nemo_ir.specs.Nodes.{deed_of, is_utility, rep_of, transform_in}
use Rattle.nemo_ir.specs.Part.{part}
use Rattle.nemo_ir.specs.Rewrites.{called, tasks_at}
use Rattle.nemo_ir.specs.Valid.{Valid}
use Rattle.nemo_ir.specs.Value.{ByNumber, value}
use Rattle.nemo_ir.specs.declared.dag.IrVertex.{IrVertex}
use Rattle.nemo_ir.specs.declared.dag.VertexKind.{VertexKind}
use Rattle.nemo_ir.specs.declared.dag.VertexKind.TheVariants.{Op, Relay, Trigger}
use Rattle.nemo_ir.specs.declared.flat.FlatVertex.{FlatVertex}
use Rattle.nemo_ir.proofs.Places.{from_none, got, same_item}
use Rattle.nemo_ir.proofs.Reps.{represented}
use Rattle.nemo_ir.proofs.Steps.{parts_at, tasks_are, vertex_at}
use Rattle.nemo_core.specs.State.{holder}
use Rattle.nemo_core.specs.declared.event.Event.{Event}
use Rattle.nemo_core.specs.declared.event.Event.TheVariants.{Finish}
use Rattle.nemo_plan.specs.Form.{PlanForm, graph}
use Rattle.nemo_plan.proofs.Memberships.{in_below}
use Rattle.nemo_plan.proofs.Wires.{graph_wired}
use Rattle.nemo_laws.specs.Data.{cuts_at, given_by, ran_of, state_of}
use Rattle.nemo_laws.specs.History.{IsAnswer}
use Rattle.nemo_laws.specs.Legal.{Legal}
use Rattle.nemo_laws.specs.Recomputation.{IsRight}
use Rattle.nemo_laws.specs.Written.{block_rows, sink_at, sink_written, written}
use Rattle.nemo_laws.proofs.FaultsOfTasks.{computed, rep_is}
use Rattle.nemo_laws.proofs.SinkBlocks.{ended_block, from_commits}
use Rattle.nemo_laws.proofs.SinksByName.{apart_chosen, chosen_back, chosen_there, one_place, same_in_order}

---- lists

-- a list without members
none_in : {X : Type 0} (xs : List X) → ((x : X) → In x xs → ⊥) → xs ≡ []
none_in [] h = refl
none_in (x ∷ xs) h = absurd (h x (inl refl))

-- what is made of chosen items
mapped_chosen : {X Y Z : Type 0} (h : Y → Z) (f : ℕ → X → Option Y) (k : ℕ) (xs : List X) → map h (filter_map (λ o. o) (map_at f k xs)) ≡ filter_map (λ o. o) (map_at (λ i x. option_map h (f i x)) k xs)
mapped_chosen h f k [] = refl
mapped_chosen {X} {Y} {Z} h f k (x ∷ xs) = go (f k x) (mapped_chosen h f (k + 1) xs)
  where
    go : (o : Option Y) → map h (filter_map (λ o. o) (map_at f (k + 1) xs)) ≡ filter_map (λ o. o) (map_at (λ i x. option_map h (f i x)) (k + 1) xs)
        → map h (cons_option o (filter_map (λ o. o) (map_at f (k + 1) xs))) ≡ cons_option (option_map h o) (filter_map (λ o. o) (map_at (λ i x. option_map h (f i x)) (k + 1) xs))
    go (Some y) e = ap (λ l. h y ∷ l) e
    go None e = e

mapped_back : {X Y : Type 0} (h : X → Y) (o : Option X) (y : Y) → option_map h o ≡ Some y → (x : X) × (o ≡ Some x) × (y ≡ h x)
mapped_back h (Some x) y e = (x, refl, cc)
mapped_back h None y e = cc

under_back : (f : ByNumber) (o : Option (List ℕ)) (r : Reached) → under f o ≡ Some r → (name : List ℕ) × (o ≡ Some name) × (r ≡ record { name = name; brought = f })
under_back f (Some name) r e = (name, refl, cc)
under_back f None r e = cc

-- the rows of tasks, and their faults where none has one
rows_joined : (f : ℕ → List Row) (task : ℕ → ByNumber) (ns : List ℕ) → ((n : ℕ) → In n ns → f n ≡ (task n).rows) → flat_map f ns ≡ all_rows (map task ns)
rows_joined f task [] h = refl
rows_joined f task (n ∷ ns) h = ap (λ rows. rows ++ flat_map f ns) (h n (inl refl)) ∙ ap (λ rows. (task n).rows ++ rows) (rows_joined f task ns (λ m i. h m (inr i)))

faults_joined : (task : ℕ → ByNumber) (ns : List ℕ) → ((n : ℕ) → In n ns → (task n).faults ≡ []) → all_faults (map task ns) ≡ []
faults_joined task [] h = refl
faults_joined task (n ∷ ns) h = ap (λ fs. fs ++ all_faults (map task ns)) (h n (inl refl)) ∙ faults_joined task ns (λ m i. h m (inr i))

---- the answer

module _ (p : PlanForm) (k : SettingsForm) (before : List Event) (fine : IsFlat p.flat) (valid : Valid p.flat p.dag) (legal : Legal p k (before ++ Finish ∷ []))
    (right : IsRight p (ran_of p k (before ++ Finish ∷ [])) (state_of (graph p) k (before ++ Finish ∷ []))) where
  abbrev log : List Event
  log = before ++ Finish ∷ []

  abbrev cuts : ℕ → List ℕ
  cuts = cuts_at (state_of (graph p) k log)

  abbrev row_list : ℕ → ℕ → List Row
  row_list v n = flat_map (block_rows p k log v) (below n)

  -- a block of a sink has the rows of its part, which has no fault
  record IsBlock (v i : ℕ) : Type 0 where
    rows : block_rows p k log v i ≡ (part p.flat p.dag cuts v i).rows
    faultless : (part p.flat p.dag cuts v i).faults ≡ []

  block_is : (v : ℕ) (u : IrVertex) (name : List ℕ) (i : ℕ) → slice_get p.dag.vertices v ≡ Some u → sink_at p u ≡ Some name → i < u.parallelism → IsBlock v i
  block_is v u name i there named less =
      let e = ended_block p k before (graph_wired p fine valid) legal v u name i there named less in
      let held = right.held v i e.held e.is in
      record {
        rows = ap (λ o. (given_by (ran_of p k log) (holder o) v).rows) e.is ∙ ap (λ (b : ByNumber). b.rows) held.is;
        faultless = held.faultless;
      }

  ---- what stands for a flat vertex

  record IsStanding (x : ℕ) (y : FlatVertex) : Type 0 where
    vertex : IrVertex
    there : slice_get p.dag.vertices (rep_of p.dag x) ≡ Some vertex
    name : sink_at p vertex ≡ sink_name (transform_of p.flat y)
    tasks : (parts_at p.flat p.dag cuts (rep_of p.dag x)).parallelism ≡ vertex.parallelism

  standing : (x : ℕ) (y : FlatVertex) → slice_get p.flat.vertices x ≡ Some y → IsStanding x y
  standing x y there =
      let r = represented p.flat fine p.dag valid x y there in
      let h = vertex_at p.flat p.dag (rep_of p.dag x) r.node r.there in
      let deed : deed_of p.flat.transforms h.vertex.kind ≡ r.node.deed = sym (ap (λ n. n.deed) h.is) in
      record {
        vertex = h.vertex;
        there = h.there;
        name = ap (λ d. sink_name (transform_in d)) (deed ∙ r.deed) ∙ ap sink_name (sym r.is);
        tasks = tasks_are p.flat p.dag cuts (rep_of p.dag x) r.node r.there ∙ ap (λ n. n.parallelism) h.is;
      }

  -- the blocks of a sink, put together, and their faults
  rows_alike : (x : ℕ) (y : FlatVertex) (name : List ℕ) → slice_get p.flat.vertices x ≡ Some y → sink_name (transform_of p.flat y) ≡ Some name → (s : IsStanding x y)
      → sorted record_cmp (row_list (rep_of p.dag x) s.vertex.parallelism) ≡ sorted record_cmp (value p.flat x).rows
  rows_alike x y name there named s =
      let v = rep_of p.dag x in
      ap (λ n. sorted record_cmp (row_list v n)) (sym s.tasks)
      ∙ ap (sorted record_cmp) (rows_joined (block_rows p k log v) (part p.flat p.dag cuts v) (below (parts_at p.flat p.dag cuts v).parallelism)
      (λ n m. (block_is v s.vertex name n s.there (s.name ∙ named) (let less = in_below (parts_at p.flat p.dag cuts v).parallelism n m in let same = s.tasks in omega (arith, less, same))).rows))
      ∙ sorted_alike record_cmp record_strict (from_std _ _ (computed p.flat p.dag fine valid cuts right.assignment x (slice_get_within p.flat.vertices x y there)).rows)

  clean : (x : ℕ) (y : FlatVertex) (name : List ℕ) → slice_get p.flat.vertices x ≡ Some y → sink_name (transform_of p.flat y) ≡ Some name → (value p.flat x).faults ≡ []
  clean x y name there named = none_in (value p.flat x).faults (λ a m.
      let is = ((computed p.flat p.dag fine valid cuts right.assignment x (slice_get_within p.flat.vertices x y there)).faults.members (renamed (called p.dag) a)).1 (in_map (renamed (called p.dag)) a (value p.flat x).faults m) in
      absurd (subst (In (renamed (called p.dag) a)) none is))
    where
      v : ℕ
      v = rep_of p.dag x

      s : IsStanding x y
      s = standing x y there

      none : all_faults (tasks_at p.flat p.dag cuts (rep_of p.dag x)) ≡ []
      none = faults_joined (part p.flat p.dag cuts (rep_of p.dag x)) (below (parts_at p.flat p.dag cuts (rep_of p.dag x)).parallelism)
          (λ n m. (block_is (rep_of p.dag x) s.vertex name n s.there (s.name ∙ named) (let less = in_below (parts_at p.flat p.dag cuts (rep_of p.dag x)).parallelism n m in let same = s.tasks in omega (arith, less, same))).faultless)

  ---- no fault reaches a sink

  abbrev reaching : ℕ → FlatVertex → Option Reached
  reaching i x = under (value p.flat i) (sink_name (transform_of p.flat x))

  none_reaches : flat_map (λ r. r.brought.faults) (reached p.flat) ≡ []
  none_reaches = none_in (flat_map (λ r. r.brought.faults) (reached p.flat)) (λ a m.
      let f = in_flat (λ (r : Reached). r.brought.faults) a (reached p.flat) m in
      let c = chosen_back reaching 0 p.flat.vertices f.0 f.1 in
      let n = under_back (value p.flat (0 + c.place)) (sink_name (transform_of p.flat c.item)) f.0 c.is in
      let none : f.0.brought.faults ≡ [] = ap (λ (r : Reached). r.brought.faults) n.2 ∙ ap (λ i. (value p.flat i).faults) (from_none c.place) ∙ clean c.place c.item n.0 c.there n.1 in
      absurd (subst (In a) none f.2))

  faultless : flat_faults p.flat ≡ []
  faultless = ap (λ fs. map (by_path p.flat) (ascending place_cmp fs)) none_reaches

  ---- what is written

  abbrev to_rows : Reached → SinkRows
  to_rows r = record { name = r.name; rows = r.brought.rows }

  abbrev flat_sink : ℕ → FlatVertex → Option SinkRows
  flat_sink i x = option_map to_rows (reaching i x)

  abbrev flat_sinks : List SinkRows
  flat_sinks = filter_map (λ o. o) (map_at flat_sink 0 p.flat.vertices)

  abbrev dag_sinks : List SinkRows
  dag_sinks = filter_map (λ o. o) (map_at (sink_written p k log) 0 p.dag.vertices)

  -- the flat sink of a sink of the DAG
  record IsSinkOf (v : ℕ) (name : List ℕ) : Type 0 where
    number : ℕ
    copy : FlatVertex
    there : slice_get p.flat.vertices number ≡ Some copy
    named : sink_name (transform_of p.flat copy) ≡ Some name
    is : rep_of p.dag number ≡ v

  no_utility : (kind : VertexKind) (name : List ℕ) → sink_name (transform_in (deed_of p.flat.transforms kind)) ≡ Some name → is_utility kind ≡ false
  no_utility (Op n) name e = refl
  no_utility Relay name e = cc
  no_utility Trigger name e = cc

  sink_of : (v : ℕ) (u : IrVertex) (name : List ℕ) → slice_get p.dag.vertices v ≡ Some u → sink_at p u ≡ Some name → IsSinkOf v name
  sink_of v u name there named =
      let r = rep_is p.flat p.dag fine valid v u there (no_utility u.kind name named) in
      let y = got p.flat.vertices r.number r.within in
      let s = standing r.number y.0 y.1 in
      record {
        number = r.number;
        copy = y.0;
        there = y.1;
        named = sym s.name ∙ ap (sink_at p) (same_item s.vertex u (sym s.there ∙ ap (slice_get p.dag.vertices) r.is ∙ there)) ∙ named;
        is = r.is;
      }

  names_one : (i j : ℕ) (x y : FlatVertex) (n : List ℕ) → slice_get p.flat.vertices i ≡ Some x → slice_get p.flat.vertices j ≡ Some y
      → sink_name (transform_of p.flat x) ≡ Some n → sink_name (transform_of p.flat y) ≡ Some n → i ≡ j
  names_one i j x y n gi gj fi fj = one_place (λ x. sink_name (transform_of p.flat x)) p.flat.vertices [] fine.names i j x y n gi gj fi fj

  -- what a sink of the flat job gets, by its name
  flat_back : (i : ℕ) (x : FlatVertex) (s : SinkRows) → flat_sink i x ≡ Some s → (name : List ℕ) × (sink_name (transform_of p.flat x) ≡ Some name) × (s ≡ record { name = name; rows = (value p.flat i).rows })
  flat_back i x s e =
      let m = mapped_back to_rows (reaching i x) s e in
      let n = under_back (value p.flat i) (sink_name (transform_of p.flat x)) m.0 m.1 in
      (n.0, n.1, m.2 ∙ ap to_rows n.2)

  dag_back : (v : ℕ) (u : IrVertex) (s : SinkRows) → sink_written p k log v u ≡ Some s → (name : List ℕ) × (sink_at p u ≡ Some name) × (s ≡ record { name = name; rows = row_list v u.parallelism })
  dag_back v u s e = mapped_back (λ name. record { name = name; rows = row_list v u.parallelism }) (sink_at p u) s e

  flat_apart : (i j : ℕ) (x y : FlatVertex) (s t : SinkRows) → slice_get p.flat.vertices i ≡ Some x → slice_get p.flat.vertices j ≡ Some y → flat_sink (0 + i) x ≡ Some s → flat_sink (0 + j) y ≡ Some t → s.name ≡ t.name → i ≡ j
  flat_apart i j x y s t gi gj fi fj same =
      let a = flat_back (0 + i) x s fi in
      let b = flat_back (0 + j) y t fj in
      let names : a.0 ≡ b.0 = sym (ap (λ z. z.name) a.2) ∙ same ∙ ap (λ z. z.name) b.2 in
      names_one i j x y b.0 gi gj (a.1 ∙ ap Some names) b.1

  dag_apart : (i j : ℕ) (x y : IrVertex) (s t : SinkRows) → slice_get p.dag.vertices i ≡ Some x → slice_get p.dag.vertices j ≡ Some y → sink_written p k log (0 + i) x ≡ Some s → sink_written p k log (0 + j) y ≡ Some t → s.name ≡ t.name → i ≡ j
  dag_apart i j x y s t gi gj fi fj same =
      let a = dag_back (0 + i) x s fi in
      let b = dag_back (0 + j) y t fj in
      let names : a.0 ≡ b.0 = sym (ap (λ z. z.name) a.2) ∙ same ∙ ap (λ z. z.name) b.2 in
      let c = sink_of i x b.0 gi (a.1 ∙ ap Some names) in
      let d = sink_of j y b.0 gj b.1 in
      sym c.is ∙ ap (rep_of p.dag) (names_one c.number d.number c.copy d.copy b.0 c.there d.there c.named d.named) ∙ d.is

  -- the sink that a sink of the DAG is, sorted
  alike : (x : ℕ) (y : FlatVertex) (name : List ℕ) → slice_get p.flat.vertices x ≡ Some y → sink_name (transform_of p.flat y) ≡ Some name → (s : IsStanding x y)
      → with_sorted (record { name = name; rows = row_list (rep_of p.dag x) s.vertex.parallelism }) ≡ with_sorted (record { name = name; rows = (value p.flat x).rows })
  alike x y name there named s = ap (λ rows. record { name = name; rows = rows }) (rows_alike x y name there named s)

  from_dag : (z : SinkRows) → In z (map with_sorted dag_sinks) → In z (map with_sorted flat_sinks)
  from_dag z m =
      let s = map_in with_sorted z dag_sinks m in
      let c = chosen_back (sink_written p k log) 0 p.dag.vertices s.0 s.1 in
      let b = dag_back (0 + c.place) c.item s.0 c.is in
      let f = sink_of c.place c.item b.0 c.there b.1 in
      let t = standing f.number f.copy f.there in
      let sink : SinkRows = record { name = b.0; rows = (value p.flat f.number).rows } in
      let there : In sink flat_sinks = chosen_there flat_sink p.flat.vertices f.number f.copy sink f.there (ap (λ o. option_map to_rows (under (value p.flat f.number) o)) f.named) in
      let same : t.vertex ≡ c.item = same_item t.vertex c.item (sym t.there ∙ ap (slice_get p.dag.vertices) f.is ∙ c.there) in
      let is : z ≡ with_sorted sink =
      s.2 ∙ ap with_sorted b.2
      ∙ ap (λ v. with_sorted (record { name = b.0; rows = row_list v c.item.parallelism })) (from_none c.place ∙ sym f.is)
      ∙ ap (λ u. with_sorted (record { name = b.0; rows = row_list (rep_of p.dag f.number) u.parallelism })) (sym same)
      ∙ alike f.number f.copy b.0 f.there f.named t in
      subst (λ y. In y (map with_sorted flat_sinks)) (sym is) (in_map with_sorted sink flat_sinks there)

  from_flat : (z : SinkRows) → In z (map with_sorted flat_sinks) → In z (map with_sorted dag_sinks)
  from_flat z m =
      let s = map_in with_sorted z flat_sinks m in
      let c = chosen_back flat_sink 0 p.flat.vertices s.0 s.1 in
      let b = flat_back (0 + c.place) c.item s.0 c.is in
      let t = standing c.place c.item c.there in
      let sink : SinkRows = record { name = b.0; rows = row_list (rep_of p.dag c.place) t.vertex.parallelism } in
      let there : In sink dag_sinks = chosen_there (sink_written p k log) p.dag.vertices (rep_of p.dag c.place) t.vertex sink t.there
      (ap (option_map (λ name. record { name = name; rows = row_list (rep_of p.dag c.place) t.vertex.parallelism })) (t.name ∙ b.1)) in
      let is : z ≡ with_sorted sink =
      s.2 ∙ ap with_sorted b.2
      ∙ ap (λ i. with_sorted (record { name = b.0; rows = (value p.flat i).rows })) (from_none c.place)
      ∙ sym (alike c.place c.item b.0 c.there b.1 t) in
      subst (λ y. In y (map with_sorted dag_sinks)) (sym is) (in_map with_sorted sink dag_sinks there)

  rows_are : written p k log ≡ flat_rows p.flat
  rows_are =
      same_in_order dag_sinks flat_sinks
      (apart_chosen (sink_written p k log) 0 p.dag.vertices dag_apart)
      (apart_chosen flat_sink 0 p.flat.vertices flat_apart)
      (record { members = λ z. (from_dag z, from_flat z) })
      ∙ ap in_order (sym (mapped_chosen to_rows reaching 0 p.flat.vertices))

  pub answer : IsAnswer p k log
  answer = record { commits = from_commits p k before (graph_wired p fine valid) legal; rows = rows_are; faultless = faultless }
