-- A fault of a task of a valid DAG is one of the flat job, and reaches a sink.
use Rattle.std.proofs.Common.{arith, ◌≡◌, ◌∙◌, ap, sym, subst, refl, ℕ, zero, suc, ◌<◌, ◌≤◌, ◌==◌, ◌||◌, List, [], ◌∷◌, length, map, slice_get, true, false, Some, None, inl, inr}
use Rattle.std.proofs.lemmas.Bool.{cases_lt, eqb-true}
use Rattle.std.proofs.lemmas.Option.{slice_get_within, unwrap_or-slice_get}
use Rattle.std.specs.List.{list_any}
use Rattle.std.specs.Prelude.{unwrap_or}
use Rattle.nemo_base.specs.declared.annotation.Pattern.{Pattern}
use Rattle.nemo_base.specs.declared.annotation.Pattern.TheVariants.{OneToOne, Broadcast, Hash, Spread}
use Rattle.nemo_value.proofs.MemberLists.{flat_in, in_flat, in_map, map_in}
use Rattle.nemo_value.specs.Members.{In}
use Rattle.nemo_transform.specs.Brought.{Arisen, all_faults}
use Rattle.nemo_transform.specs.declared.shape.PortKind.TheVariants.{Main}
use Rattle.nemo_transform.specs.Tasks.{at_task, renamed}
use Rattle.nemo_ir.specs.Along.{below}
use Rattle.nemo_ir.specs.Flat.{FlatForm, IsFlat}
use Rattle.nemo_ir.specs.Meaning.{flat_arisen}
use Rattle.nemo_ir.specs.Nodes.{Deed, Feed, Node, Passes, deed_of, edge_at, feed_of, feeds_from, is_utility, kinds_in, nodes, origin, rep_of}
use Rattle.nemo_ir.specs.Part.{Parts, all_tasks, brought, done_by}
use Rattle.nemo_ir.specs.Rewrites.{IsAssignment, IsComputed, called, tasks_at}
use Rattle.nemo_ir.specs.Valid.{HasRep, Valid, is_one_to_one, is_rep}
use Rattle.nemo_ir.specs.Value.{ByNumber, value}
use Rattle.nemo_ir.specs.declared.dag.IrDag.{IrDag}
use Rattle.nemo_ir.specs.declared.dag.IrVertex.{IrVertex}
use Rattle.nemo_ir.specs.declared.dag.VertexKind.{VertexKind}
use Rattle.nemo_ir.specs.declared.dag.VertexKind.TheVariants.{Op, Relay, Trigger}
use Rattle.nemo_ir.proofs.Computing.{computes}
use Rattle.nemo_ir.proofs.Origins.{least_of}
use Rattle.nemo_ir.proofs.Places.{got}
use Rattle.nemo_ir.proofs.PortEdges.{passed}
use Rattle.nemo_ir.proofs.Reps.{represented}
use Rattle.nemo_ir.proofs.Steps.{HasVertex, feed_brings, parts_at, parts_before, task_at, tasks_are, vertex_at}
use Rattle.nemo_ir.proofs.ValidNodes.{valid_wired}
use Rattle.nemo_ir.proofs.WiredNodes.{AllServe, Serves}
use Rattle.nemo_plan.proofs.Lists.{list_any-some}
use Rattle.nemo_plan.proofs.Memberships.{below_in, in_below}
use Rattle.nemo_laws.proofs.ReachedSinks.{arose, reaches_sink}

past_end : {X : Type 0} (xs : List X) → slice_get xs (length xs) ≡ None
past_end [] = refl
past_end (x ∷ xs) = past_end xs

-- what an in-edge brings has faults of the producer's tasks alone
brought_from : (cuts : List ℕ) (n : ℕ) (p : Parts) (pattern : Pattern) (i : ℕ) (a : Arisen ℕ) → (is_one_to_one pattern ≡ true → i < p.parallelism) → In a (brought cuts n p pattern i).faults → In a (all_faults (all_tasks p))
brought_from cuts n p OneToOne i a low m = flat_in (λ (b : ByNumber). b.faults) a (p.task i) (all_tasks p) (in_map p.task i (below p.parallelism) (below_in p.parallelism i (low refl))) m
brought_from cuts n p Broadcast i a low m = m
brought_from cuts n p Hash i a low m = m
brought_from cuts n p Spread i a low m = m

-- the flat vertex for which an Op stands
pub record IsRepOf (flat : FlatForm) (dag : IrDag) (v : ℕ) : Type 0 where
  pub number : ℕ
  pub within : number < length flat.vertices
  pub is : rep_of dag number ≡ v

module _ (flat : FlatForm) (dag : IrDag) (fine : IsFlat flat) (valid : Valid flat dag) where
  pub rep_within : (x : ℕ) → x < length flat.vertices → x < length dag.rep
  rep_within x l = let y = got flat.vertices x l in (represented flat fine dag valid x y.0 y.1).inside

  rep_count : length dag.rep ≤ length flat.vertices
  rep_count = elim (cases_lt (length flat.vertices) (length dag.rep)) [
    | inl less ↦ absurd (let r = got dag.rep (length flat.vertices) less in
        subst (HasRep flat dag None) r.1 (subst (λ o. HasRep flat dag o (slice_get dag.rep (length flat.vertices))) (past_end flat.vertices) (valid.v4 (length flat.vertices) (omega arith))))
    | inr more ↦ more
  ]

  -- each Op stands for one
  pub rep_is : (v : ℕ) (u : IrVertex) → slice_get dag.vertices v ≡ Some u → is_utility u.kind ≡ false → IsRepOf flat dag v
  rep_is v u g h =
      let rep : (is_utility u.kind || list_any (λ r. r == v) dag.rep) ≡ true = passed (is_rep dag v) (slice_get dag.vertices v) u g (valid.v5 v (slice_get_within dag.vertices v u g)) in
      let p = list_any-some (λ r. r == v) dag.rep (ap (λ b. b || list_any (λ r. r == v) dag.rep) (sym h) ∙ rep) in
      let low : p.place < length dag.rep = slice_get_within dag.rep p.place p.item p.is in
      let few : length dag.rep ≤ length flat.vertices = rep_count in
      record {
        number = p.place;
        within = omega (arith, low, few);
        is = sym (unwrap_or-slice_get dag.rep p.place 0) ∙ ap (λ o. unwrap_or o 0) p.is ∙ eqb-true p.item v p.passes;
      }

  module _ (cuts : ℕ → List ℕ) (fits : IsAssignment dag cuts) where
    pub computed : (x : ℕ) → x < length flat.vertices → IsComputed flat dag cuts x
    computed x l = computes flat dag fine valid (valid_wired flat dag valid) cuts fits x l

    abbrev all : List Node
    all = nodes flat.transforms dag

    -- it is a fault of a flat vertex, under the name by which the DAG calls that
    record IsFrom (a : Arisen ℕ) : Type 0 where
      number : ℕ
      within : number < length flat.vertices
      is : In a (map (renamed (called dag)) (value flat number).faults)

    -- which task has it
    record IsAt (v : ℕ) (a : Arisen ℕ) : Type 0 where
      task : ℕ
      within : task < (parts_at flat dag cuts v).parallelism
      is : In a ((parts_at flat dag cuts v).task task).faults

    at_one : (v : ℕ) (a : Arisen ℕ) → In a (all_faults (tasks_at flat dag cuts v)) → IsAt v a
    at_one v a m =
        let p = parts_at flat dag cuts v in
        let f = in_flat (λ (b : ByNumber). b.faults) a (all_tasks p) m in
        let t = map_in p.task f.0 (below p.parallelism) f.1 in
        record { task = t.0; within = in_below p.parallelism t.0 t.1; is = subst (λ (b : ByNumber). In a b.faults) t.2 f.2 }

    -- a utility vertex passes on what its producer gives
    through : (v : ℕ) (node : Node) (a : Arisen ℕ) → slice_get all v ≡ Some node → node.deed ≡ Passes → node.feeds ≡ feed_of (edge_at dag.edges v 0) ∷ []
        → ((w : ℕ) (before : Node) → w < v → slice_get all w ≡ Some before → (a : Arisen ℕ) → In a (all_faults (tasks_at flat dag cuts w)) → IsFrom a)
        → In a (all_faults (tasks_at flat dag cuts v)) → IsFrom a
    through v node a there deed feeds before m =
        let n = node.parallelism in
        let f = feed_of (edge_at dag.edges v 0) in
        let wires = valid_wired flat dag valid v node there in
        let serves : Serves all v node Main f = (subst (λ (s : Deed × List Feed). AllServe all v node (kinds_in s.0) s.1) (λ k. (deed k, feeds k)) wires.serves).0 in
        let one = at_one v a m in
        let gives : (parts_at flat dag cuts v).task one.task ≡ brought (cuts v) n (parts_at flat dag cuts f.from) f.pattern one.task =
        task_at flat dag cuts v node there one.task
        ∙ ap (λ (s : Deed × List Feed). done_by (origin dag v) n one.task s.0 (at_task (map (feed_brings flat dag cuts v n) s.1) one.task)) (λ k. (deed k, feeds k))
        ∙ ap (λ p. brought (cuts v) n p f.pattern one.task) (parts_before flat dag cuts v f.from serves.low) in
        let mine : (parts_at flat dag cuts v).parallelism ≡ n = tasks_are flat dag cuts v node there in
        let its : (parts_at flat dag cuts f.from).parallelism ≡ serves.from.parallelism = tasks_are flat dag cuts f.from serves.from serves.there in
        let low : one.task < (parts_at flat dag cuts v).parallelism = one.within in
        let inside : is_one_to_one f.pattern ≡ true → one.task < (parts_at flat dag cuts f.from).parallelism =
        λ o. let level : serves.from.parallelism ≡ n = serves.level o in omega (arith, low, mine, its, level) in
        before f.from serves.from serves.low serves.there a
        (brought_from (cuts v) n (parts_at flat dag cuts f.from) f.pattern one.task a inside (subst (λ (b : ByNumber). In a b.faults) gives one.is))

    from_flat : (k v : ℕ) (node : Node) → v < k → slice_get all v ≡ Some node → (a : Arisen ℕ) → In a (all_faults (tasks_at flat dag cuts v)) → IsFrom a
    from_flat zero v node l there a m = absurd (omega arith)
    from_flat (suc k) v node l there a m = go (vertex_at flat dag v node there).vertex.kind refl (λ w before less is. from_flat k w before (omega arith) is)
      where
        h : HasVertex flat.transforms dag.edges v dag.vertices v node
        h = vertex_at flat dag v node there

        utility : (kind : VertexKind) → h.vertex.kind ≡ kind → deed_of flat.transforms kind ≡ Passes
            → ((w : ℕ) (before : Node) → w < v → slice_get all w ≡ Some before → (a : Arisen ℕ) → In a (all_faults (tasks_at flat dag cuts w)) → IsFrom a) → IsFrom a
        utility kind e d before =
            through v node a there (ap (λ (m : Node). m.deed) h.is ∙ ap (deed_of flat.transforms) e ∙ d)
            (ap (λ (m : Node). m.feeds) h.is ∙ ap (λ k. feeds_from dag.edges v 0 (kinds_in k)) (ap (deed_of flat.transforms) e ∙ d)) before m

        go : (kind : VertexKind) → h.vertex.kind ≡ kind
            → ((w : ℕ) (before : Node) → w < v → slice_get all w ≡ Some before → (a : Arisen ℕ) → In a (all_faults (tasks_at flat dag cuts w)) → IsFrom a) → IsFrom a
        go (Op n) e before =
            let r = rep_is v h.vertex h.there (ap is_utility e) in
            record { number = r.number; within = r.within; is = ((computed r.number r.within).faults.members a).0 (subst (λ w. In a (all_faults (tasks_at flat dag cuts w))) (sym r.is) m) }
        go Relay e before = utility Relay e refl before
        go Trigger e before = utility Trigger e refl before

    -- a fault of a task is one that reaches a sink in the flat job
    pub fault_reaches : (v : ℕ) (node : Node) → slice_get all v ≡ Some node → (a : Arisen ℕ) → In a (all_faults (tasks_at flat dag cuts v)) → In a (flat_arisen flat)
    fault_reaches v node there a m =
        let f = from_flat (suc v) v node (omega arith) there a m in
        let g = map_in (renamed (called dag)) a (value flat f.number).faults f.is in
        let z : ℕ = g.0.vertex in
        let from = arose flat fine f.number f.within g.0 g.1 in
        let low : z ≤ f.number = from.0 in
        let within : f.number < length flat.vertices = f.within in
        let inside : z < length flat.vertices = omega (arith, low, within) in
        let there : In a (all_faults (tasks_at flat dag cuts (rep_of dag z))) =
        ((computed z inside).faults.members a).1 (subst (λ b. In b (map (renamed (called dag)) (value flat z).faults)) (sym g.2) (in_map (renamed (called dag)) g.0 (value flat z).faults from.1)) in
        let least : called dag z ≤ z = (least_of dag z (rep_within z inside)).least in
        reaches_sink flat fine (called dag z) (omega (arith, least, inside)) a ((computed z inside).own a there (ap (λ (b : Arisen ℕ). b.vertex) g.2))
