-- The graph of the stages of a valid DAG is sound.
use Rattle.std.proofs.Common.{◌≡◌, ◌∙◌, ap, sym, refl, ℕ, ◌<◌, ◌==◌, ◌||◌, ◌&&◌, Bool, true, false, not, cond, List, length, slice_get, Option, Some, None, nat_le, nat_lt, inl, inr, eq-eqb}
use Rattle.std.proofs.lemmas.Bool.{and_from, cases_Bool, le-leb, lt-ltb, not_from_false, or_left, or_right}
use Rattle.std.proofs.lemmas.Option.{slice_get_within}
use Rattle.std.specs.Cmp.{first_so, second_so}
use Rattle.std.specs.List.{list_all}
use Rattle.nemo_base.specs.Sound.{all_at, differ, is_in, is_parallelism, is_read, is_sound, is_stage, is_vertex, lies_in, reads_all, stands_below}
use Rattle.nemo_base.specs.declared.annotation.Pattern.{Pattern}
use Rattle.nemo_base.specs.declared.annotation.Pattern.TheVariants.{OneToOne, Broadcast, Hash, Spread}
use Rattle.nemo_base.specs.declared.graph.Read.{Read}
use Rattle.nemo_base.specs.declared.graph.StageRow.{StageRow}
use Rattle.nemo_base.specs.declared.graph.VertexRow.{VertexRow}
use Rattle.nemo_value.specs.Members.{In}
use Rattle.nemo_value.proofs.MemberLists.{in_chosen}
use Rattle.nemo_ir.specs.Along.{below, passes}
use Rattle.nemo_ir.specs.Flat.{FlatForm, IsFlat}
use Rattle.nemo_ir.specs.Nodes.{edge_at}
use Rattle.nemo_ir.specs.Valid.{Valid, is_counted, is_hash, is_one_to_one, is_trigger, is_within, kinds_at}
use Rattle.nemo_ir.specs.declared.dag.IrDag.{IrDag}
use Rattle.nemo_ir.specs.declared.dag.IrEdge.{IrEdge}
use Rattle.nemo_ir.specs.declared.dag.IrVertex.{IrVertex}
use Rattle.nemo_ir.specs.declared.dag.VertexKind.{VertexKind}
use Rattle.nemo_ir.specs.declared.dag.VertexKind.TheVariants.{Op, Relay, Trigger}
use Rattle.nemo_plan.specs.Graph.{has_blocks, of_stage, rank_of, reads_of, stage_row, tasks_of, trigger_along, vertex_row, vertices_of}
use Rattle.nemo_plan.specs.Stages.{count_stages, stage_at}
use Rattle.nemo_plan.specs.Wiring.{IsReadFrom, IsTriggeredBy, read_by}
use Rattle.nemo_ir.proofs.Places.{from_none, list_all-each, same_item}
use Rattle.nemo_ir.proofs.PortEdges.{edge_rises, passed}
use Rattle.nemo_plan.proofs.CutLaws.{level_dag}
use Rattle.nemo_plan.proofs.CutSteps.{IsCutSoFar}
use Rattle.nemo_plan.proofs.Ends.{or_other}
use Rattle.nemo_plan.proofs.GraphRows.{block_in, first_of, in_block, leaving_blocks, made, some_block, stage_of, stage_of_row, stage_there, vertex_at, vertex_of_row, vertex_there}
use Rattle.nemo_plan.proofs.Joining.{edge_found, one_to_one}
use Rattle.nemo_plan.proofs.Memberships.{all_at-each, all_from, any_in, below_differ, filter_differ, in_is_in, some_member}
use Rattle.nemo_plan.proofs.OnePort.{is_port_edge}
use Rattle.nemo_plan.proofs.Prefixes.{count_above}
use Rattle.nemo_plan.proofs.Ranks.{rank_falls}
use Rattle.nemo_plan.proofs.StageReads.{edge_read, read_of}

hash : (p : Pattern) → is_hash p ≡ true → p ≡ Hash
hash Hash h = refl
hash OneToOne h = cc
hash Broadcast h = cc
hash Spread h = cc

trigger : (k : VertexKind) → is_trigger k ≡ true → k ≡ Trigger
trigger Trigger h = refl
trigger (Op n) h = cc
trigger Relay h = cc

module _ (flat : FlatForm) (dag : IrDag) (stages : List ℕ) (fine : IsFlat flat) (valid : Valid flat dag) (size : length stages ≡ length dag.vertices) (so : IsCutSoFar dag stages) where
  ---- reads and triggers

  -- an edge from another stage is read
  pub edge_in_reads : (i a b : ℕ) (e : IrEdge) → slice_get dag.edges i ≡ Some e → stage_at stages e.from ≡ Some a → stage_at stages e.to ≡ Some b → (a ≡ b → ⊥) → In (read_by e.from e.pattern) (reads_of flat dag stages b)
  edge_in_reads i a b e there from to d =
      let p = is_port_edge flat dag valid i e there in
      edge_read flat dag stages a b e.to e.port p.vertex e p.vertex_at p.within p.first refl from to d

  trigger_edge : (v port t : ℕ) (o : Option IrEdge) → edge_at dag.edges v port ≡ o → trigger_along dag o ≡ Some t → IsTriggeredBy dag v t
  trigger_edge v port t None at h = cc
  trigger_edge v port t (Some e) at h = go (slice_get dag.vertices e.from) refl h
    where
      counted : (u : IrVertex) → slice_get dag.vertices e.from ≡ Some u → is_trigger u.kind ≡ true → e.pattern ≡ Hash
      counted u source h =
          let found = edge_found dag.edges v port e at in
          let is = passed (is_counted dag) (slice_get dag.edges found.place) e found.there (valid.v8 found.place (slice_get_within dag.edges found.place e found.there)) in
          hash e.pattern (or_other (is_hash e.pattern) (passes (λ x. not (is_trigger x.kind)) (slice_get dag.vertices e.from)) (ap (passes (λ x. not (is_trigger x.kind))) source ∙ ap not h) is)

      turn : (u : IrVertex) (b : Bool) → slice_get dag.vertices e.from ≡ Some u → is_trigger u.kind ≡ b → cond b (Some e.from) None ≡ Some t → IsTriggeredBy dag v t
      turn u false source is g = cc
      turn u true source is g =
          let found = edge_found dag.edges v port e at in
          let from = same_item e.from t g in
          record {
            edge = e;
            place = found.place;
            there = found.there;
            from = from;
            to = found.to;
            pattern = counted u source is;
            source = u;
            source_at = ap (slice_get dag.vertices) (sym from) ∙ source;
            kind = trigger u.kind is;
          }

      go : (o : Option IrVertex) → slice_get dag.vertices e.from ≡ o → cond (passes (λ u. is_trigger u.kind) o) (Some e.from) None ≡ Some t → IsTriggeredBy dag v t
      go None source g = cc
      go (Some u) source g = turn u (is_trigger u.kind) source refl g

  pub triggered : (v t : ℕ) (u : IrVertex) → In t (vertex_row flat dag stages v u).triggers → IsTriggeredBy dag v t
  triggered v t u m =
      let port = in_chosen (λ p. trigger_along dag (edge_at dag.edges v p)) t (below (length (kinds_at flat u))) m in
      trigger_edge v port.0 t (edge_at dag.edges v port.0) refl port.2

  ---- stages

  row_stage : (v s : ℕ) → stage_at stages v ≡ Some s → of_stage (λ t. t) (stage_at stages v) ≡ s
  row_stage v s e = ap (of_stage (λ t. t)) e

  -- each vertex of a stage has its parallelism
  pub same_tasks : (v s : ℕ) (u : IrVertex) → slice_get dag.vertices v ≡ Some u → stage_at stages v ≡ Some s → u.parallelism ≡ (stage_row flat dag stages s).parallelism
  same_tasks v s u at_v in_v =
      let f = first_of flat dag stages fine valid size so s (count_above stages v s in_v) in
      (so.alike v f.number s u f.vertex at_v f.there in_v f.staged).parallelism ∙ sym (ap tasks_of f.is)

  few_tasks : (s : ℕ) → s < count_stages stages → is_parallelism (stage_row flat dag stages s).parallelism ≡ true
  few_tasks s l =
      let f = first_of flat dag stages fine valid size so s l in
      let within = passed (is_within f.number) (slice_get dag.vertices f.number) f.vertex f.there (valid.v9 f.number (slice_get_within dag.vertices f.number f.vertex f.there)) in
      ap (λ o. is_parallelism (tasks_of o)) f.is
      ∙ and_from (nat_le 1 f.vertex.parallelism) (nat_le f.vertex.parallelism 64) (second_so _ _ (first_so _ _ within)) (second_so _ _ within)

  some_blocks : (s : ℕ) → s < count_stages stages → nat_le 1 (length (stage_row flat dag stages s).blocks) ≡ true
  some_blocks s l =
      let b = some_block flat dag stages fine valid size so s l in
      le-leb 1 (length (stage_row flat dag stages s).blocks) (some_member (stage_row flat dag stages s).blocks b.number b.has)

  blocks_differ : (s : ℕ) → differ (stage_row flat dag stages s).blocks ≡ true
  blocks_differ s =
      filter_differ (λ v. passes (has_blocks flat dag stages v) (slice_get dag.vertices v)) (vertices_of stages s)
      (filter_differ (λ v. passes (λ a. a == s) (stage_at stages v)) (below (length stages)) (below_differ (length stages)))

  blocks_lie : (s : ℕ) → list_all (lies_in (made flat dag stages) s) (stage_row flat dag stages s).blocks ≡ true
  blocks_lie s = all_from (lies_in (made flat dag stages) s) (stage_row flat dag stages s).blocks
      (λ v m.
      let in_v = in_block flat dag stages v s m in
      let u = vertex_at flat dag stages fine valid size so v s in_v in
      ap (passes (λ (row : VertexRow). row.stage == s)) (vertex_there flat dag stages v u.0 u.1) ∙ eq-eqb (of_stage (λ t. t) (stage_at stages v)) s (row_stage v s in_v))

  -- the producer has blocks in a stage of lower rank
  read_below : (s : ℕ) (r : Read) (u : IrVertex) (is : IsReadFrom dag stages s r) → In r (reads_of flat dag stages s) → slice_get dag.vertices is.edge.from ≡ Some u
      → stands_below (made flat dag stages) (rank_of flat dag stages s) is.edge.from (vertex_row flat dag stages is.edge.from u) ≡ true
  read_below s r u is m at =
      let e = is.edge in
      let a = is.before in
      let known = count_above stages e.from a is.from in
      let falls = rank_falls flat dag stages so.order so.forward s a r (count_above stages e.to s is.to) m (ap (λ (q : Read). stage_at stages q.vertex) is.is ∙ is.from) in
      let test : StageRow → Bool = λ row. is_in e.from row.blocks && nat_lt row.rank (rank_of flat dag stages s) in
      ap (λ n. passes test (slice_get (made flat dag stages).stages n)) (row_stage e.from a is.from)
      ∙ ap (passes test) (stage_there flat dag stages a known)
      ∙ and_from (is_in e.from (stage_row flat dag stages a).blocks) (nat_lt (rank_of flat dag stages a) (rank_of flat dag stages s))
      (in_is_in e.from (stage_row flat dag stages a).blocks (block_in flat dag stages e.from a u at is.from (leaving_blocks flat dag stages is.place e.from a s e u is.there refl is.from is.to is.differs)))
      (lt-ltb (rank_of flat dag stages a) (rank_of flat dag stages s) falls)

  -- a narrow read joins equal parallelism
  wide_or_level : (i s : ℕ) (e : IrEdge) (u : IrVertex) → slice_get dag.edges i ≡ Some e → slice_get dag.vertices e.from ≡ Some u → stage_at stages e.to ≡ Some s
      → (not (is_one_to_one e.pattern) || (u.parallelism == (stage_row flat dag stages s).parallelism)) ≡ true
  wide_or_level i s e u there from to = elim (cases_Bool (is_one_to_one e.pattern)) [
    | inl one ↦
        let w = vertex_at flat dag stages fine valid size so e.to s to in
        or_right (not (is_one_to_one e.pattern)) (u.parallelism == (stage_row flat dag stages s).parallelism)
        (eq-eqb u.parallelism (stage_row flat dag stages s).parallelism ((level_dag flat dag valid).level i e w.0 u there w.1 from (one_to_one e.pattern one) ∙ same_tasks e.to s w.0 w.1 to))
    | inr other ↦ or_left (not (is_one_to_one e.pattern)) (u.parallelism == (stage_row flat dag stages s).parallelism) (not_from_false (is_one_to_one e.pattern) other)
  ]

  read_sound : (s : ℕ) (r : Read) → In r (reads_of flat dag stages s) → is_read (made flat dag stages) (stage_row flat dag stages s) r ≡ true
  read_sound s r m =
      let is = read_of flat dag stages s r m in
      let e = is.edge in
      let u = vertex_at flat dag stages fine valid size so e.from is.before is.from in
      let row = vertex_row flat dag stages e.from u.0 in
      let n = (stage_row flat dag stages s).parallelism in
      let test : Read → VertexRow → Bool = λ q v. stands_below (made flat dag stages) (rank_of flat dag stages s) q.vertex v && (q.wide || (v.parallelism == n)) in
      ap (λ (q : Read). passes (test q) (slice_get (made flat dag stages).vertices q.vertex)) is.is
      ∙ ap (passes (test (read_by e.from e.pattern))) (vertex_there flat dag stages e.from u.0 u.1)
      ∙ and_from (stands_below (made flat dag stages) (rank_of flat dag stages s) e.from row) (not (is_one_to_one e.pattern) || (u.0.parallelism == n))
      (read_below s r u.0 is m u.1) (wide_or_level is.place s e u.0 is.there u.1 is.to)

  stage_sound : (s : ℕ) → s < count_stages stages → is_stage (made flat dag stages) s (stage_row flat dag stages s) ≡ true
  stage_sound s l =
      let g = made flat dag stages in
      let row = stage_row flat dag stages s in
      let a = is_parallelism row.parallelism in
      let b = nat_le 1 (length row.blocks) in
      let c = differ row.blocks in
      let d = list_all (lies_in g s) row.blocks in
      let f = list_all (is_read g row) row.reads in
      and_from (a && b && c && d) f
      (and_from (a && b && c) d (and_from (a && b) c (and_from a b (few_tasks s l) (some_blocks s l)) (blocks_differ s)) (blocks_lie s))
      (all_from (is_read g row) row.reads (λ r m. read_sound s r m))

  ---- vertices

  trigger_read : (v s t : ℕ) (u : IrVertex) → stage_at stages v ≡ Some s → In t (vertex_row flat dag stages v u).triggers → reads_all (stage_row flat dag stages s) t ≡ true
  trigger_read v s t u in_v m =
      let is = triggered v t u m in
      let e = is.edge in
      let rise = edge_rises flat dag valid is.place e is.there in
      let low : e.from < e.to = rise.low in
      let inside : e.to < length dag.vertices = rise.inside in
      let a = stage_of flat dag stages fine valid size so t is.source is.source_at in
      let from = ap (stage_at stages) is.from ∙ a.1 in
      let to = ap (stage_at stages) is.to ∙ in_v in
      let apart : a.0 ≡ s → ⊥ = λ same. absurd (let n = (so.narrow is.place s e is.there (from ∙ ap Some same) to).pattern in let h = sym is.pattern ∙ n in let x = ap is_hash h in cc) in
      let r = read_by e.from e.pattern in
      any_in (λ (q : Read). q.wide && (q.vertex == t)) (reads_of flat dag stages s) r (edge_in_reads is.place a.0 s e is.there from to apart)
      (and_from (not (is_one_to_one e.pattern)) (e.from == t) (ap (λ p. not (is_one_to_one p)) is.pattern) (eq-eqb e.from t is.from))

  vertex_sound : (v : ℕ) (u : IrVertex) → slice_get dag.vertices v ≡ Some u → is_vertex (made flat dag stages) (vertex_row flat dag stages v u) ≡ true
  vertex_sound v u at_v =
      let s = stage_of flat dag stages fine valid size so v u at_v in
      let g = made flat dag stages in
      let row = vertex_row flat dag stages v u in
      let test : StageRow → Bool = λ x. (u.parallelism == x.parallelism) && list_all (reads_all x) row.triggers in
      let is = stage_row flat dag stages s.0 in
      ap (λ n. passes test (slice_get g.stages n)) (row_stage v s.0 s.1)
      ∙ ap (passes test) (stage_there flat dag stages s.0 (count_above stages v s.0 s.1))
      ∙ and_from (u.parallelism == is.parallelism) (list_all (reads_all is) row.triggers) (eq-eqb u.parallelism is.parallelism (same_tasks v s.0 u at_v s.1))
      (all_from (reads_all is) row.triggers (λ t m. trigger_read v s.0 t u s.1 m))

  pub graph_sound : is_sound (made flat dag stages) ≡ true
  graph_sound =
      let g = made flat dag stages in
      and_from (all_at (is_stage g) 0 g.stages) (list_all (is_vertex g) g.vertices)
      (all_at-each (is_stage g) 0 g.stages
      (λ s row e.
      let r = stage_of_row flat dag stages s row e in
      ap (λ n. is_stage g n row) (from_none s) ∙ ap (is_stage g s) r.is ∙ stage_sound s r.below))
      (list_all-each (is_vertex g) g.vertices
      (λ v row e.
      let r = vertex_of_row flat dag stages v row e in
      ap (is_vertex g) r.is ∙ vertex_sound v r.vertex r.there))
