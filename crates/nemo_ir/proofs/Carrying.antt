-- The tasks of a vertex stand for the flat vertices whose Op it passes on, or is.
use Rattle.std.proofs.Common.{arith, ◌≡◌, ◌∙◌, ap, sym, subst, refl, ℕ, zero, suc, ◌<◌, List, [], ◌∷◌, map, length, slice_get, true, Some}
use Rattle.std.specs.List.{list_all}
use Rattle.std.specs.Cmp.{second_so}
use Rattle.std.proofs.lemmas.Option.{slice_get_within}
use Rattle.nemo_transform.specs.Brought.{at}
use Rattle.nemo_transform.specs.Ports.{kinds_of}
use Rattle.nemo_transform.specs.declared.shape.PortKind.{PortKind}
use Rattle.nemo_transform.specs.declared.shape.PortKind.TheVariants.{Main}
use Rattle.nemo_transform.specs.Tasks.{AllBrought, IsBrought, IsParted, at_task}
use Rattle.nemo_ir.specs.Flat.{FlatForm, IsFlat, is_input}
use Rattle.nemo_ir.specs.Nodes.{Deed, Feed, Node, Passes, deed_of, edge_at, feed_of, feeds_from, is_utility, kinds_in, nodes, origin, rep_of, resolve}
use Rattle.nemo_ir.specs.Part.{Parts, brought, dealt_to, done_by, task_of}
use Rattle.nemo_ir.specs.Rewrites.{IsAssignment, called}
use Rattle.nemo_ir.specs.Valid.{Valid, is_one_to_one}
use Rattle.nemo_ir.specs.Value.{ByNumber, at_or_nothing, value}
use Rattle.nemo_ir.specs.declared.dag.IrDag.{IrDag}
use Rattle.nemo_ir.specs.declared.dag.IrVertex.{IrVertex}
use Rattle.nemo_ir.specs.declared.dag.VertexKind.{VertexKind}
use Rattle.nemo_ir.specs.declared.dag.VertexKind.TheVariants.{Op, Relay, Trigger}
use Rattle.nemo_ir.specs.declared.flat.FlatVertex.{FlatVertex}
use Rattle.nemo_ir.proofs.Dealing.{keys_meet, row_within}
use Rattle.nemo_ir.proofs.EdgesBring.{edge_brings}
use Rattle.nemo_ir.proofs.Places.{got}
use Rattle.nemo_ir.proofs.Reps.{are_inputs, first_low, represented}
use Rattle.nemo_ir.proofs.Sources.{op_parted}
use Rattle.nemo_ir.proofs.Steps.{HasVertex, feed_brings, inputs_bring, parts_at, parts_before, resolve_op, resolve_utility, task_at, tasks_are, value_at, value_before, vertex_at}
use Rattle.nemo_ir.proofs.WiredNodes.{AllServe, IsWired, Serves}

parted_same : (name : ℕ → ℕ) (n m : ℕ) (one other : ℕ → ByNumber) (a b : ByNumber) → n ≡ m → ((i : ℕ) → one i ≡ other i) → a ≡ b → IsParted name m other b → IsParted name n one a
parted_same name n m one other a b e f g p =
    subst (λ (t : ℕ × (ℕ → ByNumber) × ByNumber). IsParted name t.0 t.1 t.2) (λ k. (sym e k, λ i. sym (f i) k, sym g k)) p

heads_same : (x y : ℕ) (xs ys : List ℕ) → x ∷ xs ≡ y ∷ ys → (x ≡ y) × (xs ≡ ys)
heads_same x y xs ys e = (cc, cc)

module _ (flat : FlatForm) (dag : IrDag) (fine : IsFlat flat) (valid : Valid flat dag)
    (wired : (v : ℕ) (node : Node) → slice_get (nodes flat.transforms dag) v ≡ Some node → IsWired (nodes flat.transforms dag) v node)
    (cuts : ℕ → List ℕ) (fits : IsAssignment dag cuts) where
  abbrev all : List Node
  all = nodes flat.transforms dag

  abbrev tasks : ℕ → Parts
  tasks v = parts_at flat dag cuts v

  abbrev Stands : ℕ → ℕ → Type 0
  Stands v x = IsParted (called dag) (tasks v).parallelism (tasks v).task (value flat x)

  -- the tasks of v stand for each flat vertex whose Op is found from v
  abbrev Carries : ℕ → Type 0
  Carries v = (node : Node) (x : ℕ) (y : FlatVertex) → slice_get all v ≡ Some node → slice_get flat.vertices x ≡ Some y → rep_of dag x ≡ resolve dag v → Stands v x

  few_cuts : (v : ℕ) (node : Node) → slice_get all v ≡ Some node → length (cuts v) < node.parallelism
  few_cuts v node g =
      let h = vertex_at flat dag v node g in
      let count : suc (length (cuts v)) ≡ h.vertex.parallelism = fits v h.vertex h.there in
      let same : node.parallelism ≡ h.vertex.parallelism = ap (λ (m : Node). m.parallelism) h.is in
      omega arith

  -- an in-edge of vertex v
  edge : (v : ℕ) (node : Node) (k : PortKind) (f : Feed) (x : ℕ) → ((w : ℕ) → w < v → Carries w) → slice_get all v ≡ Some node → Serves all v node k f
      → x < length flat.vertices → rep_of dag x ≡ resolve dag f.from → IsBrought (called dag) (task_of (cuts v)) node.parallelism k (feed_brings flat dag cuts v node.parallelism f) (value flat x)
  edge v node k f x before g serves inside r =
      let y = got flat.vertices x inside in
      let stands : Stands f.from x = before f.from serves.low serves.from x y.0 serves.there y.1 r in
      let level : is_one_to_one f.pattern ≡ true → (tasks f.from).parallelism ≡ node.parallelism =
      λ o. tasks_are flat dag cuts f.from serves.from serves.there ∙ serves.level o in
      subst (λ p. IsBrought (called dag) (task_of (cuts v)) node.parallelism k (brought (cuts v) node.parallelism p f.pattern) (value flat x)) (sym (parts_before flat dag cuts v f.from serves.low))
      (edge_brings (called dag) (cuts v) node.parallelism (few_cuts v node g) (tasks f.from) (value flat x) stands k f.pattern serves.taken level)

  -- all in-edges, where the Ops that are found along them stand for the inputs of x
  edges : (v : ℕ) (node : Node) (x : ℕ) → ((w : ℕ) → w < v → Carries w) → slice_get all v ≡ Some node → x < length flat.vertices
      → (ks : List PortKind) (fs : List Feed) (zs : List ℕ) → AllServe all v node ks fs → list_all (is_input flat x) zs ≡ true → map (λ f. resolve dag f.from) fs ≡ map (rep_of dag) zs
      → AllBrought (called dag) (λ p. task_of (cuts v)) node.parallelism ks (map (feed_brings flat dag cuts v node.parallelism) fs) (inputs_bring flat x zs)
  edges v node x before g inside [] [] [] s l e = tt
  edges v node x before g inside [] [] (z ∷ zs) s l e = cc
  edges v node x before g inside [] (f ∷ fs) zs s l e = absurd s
  edges v node x before g inside (k ∷ ks) [] zs s l e = absurd s
  edges v node x before g inside (k ∷ ks) (f ∷ fs) [] s l e = cc
  edges v node x before g inside (k ∷ ks) (f ∷ fs) (z ∷ zs) s l e =
      let same = heads_same (resolve dag f.from) (rep_of dag z) (map (λ (f : Feed). resolve dag f.from) fs) (map (rep_of dag) zs) e in
      let low : z < x = first_low flat x z zs l in (
        subst (IsBrought (called dag) (task_of (cuts v)) node.parallelism k (feed_brings flat dag cuts v node.parallelism f)) (sym (value_before flat x z low))
            (edge v node k f z before g s.0 (omega arith) (sym same.0)),
        edges v node x before g inside ks fs zs s.1 (second_so (is_input flat x z) (list_all (is_input flat x) zs) l) same.1,
      )

  -- an Op stands for its flat vertices
  op_carries : (v x : ℕ) (y : FlatVertex) → ((w : ℕ) → w < v → Carries w) → slice_get flat.vertices x ≡ Some y → rep_of dag x ≡ v → Stands v x
  op_carries v x y before g r =
      let rep = represented flat fine dag valid x y g in
      let node = rep.node in
      let t = rep.transform in
      let n = node.parallelism in
      let there : slice_get all v ≡ Some node = ap (slice_get all) (sym r) ∙ rep.there in
      let wires = wired v node there in
      let serves : AllServe all v node (kinds_of t) node.feeds = subst (λ d. AllServe all v node (kinds_in d) node.feeds) rep.deed wires.serves in
      let gots : List (ℕ → ByNumber) = map (feed_brings flat dag cuts v n) node.feeds in
      let wholes : List ByNumber = inputs_bring flat x y.inputs in
      let bring = edges v node x before there (slice_get_within flat.vertices x y g) (kinds_of t) node.feeds y.inputs serves (are_inputs flat fine x y g) rep.inputs in
      parted_same (called dag) (tasks v).parallelism n (tasks v).task (λ i. at (called dag x) (dealt_to n i t) (at_task gots i)) (value flat x) (at x t wholes)
      (tasks_are flat dag cuts v node there)
      (λ i. task_at flat dag cuts v node there i
      ∙ ap (λ d. done_by (origin dag v) n i d (at_task gots i)) rep.deed
      ∙ ap (λ w. at (origin dag w) (dealt_to n i t) (at_task gots i)) (sym r))
      (value_at flat x y g ∙ ap (λ o. at_or_nothing x o wholes) rep.is)
      (op_parted (called dag) (λ p. task_of (cuts v)) n wires.some (λ p. row_within (cuts v) n (few_cuts v node there)) x t (keys_meet (cuts v) t) gots wholes bring)

  -- a utility vertex passes on what its producer stands for
  passed_on : (v : ℕ) (u : IrVertex) (node : Node) (x : ℕ) (y : FlatVertex) → ((w : ℕ) → w < v → Carries w) → slice_get all v ≡ Some node → slice_get dag.vertices v ≡ Some u
      → is_utility u.kind ≡ true → node.deed ≡ Passes → node.feeds ≡ feed_of (edge_at dag.edges v 0) ∷ [] → slice_get flat.vertices x ≡ Some y → rep_of dag x ≡ resolve dag v → Stands v x
  passed_on v u node x y before there at utility deed feeds g r =
      let n = node.parallelism in
      let f = feed_of (edge_at dag.edges v 0) in
      let wires = wired v node there in
      let serves : Serves all v node Main f =
      (subst (λ (s : Deed × List Feed). AllServe all v node (kinds_in s.0) s.1) (λ k. (deed k, feeds k)) wires.serves).0 in
      let brings = edge v node Main f x before there serves (slice_get_within flat.vertices x y g) (r ∙ resolve_utility dag v u at utility serves.low) in
      parted_same (called dag) (tasks v).parallelism n (tasks v).task (feed_brings flat dag cuts v n f) (value flat x) (value flat x)
      (tasks_are flat dag cuts v node there)
      (λ i. task_at flat dag cuts v node there i
      ∙ ap (λ (s : Deed × List Feed). done_by (origin dag v) n i s.0 (at_task (map (feed_brings flat dag cuts v n) s.1) i)) (λ k. (deed k, feeds k)))
      refl brings

  carries : (v : ℕ) → ((w : ℕ) → w < v → Carries w) → Carries v
  carries v before node x y there g r = go (vertex_at flat dag v node there).vertex.kind refl
    where
      h : HasVertex flat.transforms dag.edges v dag.vertices v node
      h = vertex_at flat dag v node there

      utility : (kind : VertexKind) → h.vertex.kind ≡ kind → is_utility kind ≡ true → deed_of flat.transforms kind ≡ Passes → Stands v x
      utility kind e c d =
          let deed : node.deed ≡ Passes = ap (λ (m : Node). m.deed) h.is ∙ ap (deed_of flat.transforms) e ∙ d in
          let feeds : node.feeds ≡ feed_of (edge_at dag.edges v 0) ∷ [] =
          ap (λ (m : Node). m.feeds) h.is ∙ ap (λ k. feeds_from dag.edges v 0 (kinds_in k)) (ap (deed_of flat.transforms) e ∙ d) in
          passed_on v h.vertex node x y before there h.there (ap is_utility e ∙ c) deed feeds g r

      go : (kind : VertexKind) → h.vertex.kind ≡ kind → Stands v x
      go (Op k) e = op_carries v x y before g (r ∙ resolve_op dag v h.vertex h.there (ap is_utility e))
      go Relay e = utility Relay e refl refl
      go Trigger e = utility Trigger e refl refl

  all_carry : (k v : ℕ) → v < k → Carries v
  all_carry zero v l = absurd (omega arith)
  all_carry (suc k) v l = carries v (λ w m. all_carry k w (omega arith))

  -- the tasks of what stands for a flat vertex stand for what it gives
  pub stands_for : (x : ℕ) → x < length flat.vertices → Stands (rep_of dag x) x
  stands_for x l =
      let y = got flat.vertices x l in
      op_carries (rep_of dag x) x y.0 (λ w m. all_carry (rep_of dag x) w m) y.1 refl
