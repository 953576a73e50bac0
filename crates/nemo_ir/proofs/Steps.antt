-- What the tasks of a vertex and a flat vertex give, and the Op behind a vertex, each from the vertices before it.
use Rattle.std.proofs.Common.{◌≡◌, ◌∙◌, ap, sym, ℕ, zero, suc, ◌+◌, ◌<◌, List, [], ◌∷◌, map, take, slice_get, slice_index_or, true, false, Option, Some, None, refl, if◌then◌else◌}
use Rattle.std.proofs.lemmas.List.{get_or-take}
use Rattle.nemo_value.proofs.JoinedLists.{map_map}
use Rattle.nemo_transform.specs.Brought.{nothing, port}
use Rattle.nemo_transform.specs.Tasks.{at_task}
use Rattle.nemo_transform.specs.declared.transform.Transform.{Transform}
use Rattle.nemo_ir.specs.Flat.{FlatForm, transform_of}
use Rattle.nemo_ir.specs.Nodes.{Feed, Node, edge_at, feed_of, is_utility, node_of, nodes, nodes_from, origin, producer, resolve, resolve_step, resolved}
use Rattle.nemo_ir.specs.Part.{Parts, all_parts, brought, done_by, no_parts, part_step}
use Rattle.nemo_ir.specs.Value.{ByNumber, at_or_nothing, value, value_step, values}
use Rattle.nemo_ir.specs.declared.dag.IrDag.{IrDag}
use Rattle.nemo_ir.specs.declared.dag.IrEdge.{IrEdge}
use Rattle.nemo_ir.specs.declared.dag.IrVertex.{IrVertex}
use Rattle.nemo_ir.specs.declared.flat.FlatVertex.{FlatVertex}
use Rattle.nemo_ir.proofs.Entries.{along_at, along_before}
use Rattle.nemo_ir.proofs.Places.{from_none, next, none, same_item}

---- nodes

-- the vertex of a node
pub record HasVertex (ts : List Transform) (es : List IrEdge) (v : ℕ) (us : List IrVertex) (i : ℕ) (node : Node) : Type 0 where
  pub vertex : IrVertex
  pub there : slice_get us i ≡ Some vertex
  pub is : node ≡ node_of ts es v vertex

vertex_from : (ts : List Transform) (es : List IrEdge) (k : ℕ) (us : List IrVertex) (i : ℕ) (node : Node) → slice_get (nodes_from ts es k us) i ≡ Some node → HasVertex ts es (k + i) us i node
vertex_from ts es k [] i node g = cc
vertex_from ts es k (u ∷ us) zero node g =
    record { vertex = u; there = refl; is = same_item node (node_of ts es k u) (sym g) ∙ ap (λ v. node_of ts es v u) (none k) }
vertex_from ts es k (u ∷ us) (suc i) node g =
    let h = vertex_from ts es (k + 1) us i node g in
    record { vertex = h.vertex; there = h.there; is = h.is ∙ ap (λ v. node_of ts es v h.vertex) (next k i) }

module _ (flat : FlatForm) (dag : IrDag) where
  pub vertex_at : (v : ℕ) (node : Node) → slice_get (nodes flat.transforms dag) v ≡ Some node → HasVertex flat.transforms dag.edges v dag.vertices v node
  vertex_at v node g =
      let h = vertex_from flat.transforms dag.edges 0 dag.vertices v node g in
      record { vertex = h.vertex; there = h.there; is = h.is ∙ ap (λ w. node_of flat.transforms dag.edges w h.vertex) (from_none v) }

---- flat vertices

module _ (flat : FlatForm) where
  -- what its inputs bring
  abbrev pub inputs_bring : ℕ → List ℕ → List ByNumber
  inputs_bring x inputs = map (port (take x (values flat))) inputs

  pub value_at : (x : ℕ) (y : FlatVertex) → slice_get flat.vertices x ≡ Some y → value flat x ≡ at_or_nothing x (transform_of flat y) (inputs_bring x y.inputs)
  value_at x y g =
      along_at (value_step flat) flat.vertices x y nothing g
      ∙ ap (λ n. at_or_nothing n (transform_of flat y) (inputs_bring x y.inputs)) (along_before (value_step flat) flat.vertices x y g)

  pub value_before : (x y : ℕ) → y < x → port (take x (values flat)) y ≡ value flat y
  value_before x y h = get_or-take x (values flat) y nothing h

---- the Op behind a vertex

module _ (dag : IrDag) where
  from_producer : (v : ℕ) (u : IrVertex) → slice_get dag.vertices v ≡ Some u
      → resolve dag v ≡ (if is_utility u.kind then slice_index_or (take v (resolved dag)) (producer (edge_at dag.edges v 0)) 0 else v)
  from_producer v u g =
      along_at (resolve_step dag.edges) dag.vertices v u 0 g
      ∙ ap (λ n. if is_utility u.kind then slice_index_or (take v (resolved dag)) (producer (edge_at dag.edges n 0)) 0 else n) (along_before (resolve_step dag.edges) dag.vertices v u g)

  same_producer : (e : Option IrEdge) → producer e ≡ (feed_of e).from
  same_producer (Some e) = refl
  same_producer None = refl

  pub resolve_op : (v : ℕ) (u : IrVertex) → slice_get dag.vertices v ≡ Some u → is_utility u.kind ≡ false → resolve dag v ≡ v
  resolve_op v u g h = from_producer v u g ∙ ap (λ b. if b then slice_index_or (take v (resolved dag)) (producer (edge_at dag.edges v 0)) 0 else v) h

  -- a utility vertex has that of its producer
  pub resolve_utility : (v : ℕ) (u : IrVertex) → slice_get dag.vertices v ≡ Some u → is_utility u.kind ≡ true → (feed_of (edge_at dag.edges v 0)).from < v
      → resolve dag v ≡ resolve dag (feed_of (edge_at dag.edges v 0)).from
  resolve_utility v u g h low =
      from_producer v u g
      ∙ ap (λ b. if b then slice_index_or (take v (resolved dag)) (producer (edge_at dag.edges v 0)) 0 else v) h
      ∙ ap (λ w. slice_index_or (take v (resolved dag)) w 0) (same_producer (edge_at dag.edges v 0))
      ∙ get_or-take v (resolved dag) (feed_of (edge_at dag.edges v 0)).from 0 low

---- tasks

module _ (flat : FlatForm) (dag : IrDag) (cuts : ℕ → List ℕ) where
  abbrev pub parts_at : ℕ → Parts
  parts_at v = slice_index_or (all_parts flat dag cuts) v no_parts

  -- what an in-edge of vertex v brings to each of its n tasks
  abbrev pub feed_brings : ℕ → ℕ → Feed → ℕ → ByNumber
  feed_brings v n f = brought (cuts v) n (slice_index_or (take v (all_parts flat dag cuts)) f.from no_parts) f.pattern

  pub parts_before : (v w : ℕ) → w < v → slice_index_or (take v (all_parts flat dag cuts)) w no_parts ≡ parts_at w
  parts_before v w h = get_or-take v (all_parts flat dag cuts) w no_parts h

  parts_are : (v : ℕ) (node : Node) → slice_get (nodes flat.transforms dag) v ≡ Some node → parts_at v ≡ part_step (origin dag) cuts (take v (all_parts flat dag cuts)) node
  parts_are v node g = along_at (part_step (origin dag) cuts) (nodes flat.transforms dag) v node no_parts g

  pub tasks_are : (v : ℕ) (node : Node) → slice_get (nodes flat.transforms dag) v ≡ Some node → (parts_at v).parallelism ≡ node.parallelism
  tasks_are v node g = ap (λ (p : Parts). p.parallelism) (parts_are v node g)

  pub task_at : (v : ℕ) (node : Node) → slice_get (nodes flat.transforms dag) v ≡ Some node
      → (i : ℕ) → (parts_at v).task i ≡ done_by (origin dag v) node.parallelism i node.deed (at_task (map (feed_brings v node.parallelism) node.feeds) i)
  task_at v node g i =
      let n = node.parallelism in
      let done = take v (all_parts flat dag cuts) in
      ap (λ (p : Parts). p.task i) (parts_are v node g)
      ∙ ap (λ l. done_by (origin dag l) n i node.deed (map (λ f. brought (cuts l) n (slice_index_or done f.from no_parts) f.pattern i) node.feeds))
      (along_before (part_step (origin dag) cuts) (nodes flat.transforms dag) v node g)
      ∙ ap (done_by (origin dag v) n i node.deed) (sym (map_map (λ (got : ℕ → ByNumber). got i) (feed_brings v n) node.feeds))
