use Rattle.std.proofs.Common.{arith, ◌≡◌, ◌<◌, ◌≤◌, ◌+◌, ◌++◌, ◌∷◌, [], ◌∙◌, ap, sym, subst, length, map, slice_get, get_or, ℕ, Some, length-append}
use Rattle.std.proofs.lemmas.List.{length-map}
use Rattle.std.proofs.lemmas.Option.{slice_get-get_or}
use Rattle.nemo_job.specs.Nodes.{copy_of}
use Rattle.nemo_flat.specs.Flattened.{kept, number_of}
use Rattle.nemo_job.specs.Held.{IsLast, IsLower}
use Rattle.nemo_job.specs.Unrolled.{placed_copy}
use Rattle.nemo_flat.proofs.KeptMarks.{is_final, node_at, nodes_placed, placed_lower}
use Rattle.nemo_flat.proofs.KeptVertices.{IsBegun, begun_count, begun_few, begun_keeps, begun_skips, numbers_next, vertex_is}
use Rattle.nemo_flat.proofs.keeping.kept_vertices.Goals as goal
use Rattle.nemo_flat.proofs.keeping.kept_vertices.Goals.{then-is_some+in_ok-vertex_of+in_ok-push-2, else-is_some}

pub last_readers-requires : goal.last_readers-requires
last_readers-requires c = subst IsLower (sym (nodes_placed c.args.nodes.now)) (placed_lower (map copy_of c.args.nodes.now) c.requires.lower)

pub overflow_cast-len : goal.overflow_cast-len
overflow_cast-len c =
    let cs = map copy_of c.args.nodes.now in
    let few : length c.loop-place.all ≤ length cs = begun_few cs c.loop-place.place c.loop-place.all c.loop-place.invariant.vertices in
    let most : length cs ≤ 512 = c.requires.few in
    omega (arith, c.len.ensures)

pub vertex_of-requires-clause-within : goal.vertex_of-requires-clause-within
vertex_of-requires-clause-within c =
    let n = c.index-nodes-place.result in
    let size : length c.as_slice.result.now ≡ length c.push.new.self.items = ap length c.as_slice.ensures.value in
    let pushed : length c.push.new.self.items ≡ length c.loop-place.numbers.items + 1 = ap length c.in_ok-push.ensures.items ∙ length-append c.loop-place.numbers.items (c.len.result ∷ []) in
    let held : length c.loop-place.numbers.items ≡ c.loop-place.place = c.loop-place.invariant.size in
    λ k d l.
    let below : get_or n.inputs k d < c.loop-place.place =
    c.requires.lower c.loop-place.place k (get_or n.inputs k d) (copy_of n) (node_at c.args.nodes.now c.loop-place.place n c.loop-place-test.true c.index-nodes-place.is) (slice_get-get_or n.inputs k d l) in
    omega arith

pub vertex_of-requires-clause-number : goal.vertex_of-requires-clause-number
vertex_of-requires-clause-number c =
    let n = c.index-nodes-place.result in
    let low : n.number ≤ c.loop-place.place = c.requires.numbers c.loop-place.place (copy_of n) (node_at c.args.nodes.now c.loop-place.place n c.loop-place-test.true c.index-nodes-place.is) in
    omega (arith, c.requires.few, length-map c.args.nodes.now copy_of)

pub vertex_of-requires-clause-path : goal.vertex_of-requires-clause-path
vertex_of-requires-clause-path c =
    let n = c.index-nodes-place.result in
    c.requires.paths c.loop-place.place (copy_of n) (node_at c.args.nodes.now c.loop-place.place n c.loop-place-test.true c.index-nodes-place.is)

pub loop-place-preserved : goal.loop-place-preserved
loop-place-preserved c =
    let nodes = c.args.nodes.now in
    let cs = map copy_of nodes in
    let place = c.loop-place.place in
    let n = c.index-nodes-place.result in
    let old = c.loop-place.numbers.items in
    let begun : IsBegun cs place c.loop-place.all = c.loop-place.invariant.vertices in
    let there = node_at nodes place n c.loop-place-test.true c.index-nodes-place.is in
    let count : length cs ≡ length nodes = length-map nodes copy_of in
    let last = c.in_ok-last.last.items in
    let noted : IsLast (map placed_copy cs) last = subst (λ ps. IsLast ps last) (nodes_placed nodes) c.in_ok-last.ensures in
    let size : length last ≡ length cs = noted.size ∙ length-map cs placed_copy in
    let final = is_final cs last place (copy_of n) c.index.result.now c.requires.lower noted there (omega arith) c.index.ensures ∙ sym c.is_some.ensures in
    let number : c.len.result ≡ number_of (kept cs) place = c.len.ensures ∙ begun_count cs place c.loop-place.all (omega arith) begun in
    let pushed : c.push.new.self.items ≡ old ++ c.len.result ∷ [] = c.in_ok-push.ensures.items in
    let known : (i : ℕ) → i < place + 1 → slice_get c.push.new.self.items i ≡ Some (number_of (kept cs) i) =
    λ i l. ap (λ xs. slice_get xs i) pushed ∙ numbers_next (number_of (kept cs)) place c.len.result old c.loop-place.invariant.size number c.loop-place.invariant.numbers i l in
    let held : length old ≡ place = c.loop-place.invariant.size in
    record {
      vertices = elim c.if-is_some.branch [
        | then-is_some+in_ok-vertex_of+in_ok-push-2 w ↦
            subst (IsBegun cs (place + 1)) (sym (w.all-is ∙ w.in_ok-push-2.ensures.ok))
            (begun_keeps cs place (copy_of n) c.loop-place.all w.in_ok-vertex_of.field-0 there (final ∙ w.if-is_some.true)
            (w.in_ok-vertex_of.ensures ∙ vertex_is (kept cs) place place (copy_of n) w.as_slice.result.now (λ k j e. c.requires.lower place k j (copy_of n) there e)
            (λ j l. ap (λ xs. slice_get xs j) w.as_slice.ensures.value ∙ known j (omega arith))) begun)
        | else-is_some w ↦ subst (IsBegun cs (place + 1)) (sym w.all-is) (begun_skips cs place (copy_of n) c.loop-place.all there (final ∙ w.if-is_some.false) begun)
      ];
      size = ap length pushed ∙ length-append old (c.len.result ∷ []) ∙ ap (λ m. m + 1) held;
      numbers = known;
    }
