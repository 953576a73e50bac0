use Rattle.std.proofs.Common.{◌≡◌, ◌<◌, ◌-◌, sym, ap, ◌∙◌, subst, length, map, slice_get, arith}
use Rattle.std.proofs.lemmas.List.{length-map}
use Rattle.nemo_job.specs.Held.{node_of}
use Rattle.nemo_job.specs.Readers.{IsMarked}
use Rattle.nemo_job.proofs.LastReaders.{begins, is_free, is_marked, node_at, turns, passes_by, reaches}
use Rattle.nemo_job.proofs.readers.last_readers.Goals as goal

pub loop-place-init : goal.loop-place-init
loop-place-init c = begins c.args.nodes.now c.in_ok-last.last.items c.in_ok-last.ensures

pub mark-requires : goal.mark-requires
mark-requires c =
    let nodes = c.args.nodes.now in
    let at = c.loop-place.place - 1 in
    let n = c.index-nodes-place.result in
    let inside : at < length nodes = omega arith in
    λ k j e. reaches (map node_of nodes) c.loop-place.place at (node_of n) c.loop-place.last.items c.requires (node_at nodes at n inside c.index-nodes-place.is) c.loop-place.invariant k j
    (ap (λ xs. slice_get xs k) (sym (c.as_slice.ensures ∙ ap (λ m. m.inputs) (sym c.index-nodes-place.is))) ∙ e)

pub loop-place-preserved-then-is_some : goal.loop-place-preserved-then-is_some
loop-place-preserved-then-is_some c =
    let nodes = c.args.nodes.now in
    let at = c.loop-place.place - 1 in
    let n = c.index-nodes-place.result in
    let inside : at < length nodes = omega arith in
    let is : at ≡ c.loop-place.place - 1 = λ i. at in
    let within : at < length c.loop-place.last.items = omega (arith, c.loop-place.invariant.size, length-map nodes node_of) in
    let marked = is_marked c.loop-place.last.items at c.index.result.now within c.index.ensures (sym c.is_some.ensures ∙ c.if-is_some.true) in
    turns (map node_of nodes) c.loop-place.place at (node_of n) c.loop-place.last.items c.mark.new.last.items c.requires (omega arith) is (node_at nodes at n inside c.index-nodes-place.is) marked.0 marked.1 c.loop-place.invariant
    (subst (λ xs. IsMarked xs at c.loop-place.last.items c.mark.new.last.items) (c.as_slice.ensures ∙ ap (λ m. m.inputs) (sym c.index-nodes-place.is)) c.mark.ensures)

pub loop-place-preserved : goal.loop-place-preserved
loop-place-preserved c =
    let nodes = c.args.nodes.now in
    let at = c.loop-place.place - 1 in
    let is : at ≡ c.loop-place.place - 1 = λ i. at in
    let inside : at < length c.loop-place.last.items = omega (arith, c.loop-place.invariant.size, length-map nodes node_of) in
    passes_by (map node_of nodes) c.loop-place.place at c.loop-place.last.items (omega arith) is (is_free c.loop-place.last.items at c.index.result.now inside c.index.ensures (sym c.if-is_some.ensures)) c.loop-place.invariant
