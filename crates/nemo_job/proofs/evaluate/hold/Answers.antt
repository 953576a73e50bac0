use Rattle.std.proofs.Common.{◌≡◌, ◌∙◌, ◌<◌, sym, ap, false, get_or, length, map, not, None, Some, arith}
use Rattle.std.proofs.lemmas.List.{length-map}
use Rattle.std.proofs.lemmas.Option.{slice_get-get_or}
use Rattle.std.specs.Prelude.{is_some, slice_get}
use Rattle.nemo_job.specs.ByPlace.{values}
use Rattle.nemo_job.specs.Held.{known, known_value, node_of}
use Rattle.nemo_job.proofs.Holding.{held_pushed, held_feeds, inputs_below, not_reached, placed_read}
use Rattle.nemo_job.proofs.Releasing.{released_none}
use Rattle.nemo_job.proofs.Values.{value_is}
use Rattle.nemo_job.proofs.evaluate.hold.Goals as goal

pub step-requires-clause-within : goal.step-requires-clause-within
step-requires-clause-within c =
    let node = c.index-nodes-place.result in
    let there : slice_get (map node_of c.args.nodes.now) c.args.place ≡ Some (node_of node) = placed_read c.args.nodes.now c.args.place node c.requires.within c.index-nodes-place.is in
    inputs_below (map node_of c.args.nodes.now) c.args.place (length c.args.held.now.items) (node_of node) c.requires.placed.lower there (sym (length-map c.args.held.now.items known) ∙ c.requires.held.size)

pub step-requires-clause-sound : goal.step-requires-clause-sound
step-requires-clause-sound c =
    let node = c.index-nodes-place.result in
    let there : slice_get (map node_of c.args.nodes.now) c.args.place ≡ Some (node_of node) = placed_read c.args.nodes.now c.args.place node c.requires.within c.index-nodes-place.is in
    c.requires.placed.sound c.args.place (node_of node) there

pub step-requires-clause-ports : goal.step-requires-clause-ports
step-requires-clause-ports c =
    let node = c.index-nodes-place.result in
    let there : slice_get (map node_of c.args.nodes.now) c.args.place ≡ Some (node_of node) = placed_read c.args.nodes.now c.args.place node c.requires.within c.index-nodes-place.is in
    c.requires.placed.ports c.args.place (node_of node) there

pub returns-then-is_none : goal.returns-then-is_none
returns-then-is_none c =
    let place = c.args.place in
    let last = c.args.last.now in
    let held = map known c.args.held.now.items in
    held_pushed (values (map node_of c.args.nodes.now)) last place held c.args.held.now.items c.push.new.self.items c.nothing.result c.requires.held (released_none last place held) c.in_ok-push.ensures.items
    (λ u reach.
    let within : place < length last = omega (arith, c.requires.within, c.requires.last.size, length-map c.args.nodes.now node_of) in
    let none : is_some (get_or last place None) ≡ false = c.is_none.ensures ∙ ap not c.if-is_none.true in
    absurd (not_reached last place (get_or last place None) u (slice_get-get_or last place None within) none reach))

pub returns : goal.returns
returns c =
    let nodes = c.args.nodes.now in
    let ps = map node_of nodes in
    let vals = values ps in
    let last = c.args.last.now in
    let place = c.args.place in
    let held = map known c.args.held.now.items in
    let node = c.index-nodes-place.result in
    let there : slice_get ps place ≡ Some (node_of node) = placed_read nodes place node c.requires.within c.index-nodes-place.is in
    held_pushed vals last place held c.step.new.held.items c.push-2.new.self.items c.in_ok-given.given c.requires.held c.in_ok-given.ensures.released c.in_ok-push-2.ensures.items
    (λ u reach.
    c.in_ok-given.ensures.given vals (held_feeds vals ps last place u held (node_of node) c.requires.placed.lower c.requires.last c.requires.held there reach)
    ∙ ap known_value (sym (value_is ps place (node_of node) c.requires.placed.lower there)))
