use Rattle.std.proofs.Common.{[], ◌∷◌, sym, subst, length, length-append, map}
use Rattle.std.specs.Prelude.{option_map}
use Rattle.std.proofs.lemmas.Iterator.{YieldsList-from_zip, YieldsList-from_slice}
use Rattle.std.proofs.lemmas.Iterator.Adapters.{YieldsList-from_vec}
use Rattle.std.proofs.lemmas.Iterator.Consumers.{YieldsList-turn, YieldsList-end}
use Rattle.nemo_transform.specs.FirstFault.{arisen_at}
use Rattle.nemo_job.specs.ByPlace.{values}
use Rattle.nemo_job.specs.Held.{node_of}
use Rattle.nemo_job.proofs.Collecting.{SoFar, collected_added, collected_all}
use Rattle.nemo_job.proofs.evaluate.collected.Goals as goal

pub loop-node-preserved : goal.loop-node-preserved
loop-node-preserved c =
    let t = YieldsList-turn (YieldsList-from_zip {s = c.into_iter-node-iterator.result} (YieldsList-from_slice c.args.nodes.now (cc)) (YieldsList-from_vec c.args.held.items (cc) (cc))) c.loop-node.yielded c.loop-node.node-iterator c.loop-node.yielded_by _ c.next.new.self (c.in-Some.node, c.in-Some.given) c.in-Some.is c.next.ensures.steps in
    subst (λ n. SoFar (map node_of c.args.nodes.now) (values (map node_of c.args.nodes.now)) n c.add.new.self.sinks.items (option_map arisen_at c.add.new.self.first))
    (sym (length-append c.loop-node.yielded ((c.in-Some.node, c.in-Some.given) ∷ [])))
    (collected_added c.args.nodes.now c.args.held.items (length c.loop-node.yielded) c.in-Some.node.now c.in-Some.given c.requires t c.loop-node.ending.sinks.items c.add.new.self.sinks.items (option_map arisen_at c.loop-node.ending.first) (option_map arisen_at c.add.new.self.first)
    c.in_ok-add.ensures.sinks c.in_ok-add.ensures.first c.loop-node.invariant)

pub returns : goal.returns
returns c =
    let e = YieldsList-end (YieldsList-from_zip {s = c.into_iter-node-iterator.result} (YieldsList-from_slice c.args.nodes.now (cc)) (YieldsList-from_vec c.args.held.items (cc) (cc))) c.loop-node.yielded c.loop-node.node-iterator c.loop-node.yielded_by _ c.next.new.self c.in-None.is c.next.ensures.steps in
    let all = collected_all c.args.nodes.now c.args.held.items (length c.loop-node.yielded) c.loop-node.ending.sinks.items (option_map arisen_at c.loop-node.ending.first) c.requires e.1 c.loop-node.invariant in
    record { sinks = all.0; first = all.1 }
