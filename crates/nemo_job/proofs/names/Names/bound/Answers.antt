use Rattle.std.proofs.Common.{◌∙◌, ap, sym, subst, [], ◌∷◌, length, length-append, map, take, zip}
use Rattle.std.proofs.Math.Seq.{take-length}
use Rattle.std.proofs.lemmas.Iterator.{YieldsList-from_zip, YieldsList-from_slice}
use Rattle.std.proofs.lemmas.Iterator.Consumers.{YieldsList-turn, YieldsList-end}
use Rattle.nemo_job.specs.NamesBound.{HasNames}
use Rattle.nemo_job.proofs.ScopeNames.{one_bound, bound-zip, bound-more}
use Rattle.nemo_job.proofs.names.Names.bound.Goals as goal

pub loop-port-preserved : goal.loop-port-preserved
loop-port-preserved c =
    let t = YieldsList-turn (YieldsList-from_zip {s = c.into_iter-port-iterator.result} (YieldsList-from_slice c.args.ports.now (cc)) (YieldsList-from_slice c.args.carry.now (cc))) c.loop-port.yielded c.loop-port.port-iterator c.loop-port.yielded_by _ c.next.new.self (c.in-Some.port, c.in-Some.name) c.in-Some.is c.next.ensures.steps in
    let z = zip c.args.ports.now c.args.carry.now in
    subst (λ n. HasNames (map one_bound (take n z)) c.bind_port.new.self) (sym (length-append c.loop-port.yielded ((c.in-Some.port, c.in-Some.name) ∷ [])))
    (subst (λ bs. HasNames bs c.bind_port.new.self)
    (bound-more c.args.ports.now c.args.carry.now (length c.loop-port.yielded) (c.in-Some.port.now, c.in-Some.name.now) t)
    (c.in_ok-bind_port.ensures (map one_bound (take (length c.loop-port.yielded) z)) c.loop-port.invariant))

pub returns : goal.returns
returns c =
    let e = YieldsList-end (YieldsList-from_zip {s = c.into_iter-port-iterator.result} (YieldsList-from_slice c.args.ports.now (cc)) (YieldsList-from_slice c.args.carry.now (cc))) c.loop-port.yielded c.loop-port.port-iterator c.loop-port.yielded_by _ c.next.new.self c.in-None.is c.next.ensures.steps in
    let z = zip c.args.ports.now c.args.carry.now in
    subst (λ bs. HasNames bs c.loop-port.names)
    (ap (λ n. map one_bound (take n z)) e.1 ∙ ap (map one_bound) (take-length z) ∙ sym (bound-zip c.args.ports.now c.args.carry.now)) c.loop-port.invariant
