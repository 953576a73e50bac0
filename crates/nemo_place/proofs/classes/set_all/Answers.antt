use Rattle.std.proofs.Common.{arith, ◌∙◌, ap, ◌<◌, length, length-set}
use Rattle.nemo_place.proofs.ClassSteps.{next_class}
use Rattle.nemo_place.proofs.classes.set_all.Goals as goal

pub loop-v-preserved : goal.loop-v-preserved
loop-v-preserved c =
    let v = c.loop-v.v in
    let before = c.loop-v.invariant in
    let within : v < length c.loop-v.vertices = omega (arith, before.size, c.len-v-end.ensures) in
    let ins = c.split.ensures.into ∙ before.left v (omega arith) in
    record {
      made = next_class c.args.edges.now c.split.result.0.now c.loop-v.vertices
          c.as_slice.result.now c.as_slice-in-loop-v.result.now c.set.new.self v c.class_of-class.result _ within ins
          c.as_slice.ensures c.as_slice-in-loop-v.ensures c.class_of-class.ensures c.set.ensures ∙ before.made;
      size = ap length c.set.ensures ∙ length-set c.loop-v.vertices v _ ∙ before.size;
      left = λ w l. c.split.ensures.later w (omega arith) ∙ before.left w (omega arith);
      order = c.split.ensures.order;
    }
