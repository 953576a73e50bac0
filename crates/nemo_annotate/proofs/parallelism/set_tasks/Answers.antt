use Rattle.std.proofs.Common.{arith, ◌∙◌, ap, ℕ, ◌<◌, ◌≤◌, length, length-set}
use Rattle.nemo_annotate.proofs.Walking.{next_tasks}
use Rattle.nemo_annotate.proofs.parallelism.set_tasks.Goals as goal

pub loop-v-preserved : goal.loop-v-preserved
loop-v-preserved c =
    let flat = c.args.flat.now in
    let rest = c.later_edges-rest.result.now in
    let v = c.loop-v.v in
    let before = c.loop-v.invariant in
    let within : v < length c.loop-v.vertices = omega (arith, before.size, c.len-v-end.ensures) in
    let kept = λ (w port : ℕ) (l : v ≤ w). c.later_edges-rest.ensures w port l ∙ before.left w port l in
    record {
      made = next_tasks flat c.args.p c.args.edges.now rest c.loop-v.vertices
          c.as_slice.result.now c.as_slice-in-loop-v.result.now c.set.new.self v c.with_tasks-u.result _ within kept
          c.as_slice.ensures c.as_slice-in-loop-v.ensures c.with_tasks-u.ensures c.set.ensures ∙ before.made;
      size = ap length c.set.ensures ∙ length-set c.loop-v.vertices v c.with_tasks-u.result ∙ before.size;
      left = λ w port l. kept w port (omega arith);
    }
