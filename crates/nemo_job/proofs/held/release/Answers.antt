use Rattle.std.proofs.Common.{◌∙◌, sym, ap, refl, subst, length, map}
use Rattle.std.specs.Prelude.{vec_items}
use Rattle.nemo_job.specs.Held.{IsReleased, known}
use Rattle.nemo_job.proofs.Releasing.{released_more}
use Rattle.nemo_job.proofs.held.release.Goals as goal
use Rattle.nemo_job.proofs.held.release.Goals.{then-eq+in-Lent-1, then-eq+in-Made-1, else-eq}

pub loop-input-preserved : goal.loop-input-preserved
loop-input-preserved c =
    let last = c.args.last.now in
    let place = c.args.place in
    let old = c.args.held.now.items in
    let held = c.loop-input.held.items in
    let so = c.loop-input.invariant in
    elim c.if-eq.branch [
      | then-eq+in-Lent-1 w ↦
          let h = w.index_mut.result.now in
          let more = released_more last place old held c.if-eq.held.items c.args.inputs.now c.loop-input.input-index h _ so.size so.released c.requires.within c.requires.noted c.loop-input-test.true
          (sym c.eq.ensures ∙ w.if-eq.true) w.index_mut.ensures.value refl (ap vec_items w.held-is) in
          record { size = more.0; released = more.1 }
      | then-eq+in-Made-1 w ↦
          let h = w.index_mut.result.now in
          let more = released_more last place old held c.if-eq.held.items c.args.inputs.now c.loop-input.input-index h _ so.size so.released c.requires.within c.requires.noted c.loop-input-test.true
          (sym c.eq.ensures ∙ w.if-eq.true) w.index_mut.ensures.value refl (ap vec_items w.held-is) in
          record { size = more.0; released = more.1 }
      | else-eq w ↦ record {
        size = ap length (ap vec_items w.held-is) ∙ so.size;
        released = subst (λ l. IsReleased last place (map known old) (map known l)) (sym (ap vec_items w.held-is)) so.released;
      }
    ]
