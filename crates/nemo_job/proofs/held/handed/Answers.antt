use Rattle.std.proofs.Common.{◌<◌, ◌∙◌, sym, ap, subst, length, map, arith}
use Rattle.std.specs.Prelude.{vec_items}
use Rattle.nemo_job.specs.Held.{IsReleased, known}
use Rattle.nemo_job.proofs.Releasing.{released_none, last_here}
use Rattle.nemo_job.proofs.held.handed.Goals as goal
use Rattle.nemo_job.proofs.held.handed.Goals.{then-eq, else-eq+in_ok-rows}

pub returns-clause-released : goal.returns-clause-released
returns-clause-released c =
    let last = c.args.last.now in
    let place = c.args.place in
    let old = c.args.held.now.items in
    let within : c.args.input < length last = omega (arith, c.requires.within, c.requires.noted) in
    elim c.if-eq.branch [
      | then-eq w ↦
          subst (λ l. IsReleased last place (map known old) (map known l)) (sym (ap vec_items w.held-is))
          (w.taken-rows.ensures.released last place (last_here last place c.args.input within (sym c.eq.ensures ∙ w.if-eq.true)))
      | else-eq+in_ok-rows w ↦
          subst (λ l. IsReleased last place (map known old) (map known l)) (sym (ap vec_items w.held-is)) (released_none last place (map known old))
    ]
