use Rattle.std.proofs.Common.{◌≡◌, ◌∙◌, sym, ap, refl, Bool, true, false, ◌&&◌}
use Rattle.nemo_job.specs.Chain.{is_linked}
use Rattle.nemo_job.proofs.CopySinks.{vertex_names_new}
use Rattle.nemo_job.proofs.chain.is_chain.Goals as goal

with_true : (b : Bool) → b ≡ (b && true)
with_true true = refl
with_true false = refl

pub returns : goal.returns
returns c =
    let vs = c.args.job.now in
    c.is_linked.ensures ∙ ap is_linked (c.as_slice.ensures ∙ c.vertices.ensures.vertices) ∙ with_true (is_linked vs)
    ∙ ap (λ b. is_linked vs && b) (sym (vertex_names_new vs c.vertices.ensures.job))
