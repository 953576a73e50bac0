-- A walk over vertices with the edges that are left.
use Rattle.std.proofs.Common.{arith, ◌≡◌, ◌∙◌, ap, ℕ, ◌+◌, ◌<◌, ◌≤◌, List, length, take, drop, get_or}
use Rattle.std.proofs.Math.ListN.{set}
use Rattle.std.proofs.lemmas.List.{length-take-le}
use Rattle.nemo_ir.specs.Along.{along}
use Rattle.nemo_ir.specs.Flat.{FlatForm}
use Rattle.nemo_ir.specs.Nodes.{deed_of, edge_at, producer}
use Rattle.nemo_ir.specs.declared.dag.IrEdge.{IrEdge}
use Rattle.nemo_ir.specs.declared.dag.IrVertex.{IrVertex}
use Rattle.nemo_ir.proofs.Outlines.{along_set}
use Rattle.nemo_annotate.specs.Passes.{parallelism_at, parallelism_of, with_tasks}

pub next_tasks : (flat : FlatForm) (p : ℕ) (es rest : List IrEdge) (us one two new : List IrVertex) (v : ℕ) (u d : IrVertex) → v < length us
    → ((w port : ℕ) → v ≤ w → edge_at rest w port ≡ edge_at es w port)
    → one ≡ us → two ≡ us → u ≡ with_tasks flat p rest (take v one) (get_or two v d) → new ≡ set us v u
    → along (with_tasks flat p es) (take (v + 1) new) (drop (v + 1) new) ≡ along (with_tasks flat p es) (take v us) (drop v us)
next_tasks flat p es rest us one two new v u d h left one_is two_is is set_is =
    let long : length (take v us) ≡ v = length-take-le v us (omega arith) in
    let w = get_or us v d in
    let edge : edge_at rest (length (take v us)) 0 ≡ edge_at es (length (take v us)) 0 = left (length (take v us)) 0 (omega arith) in
    let same : u ≡ with_tasks flat p es (take v us) w =
    is ∙ (λ i. with_tasks flat p rest (take v (one_is i)) (get_or (two_is i) v d))
    ∙ ap (λ o. record w { parallelism = parallelism_of p (parallelism_at (take v us) (producer o)) (deed_of flat.transforms w.kind) }) edge in
    ap (λ l. along (with_tasks flat p es) (take (v + 1) l) (drop (v + 1) l)) set_is ∙ along_set (with_tasks flat p es) us v u d h same
