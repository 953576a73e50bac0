use Rattle.std.proofs.Common.{◌≡◌, ◌∙◌, ◌==◌, ◌&&◌, ap, sym, not, filter, length}
use Rattle.std.specs.List.{filter_map, list_any}
use Rattle.std.proofs.lemmas.Option.{slice_get-get_or}
use Rattle.nemo_ir.specs.Along.{below}
use Rattle.nemo_ir.specs.Nodes.{deed_of, edge_at, kinds_in}
use Rattle.nemo_ir.specs.Uniform.{is_kept}
use Rattle.nemo_ir.specs.Valid.{is_hash}
use Rattle.nemo_ir.specs.declared.dag.IrEdge.{IrEdge}
use Rattle.nemo_plan.specs.Graph.{home_of, is_sink_vertex, keeps_none, leaves, leaving, of_stage, trigger_along}
use Rattle.nemo_plan.proofs.Walks.{all_filtered, both_filtered}
use Rattle.nemo_plan.proofs.rows.vertex_row.Goals as goal
use Rattle.nemo_plan.proofs.rows.vertex_row.Goals.{then-not-is_sink, else-not-is_sink}

pub returns : goal.returns
returns c =
    let stages = c.args.stages.now in
    let dag = c.args.index.now in
    let out : filter (leaves c.args.stages.now) c.out_edges-out.result.now ≡ leaving c.args.index.now c.args.stages.now c.args.v =
    ap (filter (leaves stages)) c.out_edges-out.ensures ∙ both_filtered (λ (e : IrEdge). e.from == c.args.v) (leaves stages) dag.edges in
    let ports : c.port_count.result ≡ length (kinds_in (deed_of c.args.flat.now.transforms c.args.u.now.kind)) =
    c.port_count.ensures ∙ ap (λ ts. length (kinds_in (deed_of ts c.args.u.now.kind))) (c.as_slice.ensures ∙ ap (λ f. f.transforms) c.flat.view_is) in
    let stage = sym (ap (of_stage (λ s. s)) (slice_get-get_or stages c.args.v 0 c.requires.staged)) in
    let hashed = c.any_hash.ensures ∙ ap (list_any (λ (e : IrEdge). is_hash e.pattern)) c.in_edges.ensures in
    let triggers = c.in_ok-triggers.ensures ∙ ap (λ n. filter_map (λ port. trigger_along dag (edge_at dag.edges c.args.v port)) (below n)) ports in
    let home = c.home.ensures ∙ ap (home_of c.args.flat.now c.args.u.now) out in
    let discard : c.if-not-is_sink.result ≡ (not (is_sink_vertex c.args.flat.now c.args.u.now) && keeps_none (leaving c.args.index.now c.args.stages.now c.args.v)) = elim c.if-not-is_sink.branch [
      | then-not-is_sink w ↦
          w.result-is
          ∙ w.none_kept.ensures
          ∙ sym (all_filtered (leaves stages) (λ (e : IrEdge). not (is_kept e.keep)) c.out_edges-out.result.now)
          ∙ ap keeps_none out ∙ sym (ap (λ b. not b && keeps_none (leaving c.args.index.now c.args.stages.now c.args.v)) (sym c.is_sink.ensures ∙ w.if-not-is_sink.true))
      | else-not-is_sink w ↦ w.result-is ∙ ap not w.if-not-is_sink.false ∙ sym (ap (λ b. not b && keeps_none (leaving c.args.index.now c.args.stages.now c.args.v)) (sym c.is_sink.ensures ∙ w.if-not-is_sink.false))
    ] in
    λ i. record { stage = stage i; parallelism = c.args.u.now.parallelism; hashed = hashed i; triggers = triggers i; home = home i; discard = discard i }
