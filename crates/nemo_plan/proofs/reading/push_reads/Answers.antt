use Rattle.std.proofs.Common.{◌∙◌, ap, sym, ◌++◌, ◌+◌, ◌-◌, slice_get, ℕ, Option}
use Rattle.std.specs.List.{filter_map}
use Rattle.nemo_base.specs.declared.graph.Read.{Read}
use Rattle.nemo_ir.specs.Along.{below, counted}
use Rattle.nemo_ir.specs.Nodes.{edge_at}
use Rattle.nemo_plan.specs.Graph.{read_along}
use Rattle.nemo_plan.proofs.Walks.{chosen_here, none_here, none_left, reads_are}
use Rattle.nemo_plan.proofs.reading.push_reads.Goals as goal
use Rattle.nemo_plan.proofs.reading.push_reads.Goals.{in-Some+in_ok-push, in_default}

pub loop-port-preserved : goal.loop-port-preserved
loop-port-preserved c =
    let f : ℕ → Option Read = λ port. read_along c.args.stages.now (edge_at c.args.index.now.edges c.args.v port) in
    let i : ℕ = c.loop-port.port in
    let n : ℕ = c.ports_at-port-end.result in
    elim c.match-read_at.branch [
      | in-Some+in_ok-push w ↦
          ap (λ l. l ++ filter_map f (counted (i + 1) (n - (i + 1)))) (w.all-is ∙ w.in_ok-push.ensures.ok) ∙ chosen_here f c.loop-port.all i n c.loop-port-test.true w.in-Some.read (sym c.read_at.ensures ∙ w.in-Some.is) ∙ c.loop-port.invariant
      | in_default w ↦ ap (λ l. l ++ filter_map f (counted (i + 1) (n - (i + 1)))) w.all-is ∙ none_here f c.loop-port.all i n c.loop-port-test.true (sym c.read_at.ensures ∙ w.in_default.is) ∙ c.loop-port.invariant
    ]

pub returns : goal.returns
returns c =
    let f : ℕ → Option Read = λ port. read_along c.args.stages.now (edge_at c.args.index.now.edges c.args.v port) in
    sym (none_left f c.loop-port.all c.loop-port.port c.ports_at-port-end.result c.loop-port-test.false)
    ∙ c.loop-port.invariant
    ∙ ap (λ n. c.args.all.now ++ filter_map f (below n)) c.ports_at-port-end.ensures
    ∙ ap (λ l. c.args.all.now ++ l) (reads_are c.args.flat.now c.args.index.now c.args.stages.now c.args.v (slice_get c.args.index.now.vertices c.args.v))
