use Rattle.std.proofs.Common.{◌∙◌, ap, sym, ◌++◌, ◌+◌, ◌-◌, ℕ, Option}
use Rattle.std.specs.List.{filter_map}
use Rattle.nemo_ir.specs.Along.{counted}
use Rattle.nemo_ir.specs.Nodes.{edge_at}
use Rattle.nemo_plan.specs.Graph.{trigger_along}
use Rattle.nemo_plan.proofs.Walks.{chosen_here, none_here, none_left}
use Rattle.nemo_plan.proofs.rows.triggers.Goals as goal
use Rattle.nemo_plan.proofs.rows.triggers.Goals.{in-Some+in_ok-push, in_default}

pub loop-port-preserved : goal.loop-port-preserved
loop-port-preserved c =
    let f : ℕ → Option ℕ = λ port. trigger_along c.args.index.now (edge_at c.args.index.now.edges c.args.v port) in
    let i : ℕ = c.loop-port.port in
    elim c.match-trigger_at.branch [
      | in-Some+in_ok-push w ↦
          ap (λ l. l ++ filter_map f (counted (i + 1) (c.args.ports - (i + 1)))) (w.all-is ∙ w.in_ok-push.ensures.ok) ∙ chosen_here f c.loop-port.all i c.args.ports c.loop-port-test.true w.in-Some.trigger (sym c.trigger_at.ensures ∙ w.in-Some.is) ∙ c.loop-port.invariant
      | in_default w ↦ ap (λ l. l ++ filter_map f (counted (i + 1) (c.args.ports - (i + 1)))) w.all-is ∙ none_here f c.loop-port.all i c.args.ports c.loop-port-test.true (sym c.trigger_at.ensures ∙ w.in_default.is) ∙ c.loop-port.invariant
    ]

pub returns : goal.returns
returns c =
    sym (none_left (λ port. trigger_along c.args.index.now (edge_at c.args.index.now.edges c.args.v port)) c.loop-port.all c.loop-port.port c.args.ports c.loop-port-test.false) ∙ c.loop-port.invariant
