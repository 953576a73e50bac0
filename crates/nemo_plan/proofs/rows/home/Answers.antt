use Rattle.std.proofs.Common.{◌∙◌, ap, sym, not, cond, filter}
use Rattle.nemo_base.specs.declared.graph.Home.TheVariants.{Master, Pushed, Local}
use Rattle.std.specs.List.{list_any}
use Rattle.nemo_ir.specs.Uniform.{is_pull}
use Rattle.nemo_plan.specs.Graph.{leaves}
use Rattle.nemo_plan.proofs.Walks.{any_filtered}
use Rattle.nemo_plan.proofs.rows.home.Goals as goal

pub returns-then-any_pushed : goal.returns-then-any_pushed
returns-then-any_pushed c =
    sym (ap (λ b. cond b Master (cond (list_any (λ e. not (is_pull e.flow)) (filter (leaves c.args.stages.now) c.args.out.now)) Pushed Local)) (sym c.is_sink.ensures ∙ c.if-is_sink.false)
    ∙ ap (λ b. cond b Pushed Local) (any_filtered (leaves c.args.stages.now) (λ e. not (is_pull e.flow)) c.args.out.now ∙ sym c.any_pushed.ensures ∙ c.if-any_pushed.true))

pub returns-else-any_pushed : goal.returns-else-any_pushed
returns-else-any_pushed c =
    sym (ap (λ b. cond b Master (cond (list_any (λ e. not (is_pull e.flow)) (filter (leaves c.args.stages.now) c.args.out.now)) Pushed Local)) (sym c.is_sink.ensures ∙ c.if-is_sink.false)
    ∙ ap (λ b. cond b Pushed Local) (any_filtered (leaves c.args.stages.now) (λ e. not (is_pull e.flow)) c.args.out.now ∙ sym c.any_pushed.ensures ∙ c.if-any_pushed.false))
