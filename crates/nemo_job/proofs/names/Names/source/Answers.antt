use Rattle.std.proofs.Common.{ap, sym, ◌∙◌}
use Rattle.std.specs.Option.{option_flatten}
use Rattle.nemo_job.specs.ByName.{named_in}
use Rattle.nemo_job.proofs.ScopeNames.{flatten_at, source_found, source_none}
use Rattle.nemo_job.proofs.names.Names.source.Goals as goal

pub returns : goal.returns
returns c = λ bs has.
    c.flatten.ensures ∙ ap option_flatten (c.copied.ensures ∙ c.get-2.ensures) ∙ flatten_at c.in_ok-ports.ports.now c.args.r.now.port
    ∙ sym (source_found bs c.args.r.now c.args.self.now c.in_ok-ports.ports.now has (ap (named_in c.args.self.now.ports) (sym c.as_str.ensures.text) ∙ sym c.in_ok-ports.ensures.value))

pub returns-in_err-ports : goal.returns-in_err-ports
returns-in_err-ports c = λ bs has. c.from_residual.ensures ∙ sym (source_none bs c.args.r.now c.args.self.now has (ap (named_in c.args.self.now.ports) (sym c.as_str.ensures.text) ∙ sym c.in_err-ports.ensures.value))
