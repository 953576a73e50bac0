use Rattle.std.proofs.Common.{arith, ◌≡◌, ap, ◌++◌, ◌∙◌}
use Rattle.std.proofs.lemmas.Grind.{common_steps}
use Rattle.json.specs.Print.{print}
use Rattle.json.specs.Tree.{json_tokens}
use Rattle.serde_json.specs.Written.{outline}
use Rattle.serde_json.proofs.Texts.{print-outline}
use Rattle.nemo_report.specs.Texts.{row_data}
use Rattle.nemo_report.proofs.lines.row_line.Goals as goal

pub returns : goal.returns
returns c =
    let d = row_data c.args.row.now in
    let tokens : c.write_row.new.writer.tokens ≡ json_tokens (outline d) = c.in_ok-write_row.ensures.tokens ∙ ap (λ ts. ts ++ json_tokens (outline d)) c.new-writer.ensures.tokens in
    let printed = ap print tokens ∙ print-outline d in
    grind (arith, common_steps, printed)
