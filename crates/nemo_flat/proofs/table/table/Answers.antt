use Rattle.std.proofs.Common.{◌∙◌, ◌++◌, ap, sym}
use Rattle.nemo_flat.specs.Table.{all_operations}
use Rattle.nemo_flat.proofs.Tables.{operations_are}
use Rattle.nemo_flat.proofs.table.table.Goals as goal

pub returns : goal.returns
returns c = c.in_ok-add_all.ensures ∙ ap (λ all. all ++ all_operations c.args.vertices.now) c.new-all.ensures ∙ sym (operations_are c.args.vertices.now)
