use Rattle.std.proofs.Common.{◌∙◌, ◌==◌, ap}
use Rattle.std.specs.List.{find}
use Rattle.nemo_ir.proofs.Tables.{edge_at_port}
use Rattle.nemo_ir.proofs.index.DagIndex.in_edge.Goals as goal

pub returns : goal.returns
returns c = c.into_port.ensures ∙ ap (find (λ e. e.port == c.args.port)) c.in_edges.ensures ∙ edge_at_port c.args.self.now.edges c.args.v c.args.port
