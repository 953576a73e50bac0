use Rattle.std.proofs.Common.{◌==◌}
use Rattle.nemo_check.proofs.Numbered.{any_left}
use Rattle.nemo_check.proofs.vertices.has_out_edge.Goals as goal

pub returns : goal.returns
returns c = any_left (λ e. e.from == c.args.v) c.args.index.now.edges _ _ c.out_edges.ensures c.is_empty.ensures
