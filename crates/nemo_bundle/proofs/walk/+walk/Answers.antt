use Rattle.std.proofs.Common.{rules}
use Rattle.serde_json.specs.View.{view}
use Rattle.nemo_read.specs.Heads.{head_view}
use Rattle.nemo_bundle.proofs.Depths.{vertex_level, vertex_walks}
use Rattle.nemo_bundle.proofs.walk.+walk.Goals as goal

pub read_vertex-returns-in_err-name : goal.read_vertex-returns-in_err-name
read_vertex-returns-in_err-name t c = rw (vertex_level c.args.count.now (view c.args.value)) (search rules)

pub read_vertex-returns : goal.read_vertex-returns
read_vertex-returns t c =
    rw (vertex_level c.args.count.now (view c.args.value), c.with_work.ensures)
    (vertex_walks _ (record { made = head_view c.in_ok-name.field-0; next = c.next_head.new.count }) c.read_work-work.result _ c.in_ok-name.ensures c.read_work-work.ensures)
