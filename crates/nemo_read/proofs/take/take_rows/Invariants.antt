use Rattle.std.proofs.Common.{◌≡◌}
use Rattle.std.specs.Vec.Iter.{into_iter_items}
use Rattle.serde_json.specs.View.{items_view}
use Rattle.nemo_read.specs.Parts.{each, record_of}
use Rattle.nemo_read.proofs.Fronts.{with_front}
use Rattle.nemo_read.proofs.take.take_rows.Given as goal

-- what is read, and then what the rest stands for
abbrev pub invariant-loop-row : goal.invariant-loop-row
invariant-loop-row l =
    with_front l.records (each record_of (items_view (into_iter_items l.row-iterator))) ≡ each record_of (items_view l.fn.rows.items)
