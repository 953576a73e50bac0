use Rattle.std.proofs.Common.{◌≡◌, drop}
use Rattle.serde_json.specs.View.{items_view}
use Rattle.nemo_read.specs.Parts.{each}
use Rattle.nemo_read.proofs.Fronts.{with_front}
use Rattle.nemo_read.proofs.read.read_items.Given as goal

-- what is read, and then what the rest stands for
abbrev pub invariant-loop-value : goal.invariant-loop-value
invariant-loop-value g l =
    let reads = g.T.FromJson.reads in
    with_front l.list (each reads (items_view (drop l.value-index l.items))) ≡ each reads (items_view l.items)
