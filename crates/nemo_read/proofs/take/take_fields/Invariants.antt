use Rattle.std.proofs.Common.{◌≡◌, drop}
use Rattle.serde_json.specs.View.{items_view}
use Rattle.nemo_read.specs.Parts.{each, field_of}
use Rattle.nemo_read.proofs.Fronts.{with_front}
use Rattle.nemo_read.proofs.take.take_fields.Given as goal

-- what is read, and then what the rest stands for
abbrev pub invariant-loop-item : goal.invariant-loop-item
invariant-loop-item l =
    with_front l.fields (each field_of (items_view (drop l.item-index l.items))) ≡ each field_of (items_view l.initial.items)
