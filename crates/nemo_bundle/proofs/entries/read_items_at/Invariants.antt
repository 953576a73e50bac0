use Rattle.std.proofs.Common.{◌≡◌, drop}
use Rattle.serde_json.specs.View.{items_view}
use Rattle.nemo_bundle.specs.Entries.{each_at}
use Rattle.nemo_bundle.proofs.Fronts.{put_front}
use Rattle.nemo_bundle.proofs.entries.read_items_at.Given as goal

-- what is read, and then what the rest stands for
abbrev pub invariant-loop-place : goal.invariant-loop-place
invariant-loop-place g l =
    let reads = g.R.ReadAt.reads l.reader in
    put_front l.list (each_at reads l.place (items_view (drop l.place l.items))) ≡ each_at reads 0 (items_view l.items)
