use Rattle.std.proofs.Common.{◌≡◌, drop}
use Rattle.serde_json.specs.View.{items_view}
use Rattle.nemo_bundle.specs.Scripts.{lines_from}
use Rattle.nemo_bundle.proofs.Fronts.{put_front}
use Rattle.nemo_bundle.proofs.scripts.read_lines.Given as goal

-- the lines so far, and then what the rest stands for
abbrev pub invariant-loop-place : goal.invariant-loop-place
invariant-loop-place l =
    put_front l.lines (lines_from l.cluster l.place l.before (items_view (drop l.place l.items))) ≡ lines_from l.cluster 0 0 (items_view l.items)
