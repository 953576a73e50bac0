-- Effects on one task.
use Rattle.std.specs.Prelude.{ℕ, ◌==◌, List, Option, Some, None, slice_get, slice_set, if◌then◌else◌}
use Rattle.nemo_base.specs.Places.{row_at}
use Rattle.nemo_base.specs.declared.graph.VertexRow.{VertexRow}
use Rattle.nemo_base.specs.declared.settings.Settings.{Settings}
use Rattle.nemo_core.specs.declared.event.HeldBy.{HeldBy}
use Rattle.nemo_core.specs.declared.row.Attempt.{Attempt}
use Rattle.nemo_core.specs.Step.{home_of}

-- rows with another item at one place
abbrev pub with_item : {X : Type 0} → List (List X) → ℕ → ℕ → X → List (List X)
with_item rows a b x = slice_set rows a (slice_set (row_at rows a) b x)

-- block i of a vertex after a commit that makes it, where this was there
abbrev pub put_in : HeldBy → ℕ → List (Option HeldBy) → Option (Option HeldBy) → List (Option HeldBy)
put_in held i blocks (Some None) = slice_set blocks i (Some held)
put_in held i blocks (Some (Some before)) = blocks
put_in held i blocks None = blocks

abbrev pub put : HeldBy → ℕ → List (Option HeldBy) → List (Option HeldBy)
put held i blocks = put_in held i blocks (slice_get blocks i)

-- the blocks of a vertex after the commit of an attempt that ran task i of a stage
abbrev pub filled_at : Settings → List ℕ → Attempt → ℕ → ℕ → Option VertexRow → List (Option HeldBy) → List (Option HeldBy)
filled_at k incs a stage i (Some row) blocks = if row.stage == stage then put (home_of k incs a.number i row.home a) i blocks else blocks
filled_at k incs a stage i None blocks = blocks
