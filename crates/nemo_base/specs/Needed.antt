-- Which blocks are wanted and which tasks are needed.
use Rattle.std.specs.Prelude.{ℕ, zero, suc, ◌&&◌, ◌||◌, ◌==◌, Bool, true, false, List, [], ◌∷◌, Option, Some, None, max, slice_get, if◌then◌else◌}
use Rattle.std.specs.List.{list_any}
pub use Rattle.nemo_value.specs.Counted.{below}
use Rattle.nemo_base.specs.declared.graph.Home.{Home}
use Rattle.nemo_base.specs.declared.graph.Home.TheVariants.{Master, Pushed, Local}
use Rattle.nemo_base.specs.declared.graph.Read.{Read}
use Rattle.nemo_base.specs.declared.graph.StageRow.{StageRow}
use Rattle.nemo_base.specs.declared.graph.TaskGraph.{TaskGraph}
use Rattle.nemo_base.specs.Places.{any_at, passes}

abbrev pub is_master : Home → Bool
is_master Master = true
is_master Pushed = false
is_master Local = false

-- the master keeps the blocks of this vertex
abbrev pub is_sink : TaskGraph → ℕ → Bool
is_sink g v = passes (λ row. is_master row.home) (slice_get g.vertices v)

-- the vertices whose blocks the tasks of a stage make
abbrev pub made_by : Option StageRow → List ℕ
made_by (Some row) = row.blocks
made_by None = []

abbrev pub blocks_of : TaskGraph → ℕ → List ℕ
blocks_of g stage = made_by (slice_get g.stages stage)

-- `need` holds for a task of the stage that reads block i by this read: for any where it is wide, else for task i
abbrev pub readers_need : (ℕ → Bool) → StageRow → ℕ → Read → Bool
readers_need need row i r = if r.wide then list_any need (below row.parallelism) else need i

abbrev pub needs_read : (ℕ → Bool) → StageRow → ℕ → ℕ → Read → Bool
needs_read need row v i r = (r.vertex == v) && readers_need need row i r

-- a task for which `need` holds reads block i of vertex v
abbrev pub is_read_by : TaskGraph → (ℕ → ℕ → Bool) → ℕ → ℕ → Bool
is_read_by g need v i = any_at (λ stage row. list_any (needs_read (need stage) row v i) row.reads) 0 g.stages

-- a block is wanted where it is a sink's or a needed task reads it
abbrev pub is_wanted_by : TaskGraph → (ℕ → ℕ → Bool) → ℕ → ℕ → Bool
is_wanted_by g need v i = is_sink g v || is_read_by g need v i

-- a task is needed where one of its blocks is gone and wanted. Whoever reads a block has a greater rank, so this goes
-- from the greatest rank downwards, and as many turns as there are ranks reach all who read.
abbrev pub needed_in : TaskGraph → (ℕ → ℕ → Bool) → ℕ → ℕ → ℕ → Bool
needed_in g gone zero stage i = false
needed_in g gone (suc turns) stage i = list_any (λ v. gone v i && is_wanted_by g (needed_in g gone turns) v i) (blocks_of g stage)

-- how many ranks there are
abbrev pub ranks : List StageRow → ℕ
ranks [] = 0
ranks (row ∷ rows) = max (suc row.rank) (ranks rows)

-- with `gone` for the blocks that are gone
abbrev pub needed : TaskGraph → (ℕ → ℕ → Bool) → ℕ → ℕ → Bool
needed g gone stage i = needed_in g gone (ranks g.stages) stage i

abbrev pub wanted : TaskGraph → (ℕ → ℕ → Bool) → ℕ → ℕ → Bool
wanted g gone v i = is_wanted_by g (needed g gone) v i
