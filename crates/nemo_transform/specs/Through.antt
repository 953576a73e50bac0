-- Rows that go through transforms which go row by row, one after another.
use Rattle.std.specs.Prelude.{ℕ, suc, List, [], ◌∷◌, ◌++◌, Option, None, map, option_map}
use Rattle.nemo_transform.specs.ArisenOrder.{place_cmp}
use Rattle.nemo_transform.specs.Brought.{Arisen, arisen}
use Rattle.nemo_transform.specs.FirstFault.{arisen_at, first_fault, lesser_by}
use Rattle.nemo_transform.specs.Gives.{Row, answers, own_faults, rows_in}
use Rattle.nemo_transform.specs.declared.lines.Passed.{Passed}
use Rattle.nemo_transform.specs.declared.transform.Transform.{Transform}

-- rows, and the first fault that comes with them
pub record Batch : Type 0 where
  pub rows : List Row
  pub first : Option (Arisen ℕ)

-- rows that come with no fault
abbrev pub clean : List Row → Batch
clean rows = record { rows = rows; first = None }

-- what the vertex of a place makes of rows, with the first fault that came with them or arose
abbrev pub through : ℕ → Transform → Batch → Batch
through place t k = record { rows = rows_in (answers t k.rows []); first = lesser_by place_cmp k.first (first_fault (map (arisen place) (own_faults (answers t k.rows [])))) }

-- the same of vertices one after another, from a place on
abbrev pub all_through : ℕ → List Transform → Batch → Batch
all_through place [] k = k
all_through place (t ∷ ts) k = all_through (suc place) ts (through place t k)

-- the rows of both, and the first fault of both
abbrev pub both : Batch → Batch → Batch
both a b = record { rows = a.rows ++ b.rows; first = lesser_by place_cmp a.first b.first }

-- what a line has made of rows, as code has it
abbrev pub passed : Passed → Batch
passed p = record { rows = p.rows; first = option_map arisen_at p.first }
