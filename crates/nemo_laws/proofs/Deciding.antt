-- A stage of which every skewed vertex is decided stays so.
use Rattle.std.proofs.Common.{◌≡◌, refl, ℕ, ◌==◌, ◌&&◌, not, Bool, true, false, slice_get, Some}
use Rattle.std.proofs.lemmas.Bool.{and_from, and_parts, both_ways, eq-eqb, not-true}
use Rattle.nemo_base.specs.Places.{any_at}
use Rattle.nemo_base.specs.declared.graph.TaskGraph.{TaskGraph}
use Rattle.nemo_base.specs.declared.graph.VertexRow.{VertexRow}
use Rattle.nemo_base.proofs.Finding.{any_at_found, find_at}
use Rattle.nemo_core.specs.State.{State}
use Rattle.nemo_core.specs.Step.{all_decided, is_decided, is_open, is_skewed}

-- what is decided stays decided
abbrev pub DecidedStays : State → State → Type 0
DecidedStays s t = (v : ℕ) → is_decided s.cuts v ≡ true → is_decided t.cuts v ≡ true

turned : (b c : Bool) → (b ≡ true → c ≡ true) → not c ≡ true → not b ≡ true
turned true c more h = absurd (both_ways c (not-true c h) (more refl))
turned false c more h = refl

module _ (g : TaskGraph) (s t : State) (on : DecidedStays s t) where
  still_open : (stage v : ℕ) (row : VertexRow) → is_open t.cuts stage v row ≡ true → is_open s.cuts stage v row ≡ true
  still_open stage v row h =
      let a = and_parts ((row.stage == stage) && is_skewed row) (not (is_decided t.cuts v)) h in
      and_from ((row.stage == stage) && is_skewed row) (not (is_decided s.cuts v)) a.0 (turned (is_decided s.cuts v) (is_decided t.cuts v) (on v) a.1)

  pub decided_still : (stage : ℕ) → all_decided g s stage ≡ true → all_decided g t stage ≡ true
  decided_still stage h = turned (any_at (is_open t.cuts stage) 0 g.vertices) (any_at (is_open s.cuts stage) 0 g.vertices) more h
    where
      more : any_at (is_open t.cuts stage) 0 g.vertices ≡ true → any_at (is_open s.cuts stage) 0 g.vertices ≡ true
      more open_in = let f = find_at (is_open t.cuts stage) g.vertices open_in in any_at_found (is_open s.cuts stage) g.vertices f.place f.item f.there (still_open stage f.place f.item f.ok)

-- an undecided skewed vertex is of no stage that is decided
pub not_of_decided : (g : TaskGraph) (s : State) (v : ℕ) (row : VertexRow) → slice_get g.vertices v ≡ Some row → is_skewed row ≡ true → not (is_decided s.cuts v) ≡ true → all_decided g s row.stage ≡ true → ⊥
not_of_decided g s v row there skewed undecided all =
    let is = and_from ((row.stage == row.stage) && is_skewed row) (not (is_decided s.cuts v)) (and_from (row.stage == row.stage) (is_skewed row) (eq-eqb row.stage row.stage refl) skewed) undecided in
    both_ways (any_at (is_open s.cuts row.stage) 0 g.vertices) (not-true (any_at (is_open s.cuts row.stage) 0 g.vertices) all) (any_at_found (is_open s.cuts row.stage) g.vertices v row there is)
