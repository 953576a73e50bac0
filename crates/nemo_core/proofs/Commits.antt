-- A commit that touches one task is the one that the event asks for.
use Rattle.std.proofs.Common.{arith, ◌≡◌, ◌∙◌, ap, sym, subst, refl, ℕ, ◌+◌, ◌<◌, List, map, length, slice_get, Bool, true, Option, Some, None}
use Rattle.std.proofs.lemmas.Bool.{eqb-true}
use Rattle.std.specs.Prelude.{is_some, slice_set}
use Rattle.nemo_base.specs.Places.{item_at, map_at, passes}
use Rattle.nemo_core.specs.Cell.{filled_at}
use Rattle.nemo_core.specs.Run.{stepped}
use Rattle.nemo_core.specs.State.{Machine, is_number, runs}
use Rattle.nemo_core.specs.Step.{ended, filled_row, running_of, sealed_by}
use Rattle.nemo_core.specs.Within.{AreSingle, RunsOnly, runs_at}
use Rattle.nemo_core.specs.declared.event.Event.TheVariants.{Commit}
use Rattle.nemo_core.specs.declared.event.HeldBy.{HeldBy}
use Rattle.nemo_core.specs.declared.row.Attempt.{Attempt}
use Rattle.nemo_core.specs.declared.row.TaskRow.{TaskRow}
use Rattle.nemo_core.proofs.Cells.{filled_cells, sealed_cell, within}
use Rattle.nemo_core.proofs.Single.{runs_only}

there : (o : Option TaskRow) (attempt : ℕ) → passes (runs attempt) o ≡ true → is_some o ≡ true
there (Some row) attempt h = refl
there None attempt h = cc

number_is : (o : Option TaskRow) (attempt : ℕ) (a : Attempt) → passes (runs attempt) o ≡ true → running_of o ≡ Some a → a.number ≡ attempt
number_is (Some row) attempt a h is = eqb-true a.number attempt (ap (passes (is_number attempt)) (sym is) ∙ h)
number_is None attempt a h is = cc

-- the state after the commit, part by part
parts : (m : Machine) (attempt : ℕ) (tasks : List (List TaskRow)) (sealed : List Bool) (blocks : List (List (Option HeldBy)))
    → tasks ≡ map (map (ended attempt)) m.state.tasks → sealed ≡ map_at (sealed_by m.state.tasks attempt) 0 m.state.sealed
    → blocks ≡ map_at (λ v row. filled_row m.settings m.state.incs m.state.tasks attempt (slice_get m.graph.vertices v) row) 0 m.state.blocks
    → record m { state = record m.state { commits = m.state.commits + 1; tasks = tasks; sealed = sealed; blocks = blocks }; taken = m.taken + 1 } ≡ stepped m (Commit attempt)
parts m attempt tasks sealed blocks t s b =
    ap (λ ts. record m { state = record m.state { commits = m.state.commits + 1; tasks = ts; sealed = sealed; blocks = blocks }; taken = m.taken + 1 }) t
    ∙ ap (λ ss. record m { state = record m.state { commits = m.state.commits + 1; tasks = map (map (ended attempt)) m.state.tasks; sealed = ss; blocks = blocks }; taken = m.taken + 1 }) s
    ∙ ap (λ bs. record m { state = record m.state { commits = m.state.commits + 1; tasks = map (map (ended attempt)) m.state.tasks; sealed = map_at (sealed_by m.state.tasks attempt) 0 m.state.sealed; blocks = bs }; taken = m.taken + 1 }) b

pub committed : (m : Machine) (attempt s i : ℕ) (a : Attempt) (incs : List ℕ) (tasks : List (List TaskRow)) (blocks : List (List (Option HeldBy)))
    → AreSingle m.state.tasks m.state.launches → length m.state.sealed ≡ length m.state.tasks → runs_at m.state.tasks attempt s i ≡ true → running_of (item_at m.state.tasks s i) ≡ Some a → incs ≡ m.state.incs
    → tasks ≡ map (map (ended attempt)) m.state.tasks → blocks ≡ map_at (λ v row. filled_at m.settings incs a s i (slice_get m.graph.vertices v) row) 0 m.state.blocks
    → record m { state = record m.state { commits = m.state.commits + 1; tasks = tasks; sealed = slice_set m.state.sealed s true; blocks = blocks }; taken = m.taken + 1 } ≡ stepped m (Commit attempt)
committed m attempt s i a incs tasks blocks single seals runs_it is slots t b =
    let number : a.number ≡ attempt = number_is (item_at m.state.tasks s i) attempt a runs_it is in
    let only : RunsOnly m.state.tasks attempt s i = runs_only m.state.tasks m.state.launches attempt s i single runs_it in
    let own : RunsOnly m.state.tasks a.number s i = subst (λ n. RunsOnly m.state.tasks n s i) (sym number) only in
    let stage_in : s < length m.state.tasks = (within m.state.tasks s i (there (item_at m.state.tasks s i) attempt runs_it)).0 in
    let seal_in : s < length m.state.sealed = omega (arith, seals, stage_in) in
    let all : blocks ≡ map_at (λ v row. filled_row m.settings m.state.incs m.state.tasks attempt (slice_get m.graph.vertices v) row) 0 m.state.blocks =
    b
    ∙ ap (λ ns. map_at (λ v row. filled_at m.settings ns a s i (slice_get m.graph.vertices v) row) 0 m.state.blocks) slots
    ∙ filled_cells m.settings m.state.incs m.state.tasks s i a m.graph.vertices m.state.blocks own is
    ∙ ap (λ n. map_at (λ v row. filled_row m.settings m.state.incs m.state.tasks n (slice_get m.graph.vertices v) row) 0 m.state.blocks) number in
    parts m attempt tasks (slice_set m.state.sealed s true) blocks t (sealed_cell m.state.tasks attempt s i m.state.sealed only seal_in) all
