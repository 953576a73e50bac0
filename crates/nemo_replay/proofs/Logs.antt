-- The state that the log of a run of a one-stage line leaves, event by event.
use Rattle.std.proofs.Common.{arith, ◌≡◌, ◌∙◌, ap, refl, ℕ, zero, suc, ◌<◌, ◌≤◌, List, [], ◌∷◌, ◌++◌}
use Rattle.std.specs.List.{flat_map}
use Rattle.std.proofs.lemmas.Grind.{flat_map-append}
use Rattle.nemo_base.specs.declared.graph.TaskGraph.{TaskGraph}
use Rattle.nemo_base.specs.Settings.{SettingsForm}
use Rattle.nemo_ir.specs.Along.{below}
use Rattle.nemo_core.specs.Run.{run_on}
use Rattle.nemo_core.specs.State.{State, start}
use Rattle.nemo_core.specs.Step.{after}
use Rattle.nemo_core.specs.declared.event.Event.{Event}
use Rattle.nemo_core.specs.declared.event.Event.TheVariants.{Commit}
use Rattle.nemo_plan.specs.Line.{line_graph}
use Rattle.nemo_laws.specs.Data.{state_of}
use Rattle.nemo_replay.specs.StageRun.{slot_of, turn, turns}
use Rattle.nemo_replay.specs.StageStates.{ready}
use Rattle.nemo_replay.proofs.Commits.{commit_after}
use Rattle.nemo_replay.proofs.Counted.{below_suc}
use Rattle.nemo_replay.proofs.Launches.{launch_after}
use Rattle.nemo_replay.proofs.States.{start_ready}

run_on_append : (g : TaskGraph) (k : SettingsForm) (s : State) (es fs : List Event) → run_on g k s (es ++ fs) ≡ run_on g k (run_on g k s es) fs
run_on_append g k s [] fs = refl
run_on_append g k s (e ∷ es) fs = run_on_append g k (after g k s e) es fs

-- a task is launched and committed
turn_after : (m n : ℕ) (k : SettingsForm) (i : ℕ) → i < n → run_on (line_graph m n) k (ready m n k i) (turn k i) ≡ ready m n k (suc i)
turn_after m n k i lt = ap (λ s. after (line_graph m n) k s (Commit i)) (launch_after m n k i (slot_of k i)) ∙ commit_after m n k i (slot_of k i) lt

pub turns_more : (k : SettingsForm) (i : ℕ) → turns k (suc i) ≡ turns k i ++ turn k i
turns_more k i = ap (flat_map (turn k)) (below_suc i) ∙ flat_map-append (turn k) (below i) (i ∷ [])

pub turns_state : (m n : ℕ) (k : SettingsForm) (i : ℕ) → 1 ≤ m → i ≤ n → state_of (line_graph m n) k (turns k i) ≡ ready m n k i
turns_state m n k zero some le = start_ready m n k some
turns_state m n k (suc i) some le =
    ap (state_of (line_graph m n) k) (turns_more k i)
    ∙ run_on_append (line_graph m n) k (start (line_graph m n) k) (turns k i) (turn k i)
    ∙ ap (λ s. run_on (line_graph m n) k s (turn k i)) (turns_state m n k i some (omega arith))
    ∙ turn_after m n k i (omega arith)
